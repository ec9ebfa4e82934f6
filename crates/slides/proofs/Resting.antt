-- Where one comes to rest: the steps that are counted and the passed cells say the same. Assumes nothing.
use Rattle.std.proofs.Common.{◌≡◌, ℕ, zero, suc, ◌+◌, ◌*◌, ◌<◌, ◌≤◌, Bool, true, false, cond, List, [], ◌∷◌, length, Some, None, Option, sym, refl, ap, ◌∙◌, subst, ⊎_elim, arith}
use mathlib.Core.Path.{fun_ext}
use Rattle.std.proofs.lemmas.Bool.{both_ways, cases_lt}
use Rattle.grid.specs.declared.Direction.{Direction}
use Rattle.grid.specs.Grid.{neighbour}
use Rattle.grid.proofs.Laws.{neighbour_inside}
use Rattle.slides.specs.Slides.{free_neighbour, cell_after, rest_cell, Passes, stays, goes, Stops, RestsAt, Slides, RestsExactly, SlidesExactly}
use Rattle.slides.proofs.Ahead.{ahead, ahead_few, ahead_less, from_inside}

module _ (w h : ℕ) (blocked : ℕ → Bool) (d : Direction) where
  -- what a free next cell says of the neighbour, and what gives it
  next_some : (c n : ℕ) → free_neighbour w h blocked d c ≡ Some n → (neighbour w h c d ≡ Some n) × (blocked n ≡ false)
  next_some c n e = by (neighbour w h c d) refl e
    where
      by_blocked : (m : ℕ) (b : Bool) → neighbour w h c d ≡ Some m → blocked m ≡ b → ◌≡◌ {A = Option ℕ} (cond b None (Some m)) (Some n) → (neighbour w h c d ≡ Some n) × (blocked n ≡ false)
      by_blocked m true at shut e = cc
      by_blocked m false at free e = let same : m ≡ n = cc in (at ∙ ap Some same, sym (ap blocked same) ∙ free)

      by : (o : Option ℕ) → neighbour w h c d ≡ o → ◌≡◌ {A = Option ℕ} (elim o [ Some m ↦ cond (blocked m) None (Some m) | None ↦ None ]) (Some n) → (neighbour w h c d ≡ Some n) × (blocked n ≡ false)
      by (Some m) at e = by_blocked m (blocked m) at refl e
      by None at e = cc

  next_free : (c n : ℕ) → neighbour w h c d ≡ Some n → blocked n ≡ false → free_neighbour w h blocked d c ≡ Some n
  next_free c n at free = cc

  next_none : (c : ℕ) → free_neighbour w h blocked d c ≡ None → Stops w h blocked d c
  next_none c e n at = by (blocked n) refl
    where
      by : (b : Bool) → blocked n ≡ b → b ≡ true
      by true shut = refl
      by false free = let on = next_free c n at free in cc

  next_stop : (c : ℕ) → Stops w h blocked d c → free_neighbour w h blocked d c ≡ None
  next_stop c stop = by (free_neighbour w h blocked d c) refl
    where
      by : (o : Option ℕ) → free_neighbour w h blocked d c ≡ o → o ≡ None
      by (Some n) e = let on = next_some c n e in absurd (both_ways (blocked n) on.1 (stop n on.0))
      by None e = refl

  -- as many steps as there are cells ahead lead to the last one
  settles_by : (k c : ℕ) → ahead w h c d ≤ k → RestsAt w h blocked d c (cell_after w h blocked d k c)
  settles_by zero c few = record { passed = []; free = stays; stop = λ n e. let less = ahead_less w h c d n e in absurd (omega arith) }
  settles_by (suc k) c few = by (free_neighbour w h blocked d c) refl (settles_by k)
    where
      by : (o : Option ℕ) → free_neighbour w h blocked d c ≡ o → ((n : ℕ) → ahead w h n d ≤ k → RestsAt w h blocked d n (cell_after w h blocked d k n)) → RestsAt w h blocked d c (elim o [ Some n ↦ cell_after w h blocked d k n | None ↦ c ])
      by (Some n) e more =
          let on = next_some c n e in
          let less = ahead_less w h c d n on.0 in
          let s = more n (omega arith) in
          record { passed = n ∷ s.passed; free = goes on.0 on.1 s.free; stop = s.stop }
      by None e more = record { passed = []; free = stays; stop = next_none c e }

  -- who passes cells and then stops rests there, after at least so many steps
  rests_by : (k c t : ℕ) (ns : List ℕ) → Passes w h blocked d c ns t → Stops w h blocked d t → length ns ≤ k → cell_after w h blocked d k c ≡ t
  rests_by zero c t [] stays stop few = refl
  rests_by (suc k) c t [] stays stop few = ap (λ o. elim o [ Some n ↦ cell_after w h blocked d k n | None ↦ c ]) (next_stop c stop)
  rests_by zero c t (n ∷ ns) (goes e f p) stop few = absurd (omega arith)
  rests_by (suc k) c t (n ∷ ns) (goes e f p) stop few =
      ap (λ o. elim o [ Some m ↦ cell_after w h blocked d k m | None ↦ c ]) (next_free c n e f) ∙ rests_by k n t ns p stop (omega arith)

  -- as many cells are passed as there are less ahead
  passes_ahead : (c t : ℕ) (ns : List ℕ) → Passes w h blocked d c ns t → length ns + ahead w h t d ≡ ahead w h c d
  passes_ahead c t [] stays = omega arith
  passes_ahead c t (n ∷ ns) (goes e f p) = let less = ahead_less w h c d n e in omega (arith, passes_ahead n t ns p)

  -- no line has more than w + h cells
  passes_few : (c t : ℕ) (ns : List ℕ) → Passes w h blocked d c ns t → length ns ≤ w + h
  passes_few c t [] stays = omega arith
  passes_few c t (n ∷ ns) (goes e f p) =
      let few = ahead_few w h c d (from_inside w h c d n e) in
      omega (arith, passes_ahead c t (n ∷ ns) (goes e f p))

  -- w + h steps are enough
  rests_at : (c t : ℕ) (ns : List ℕ) → Passes w h blocked d c ns t → Stops w h blocked d t → rest_cell w h blocked d c ≡ t
  rests_at c t ns p stop = rests_by (w + h) c t ns p stop (passes_few c t ns p)

  stays_there : (c : ℕ) → Stops w h blocked d c → rest_cell w h blocked d c ≡ c
  stays_there c stop = rests_at c c [] stays stop

  -- from each cell one comes to rest there
  settles : (c : ℕ) → RestsAt w h blocked d c (rest_cell w h blocked d c)
  settles c =
      ⊎_elim (λ on. settles_by (w + h) c (ahead_few w h c d on))
      (λ off.
      let stop : Stops w h blocked d c = λ n e. let on = from_inside w h c d n e in absurd (omega arith) in
      subst (RestsAt w h blocked d c) (sym (stays_there c stop)) (record { passed = []; free = stays; stop = stop }))
      (cases_lt c (w * h))

  -- the loop's steps

  pub step_less : (c n : ℕ) → free_neighbour w h blocked d c ≡ Some n → ahead w h n d < ahead w h c d
  step_less c n e = omega (arith, ahead_less w h c d n (next_some c n e).0)

  pub step_on : (c n : ℕ) → free_neighbour w h blocked d c ≡ Some n → rest_cell w h blocked d n ≡ rest_cell w h blocked d c
  step_on c n e =
      let on = next_some c n e in
      let s = settles n in
      sym (rests_at c _ (n ∷ s.passed) (goes on.0 on.1 s.free) s.stop)

  pub step_last : (c : ℕ) → free_neighbour w h blocked d c ≡ None → rest_cell w h blocked d c ≡ c
  step_last c e = stays_there c (next_none c e)

  -- one is back on the first cell only before the first step
  passes_some : (c t : ℕ) (ns : List ℕ) → Passes w h blocked d c ns t → (t ≡ c → ⊥) → 0 < length ns
  passes_some c t [] stays apart = absurd (apart refl)
  passes_some c t (n ∷ ns) p apart = omega arith

  passes_other : (c t : ℕ) (ns : List ℕ) → Passes w h blocked d c ns t → 0 < length ns → t ≡ c → ⊥
  passes_other c t ns p some same = omega (arith, passes_ahead c t ns p, ap (λ x. ahead w h x d) same)

  -- the last cell that is passed
  passes_last : (c t : ℕ) (ns : List ℕ) → Passes w h blocked d c ns t → 0 < length ns → (t < w * h) × (blocked t ≡ false)
  passes_last c t [] p some = absurd (omega arith)
  passes_last c t (n ∷ []) (goes e f stays) some = (neighbour_inside w h c d n e, f)
  passes_last c t (n ∷ m ∷ ms) (goes e f p) some = passes_last n t (m ∷ ms) p (omega arith)

  -- for callers

  rest_rests : (c t : ℕ) → rest_cell w h blocked d c ≡ t → RestsAt w h blocked d c t
  rest_rests c t e = subst (RestsAt w h blocked d c) e (settles c)

  pub rests_exactly : (c : ℕ) → RestsExactly w h blocked d c
  rests_exactly c t = (rest_rests c t, λ r. rests_at c t r.passed r.free r.stop)

  rest_slides : (c t : ℕ) → rest_cell w h blocked d c ≡ t → (t ≡ c → ⊥) → Slides w h blocked d c t
  rest_slides c t e apart =
      let r = rest_rests c t e in
      record { passed = r.passed; free = r.free; some = passes_some c t r.passed r.free apart; stop = r.stop }

  pub slides_exactly : (c : ℕ) → SlidesExactly w h blocked d c
  slides_exactly c t = (
    λ e. rest_slides c t e.0 e.1,
    λ s. (rests_at c t s.passed s.free s.stop, passes_other c t s.passed s.free s.some),
  )

  -- where one slides to is a free cell of the board
  pub rest_on_free : (c t : ℕ) → rest_cell w h blocked d c ≡ t → (t ≡ c → ⊥) → (t < w * h) × (blocked t ≡ false)
  rest_on_free c t e apart = let s = rest_slides c t e apart in passes_last c t s.passed s.free s.some

-- where one rests depends only on which cells are blocked
pub rest_same : (w h : ℕ) (f g : ℕ → Bool) (d : Direction) (c : ℕ) → ((k : ℕ) → f k ≡ g k) → rest_cell w h f d c ≡ rest_cell w h g d c
rest_same w h f g d c same = ap (λ b. rest_cell w h b d c) (fun_ext same)
