-- Ways over free cells: where they end, which other cells may be blocked, and that they lead back. Assumes nothing.
use Rattle.std.proofs.Common.{◌≡◌, ℕ, ◌+◌, ◌*◌, ◌<◌, ◌≢◌, Bool, false, List, [], ◌∷◌, length, sym, ap, ◌∙◌, arith}
use Rattle.grid.specs.declared.Direction.{Direction}
use Rattle.grid.proofs.Laws.{neighbour_inside}
use Rattle.slides.specs.Slides.{Passes, stays, goes}
use Rattle.slides.proofs.Ahead.{ahead, ahead_less}
use Rattle.pattern_databases.proofs.Opposite.{opposite, leads_back}

module _ (w h : ℕ) (d : Direction) where
  -- as many cells are passed as there are less ahead
  passes_ahead : (f : ℕ → Bool) (c t : ℕ) (ns : List ℕ) → Passes w h f d c ns t
      → length ns + ahead w h t d ≡ ahead w h c d
  passes_ahead f c t [] stays = omega arith
  passes_ahead f c t (n ∷ ns) (goes e free p) =
      let less = ahead_less w h c d n e in
      omega (arith, passes_ahead f n t ns p)

  -- so one is never back on the first cell
  pub passes_other : (f : ℕ → Bool) (c t : ℕ) (ns : List ℕ) → Passes w h f d c ns t → 0 < length ns → t ≢ c
  passes_other f c t ns p some same = omega (arith, passes_ahead f c t ns p, ap (λ x. ahead w h x d) same)

  -- the last cell that is passed is a free one of the board
  pub passes_last : (f : ℕ → Bool) (c t : ℕ) (ns : List ℕ) → Passes w h f d c ns t → 0 < length ns
      → (t < w * h) × (f t ≡ false)
  passes_last f c t [] p some = absurd (omega arith)
  passes_last f c t (n ∷ []) (goes e free stays) some = (neighbour_inside w h c d n e, free)
  passes_last f c t (n ∷ m ∷ ms) (goes e free p) some = passes_last f n t (m ∷ ms) p (omega arith)

  -- only the cells of the board matter
  pub passes_same : (f g : ℕ → Bool) → ((k : ℕ) → k < w * h → f k ≡ g k) → (c t : ℕ) (ns : List ℕ)
      → Passes w h f d c ns t → Passes w h g d c ns t
  passes_same f g same c t [] stays = stays
  passes_same f g same c t (n ∷ ns) (goes e free p) =
      goes e (sym (same n (neighbour_inside w h c d n e)) ∙ free) (passes_same f g same n t ns p)

  -- a way in the opposite direction that passes as many cells
  pub record Way (f : ℕ → Bool) (from to n : ℕ) : Type 0 where
    pub passed : List ℕ
    pub long : length passed ≡ n
    pub way : Passes w h f (opposite d) from passed to

  -- a way back that goes on by another one
  back_and_on : (f : ℕ → Bool) (c t s : ℕ) (ns ms : List ℕ) → Passes w h f d c ns t → f c ≡ false
      → Passes w h f (opposite d) c ms s
      → Way f t s (length ns + length ms)
  back_and_on f c t s [] ms stays free on = record { passed = ms; long = omega arith; way = on }
  back_and_on f c t s (n ∷ ns) ms (goes e next p) free on =
      let more = back_and_on f n t s ns (c ∷ ms) p next (goes (leads_back w h c d n e) free on) in
      record { passed = more.passed; long = omega (arith, more.long); way = more.way }

  -- a way leads back, from its last cell to its first
  pub passes_back : (f : ℕ → Bool) (c t : ℕ) (ns : List ℕ) → Passes w h f d c ns t → f c ≡ false → Way f t c (length ns)
  passes_back f c t ns p free =
      let back = back_and_on f c t c ns [] p free stays in
      record { passed = back.passed; long = omega (arith, back.long); way = back.way }
