-- Walks in one direction after another, and step by step: what has been reached, and what lies ahead. Assumes nothing.
use Rattle.std.proofs.Common.{◌≡◌, ◌↔◌, ◌⊎◌, ℕ, ◌+◌, ◌*◌, ◌<◌, ◌≤◌, ◌≢◌, true, false, List, [], ◌∷◌, ◌++◌, length, take, Some, None, Option, unwrap_or, inl, inr, refl, sym, ap, ◌∙◌, subst, ⊎_elim, arith}
use Rattle.std.specs.List.{Contains}
use Rattle.std.proofs.lemmas.List.Elements.{Contains-push, Contains-append_left, Contains-push_cases}
use Rattle.std.proofs.lemmas.List.{length_push, length-take-le}
use Rattle.std.proofs.lemmas.Bool.{both_ways, cases_lt}
use Rattle.grid.specs.declared.Direction.{Direction}
use Rattle.grid.specs.declared.Direction.TheVariants.{Up, Down, Left, Right}
use Rattle.grid.specs.Grid.{number_of, direction_of, neighbour}
use Rattle.grid.proofs.Laws.{steps_on, neighbour_inside, number_of_lt, direction_of_number_of}
use Rattle.slides.specs.Slides.{Passes, stays, goes}
use Rattle.slides.proofs.Ahead.{ahead, ahead_less}
use Rattle.pattern_databases.specs.inside.Walking.{step, is_marked, WalksExactly}
use Rattle.pattern_databases.proofs.Opposite.{row_below, column_below}

-- fewer than 16 cells lie ahead in one direction
pub ahead_short : (w h c : ℕ) (d : Direction) → w ≤ 16 → h ≤ 16 → c < w * h → ahead w h c d ≤ 15
ahead_short w h c Up wide high on = omega (arith, row_below w h c on)
ahead_short w h c Down wide high on = omega arith
ahead_short w h c Left wide high on = omega (arith, column_below w h c on)
ahead_short w h c Right wide high on = omega arith

-- two directions with one number are one
same_number : (d e : Direction) → number_of d ≡ number_of e → d ≡ e
same_number d e same =
    let both = sym (direction_of_number_of d) ∙ ap direction_of same ∙ direction_of_number_of e in
    cc

-- one landing more
pub count_more : (xs ys : List ℕ) (n m x : ℕ) → n ≤ length xs → m ≤ length ys → take m ys ≡ take n xs ++ x ∷ []
    → m ≡ n + 1
count_more xs ys n m x old new e =
    omega (arith, ap length e, length_push (take n xs) x, length-take-le n xs old, length-take-le m ys new)

module _ (w h : ℕ) (map : List ℕ) where
  -- a walk in a known direction
  pub record Ray (d : Direction) (from to : ℕ) : Type 0 where
    pub passed : List ℕ
    pub some : 0 < length passed
    pub way : Passes w h (is_marked map) d from passed to

  -- a walk in one of the first n directions
  pub record Early (n from to : ℕ) : Type 0 where
    pub direction : Direction
    pub early : number_of direction < n
    pub ray : Ray direction from to

  -- the landings are what the first n directions reach
  abbrev pub ReachedEarly : ℕ → ℕ → List ℕ → Type 0
  ReachedEarly n from ls = (to : ℕ) → Contains ls to ↔ Early n from to

  -- the landings, with what is still reached from a cell, are what the first n directions and this one reach
  abbrev pub ReachedWith : ℕ → Direction → ℕ → ℕ → List ℕ → Type 0
  ReachedWith n d from at ls = (to : ℕ) → (Contains ls to ⊎ Ray d at to) ↔ (Early n from to ⊎ Ray d from to)

  -- nothing is reached in no direction, and in four of them everything
  pub reached_none : (from : ℕ) → ReachedEarly 0 from []
  reached_none from to = (λ has. absurd (omega arith), λ early. absurd (omega arith))

  pub reached_all : (n from : ℕ) (ls : List ℕ) → 4 ≤ n → ReachedEarly n from ls → WalksExactly w h map from ls
  reached_all n from ls all reached to = (
    λ has. let e = (reached to).0 has in
        record { direction = e.direction; passed = e.ray.passed; some = e.ray.some; way = e.ray.way },
    λ s. (reached to).1 (record {
      direction = s.direction;
      early = omega (arith, number_of_lt s.direction);
      ray = record { passed = s.passed; some = s.some; way = s.way };
    }),
  )

  -- a direction begins where one stands
  pub with_start : (n : ℕ) (d : Direction) (from : ℕ) (ls : List ℕ) → ReachedEarly n from ls
      → ReachedWith n d from from ls
  with_start n d from ls reached to =
      (⊎_elim (λ has. inl ((reached to).0 has)) inr, ⊎_elim (λ early. inl ((reached to).1 early)) inr)

  module _ (d : Direction) (at next : ℕ) (is : next ≡ step w h at d) where
    -- the next cell is the neighbour, where there is one
    next_to : (n : ℕ) → neighbour w h at d ≡ Some n → next ≡ n
    next_to n e = is ∙ ap (λ o. unwrap_or o at) e

    -- and it is the neighbour, where it is another cell
    pub next_goes : next ≢ at → neighbour w h at d ≡ Some next
    next_goes other = by (neighbour w h at d) refl
      where
        by : (o : Option ℕ) → neighbour w h at d ≡ o → neighbour w h at d ≡ Some next
        by (Some n) e = e ∙ ap Some (sym (next_to n e))
        by None e = absurd (other (is ∙ ap (λ o. unwrap_or o at) e))

    -- a cell of the board with one cell less ahead
    pub next_inside : next ≢ at → next < w * h
    next_inside other = neighbour_inside w h at d next (next_goes other)

    pub next_less : next ≢ at → ahead w h next d + 1 ≡ ahead w h at d
    next_less other = ahead_less w h at d next (next_goes other)

    -- a walk from here begins with the next cell
    first_step : (to : ℕ) → Ray d at to → (next ≢ at) × (is_marked map next ≡ false) × (to ≡ next ⊎ Ray d next to)
    first_step to r = by r.passed r.some r.way
      where
        by : (ns : List ℕ) → 0 < length ns → Passes w h (is_marked map) d at ns to
            → (next ≢ at) × (is_marked map next ≡ false) × (to ≡ next ⊎ Ray d next to)
        by [] some p = absurd (omega arith)
        by (n ∷ []) some (goes e free stays) =
            let same = next_to n e in
            (λ back. (steps_on w h at d n e).1 (sym same ∙ back), ap (is_marked map) same ∙ free, inl (sym same))
        by (n ∷ m ∷ ms) some (goes e free p) =
            let same = next_to n e in (
              λ back. (steps_on w h at d n e).1 (sym same ∙ back),
              ap (is_marked map) same ∙ free,
              inr (subst (λ k. Ray d k to) (sym same) (record { passed = m ∷ ms; some = omega arith; way = p })),
            )

    module _ (n from : ℕ) (ls : List ℕ) (reached : ReachedWith n d from at ls) where
      -- one step on, onto a free cell
      pub with_step : next ≢ at → is_marked map next ≡ false → ReachedWith n d from next (ls ++ next ∷ [])
      with_step other free to =
          let e = next_goes other in
          let onward : Ray d next to → Ray d at to =
          λ r. record { passed = next ∷ r.passed; some = omega arith; way = goes e free r.way } in
          let one : Ray d at next = record { passed = next ∷ []; some = omega arith; way = goes e free stays } in (
            ⊎_elim
                (λ has. ⊎_elim
                (λ before. (reached to).0 (inl before))
                (λ now. (reached to).0 (inr (subst (Ray d at) now one)))
                (Contains-push_cases ls next to has))
                (λ r. (reached to).0 (inr (onward r))),
            λ goal. ⊎_elim
                (λ before. inl (Contains-append_left ls (next ∷ []) to before))
                (λ r. ⊎_elim
                (λ now. inl (subst (Contains (ls ++ next ∷ [])) (sym now) (Contains-push ls next)))
                inr
                (first_step to r).2)
                ((reached to).1 goal),
          )

      -- no step on: this direction is done too
      pub with_stop : n ≡ number_of d → (next ≢ at → is_marked map next ≡ true) → ReachedEarly (n + 1) from ls
      with_stop number stop to = (
        λ has. ⊎_elim
            (λ early. record { direction = early.direction; early = omega (arith, early.early); ray = early.ray })
            (λ r. record { direction = d; early = omega arith; ray = r })
            ((reached to).0 (inl has)),
        λ early. ⊎_elim
            (λ has. has)
            (λ r. let s = first_step to r in absurd (both_ways _ s.1 (stop s.0)))
            ((reached to).1 (sorted early)),
      )
        where
          sorted : Early (n + 1) from to → Early n from to ⊎ Ray d from to
          sorted early =
              ⊎_elim
              (λ less. inl (record { direction = early.direction; early = less; ray = early.ray }))
              (λ more.
              let same = same_number early.direction d (omega (arith, early.early)) in
              inr (subst (λ e. Ray e from to) same early.ray))
              (cases_lt (number_of early.direction) n)
