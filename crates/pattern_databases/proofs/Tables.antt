-- The table of neighbours while it is filled: one direction after another, and cell by cell. Assumes nothing.
use Rattle.std.proofs.Common.{◌≡◌, ℕ, zero, suc, ◌+◌, ◌*◌, ◌<◌, ◌≤◌, List, [], ◌∷◌, length, get_or, set, ap, ◌∙◌, below_more, refl, arith}
use Rattle.std.proofs.lemmas.List.{get_or-set_same, get_or-set_other}
use Rattle.grid.specs.declared.Direction.{Direction}
use Rattle.grid.specs.declared.Direction.TheVariants.{Up, Down, Left, Right}
use Rattle.grid.specs.Grid.{number_of}
use Rattle.pattern_databases.specs.inside.Walking.{step}

abbrev pub all_directions : List Direction
all_directions = Up ∷ Down ∷ Left ∷ Right ∷ []

abbrev pub direction_at : ℕ → Direction
direction_at i = get_or all_directions i Up

-- they stand in the order of their numbers
pub numbered : (i : ℕ) → i < 4 → number_of (direction_at i) ≡ i
numbered zero few = refl
numbered (suc zero) few = refl
numbered (suc (suc zero)) few = refl
numbered (suc (suc (suc zero))) few = refl
numbered (suc (suc (suc (suc i)))) few = absurd (omega arith)

-- a direction's part of the table shows the first k cells' neighbours
abbrev pub ShowsFirst : ℕ → ℕ → List ℕ → Direction → ℕ → Type 0
ShowsFirst w h steps d k = (cell : ℕ) → cell < k → get_or steps (number_of d * 256 + cell) 0 ≡ step w h cell d

-- so do the parts of the directions whose numbers are below n, and all their cells' neighbours
abbrev pub ShowsDirections : ℕ → ℕ → List ℕ → ℕ → Type 0
ShowsDirections w h steps n = (d : Direction) → number_of d < n → ShowsFirst w h steps d (w * h)

module _ (w h : ℕ) (steps : List ℕ) (e : Direction) (cell place next : ℕ) (is : place ≡ number_of e * 256 + cell) where
  -- one cell more is written
  pub one_more : place < length steps → next ≡ step w h cell e → ShowsFirst w h steps e cell
      → ShowsFirst w h (set steps place next) e (cell + 1)
  one_more there right shows =
      below_more (λ k. get_or (set steps place next) (number_of e * 256 + k) 0 ≡ step w h k e) cell
      (λ k less. get_or-set_other steps place (number_of e * 256 + k) next 0 (omega arith) ∙ shows k less)
      (ap (λ i. get_or (set steps place next) i 0) (omega arith) ∙ get_or-set_same steps place next 0 there ∙ right)

  -- the parts of the directions before it stay
  pub parts_stay : w * h ≤ 256 → (n : ℕ) → n ≤ number_of e → ShowsDirections w h steps n
      → ShowsDirections w h (set steps place next) n
  parts_stay few n before shows d earlier k on =
      get_or-set_other steps place (number_of d * 256 + k) next 0 (omega arith) ∙ shows d earlier k on

-- what is read from a whole table is the next cell
pub read : (w h : ℕ) (steps : List ℕ)
    → ((d : Direction) → (cell : ℕ) → cell < w * h → get_or steps (number_of d * 256 + cell) 0 ≡ step w h cell d)
    → (d : Direction) (cell n k : ℕ) → n ≡ number_of d → k ≡ cell → cell < w * h
    → get_or steps (n * 256 + k) 0 ≡ step w h cell d
read w h steps shows d cell n k number same on = ap (λ i. get_or steps i 0) (omega arith) ∙ shows d cell on
