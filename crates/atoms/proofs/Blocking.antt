-- The blocked cells, atom by atom. Assumes nothing.
use Rattle.std.proofs.Common.{◌≡◌, ℕ, ◌+◌, ◌<◌, Bool, ◌||◌, eqb, List, length, get_or, take, sym, ap, ◌∙◌, arith}
use Rattle.std.specs.List.{list_any}
use Rattle.std.proofs.lemmas.List.Folds.{list_any_more}
use Rattle.std.proofs.lemmas.Bool.Decides.{nat_tests}
use Rattle.slides.specs.declared.cell_set.CellSet.{CellSet}
use Rattle.slides.specs.Sets.{has, Inserts}
use Rattle.atoms.specs.Board.{is_wall_at}
use Rattle.atoms.specs.Level.{Atoms}

-- the order of tests does not matter
or_rotated : (x y z : Bool) → (x || (y || z)) ≡ ((y || x) || z)
or_rotated x y z = grind (arith, nat_tests)

module _ (l : Atoms) where
  -- one of some cells
  abbrev is_one_of : List ℕ → ℕ → Bool
  is_one_of cells k = list_any (λ cell. eqb k cell) cells

  -- the set has the walls and the first n of these cells
  abbrev pub BlockedBy : CellSet → List ℕ → ℕ → Type 0
  BlockedBy s cells n = (k : ℕ) → has s k ≡ (is_one_of (take n cells) k || is_wall_at l.board k)

  -- one cell more
  pub blocked_more : (s t : CellSet) (cells : List ℕ) (n : ℕ) → n < length cells → BlockedBy s cells n → Inserts (get_or cells n 0) s t → BlockedBy t cells (n + 1)
  blocked_more s t cells n h before more k =
      let c = get_or cells n 0 in
      more k
      ∙ ap (λ b. eqb k c || b) (before k)
      ∙ or_rotated (eqb k c) (is_one_of (take n cells) k) (is_wall_at l.board k)
      ∙ ap (λ b. b || is_wall_at l.board k) (sym (list_any_more (λ cell. eqb k cell) cells n 0 h))
