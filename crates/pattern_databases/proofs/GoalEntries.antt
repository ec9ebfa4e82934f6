-- A test of each atom of a part on its cell decides which placements are goal entries. Assumes nothing.
use Rattle.std.proofs.Common.{◌≡◌, ℕ, ◌<◌, ◌≤◌, Bool, List, length, get_or, Decides, sym, refl, ap, ◌∙◌, subst, arith}
use Rattle.std.specs.List.{list_all, zip}
use Rattle.std.proofs.lemmas.List.{get_or_default}
use Rattle.std.proofs.lemmas.List.Elements.{All-get_or, All-from_get_or}
use Rattle.std.proofs.lemmas.Slice.Zip.{length-zip, get_or-zip}
use Rattle.std.proofs.lemmas.Bool.Decides.{Decides-at, Decides-like, Decides-by_and}
use Rattle.molecules.specs.GoalPlaces.{wants, LiesOver}
use Rattle.molecules.proofs.Overlays.{wants_exactly}
use Rattle.atoms.specs.Board.{labels_of}
use Rattle.atoms.specs.Level.{Atoms}
use Rattle.pattern_databases.specs.PartMoves.{Meet, Stands}
use Rattle.pattern_databases.specs.Books.{GoalEntry}

-- The atoms of a part with their cells, as many as these.
module _ (part cells : List ℕ) (as_many : length cells ≡ length part) where
  pairs_many : length (zip cells part) ≡ length part
  pairs_many = omega (arith, length-zip cells part)

  -- one of them by its place in the part
  atom_on : (i : ℕ) → i < length part → get_or (zip cells part) i (0, 0) ≡ (get_or cells i 0, get_or part i 0)
  atom_on i there = get_or-zip cells part i (0, 0) (omega arith) there

  -- the next one of a walk over them is an atom of the part
  pub atom_met : (k : ℕ) (p : ℕ × ℕ) → k < length (zip cells part) → p ≡ get_or (zip cells part) k p
      → (k < length part) × (p.1 ≡ get_or part k 0)
  atom_met k p h is =
      let there : k < length part = omega (arith, pairs_many) in
      let at = is ∙ get_or-zip cells part k p (omega arith) there in
      (there, ap (λ (q : ℕ × ℕ). q.1) at ∙ get_or_default part k p.1 0 there)

module _ (l : Atoms) (place : ℕ) where
  -- whether the molecule wants an atom on a cell
  abbrev pub is_wanted : ℕ × ℕ → Bool
  is_wanted p = wants l.board l.molecule place p.0 (get_or (labels_of l.board) p.1 0)

  -- the same in rows and columns
  abbrev Wanted : ℕ × ℕ → Type 0
  Wanted p = LiesOver l.board l.molecule place p.0 (get_or (labels_of l.board) p.1 0)

  wanted_decides : 1 ≤ l.molecule.width → (p : ℕ × ℕ) → Decides (is_wanted p) (Wanted p)
  wanted_decides wide p = wants_exactly l.board l.molecule place p.0 (get_or (labels_of l.board) p.1 0) wide

  -- where no two atoms meet, a placement is a goal entry just if each of them is wanted
  pub goal_decides : (part cells : List ℕ) → Stands l.board (length part) cells → 1 ≤ l.molecule.width
      → (Meet cells → ⊥) → (fits : Bool) → fits ≡ list_all is_wanted (zip cells part)
      → Decides fits (GoalEntry l place part cells)
  goal_decides part cells stands wide apart fits says =
      let pairs = zip cells part in
      Decides-like fits
      (λ all. record {
        stands = stands;
        apart = apart;
        fits = λ i there. subst Wanted (atom_on part cells stands.long i there)
            (All-get_or Wanted pairs i (0, 0) (omega (arith, pairs_many part cells stands.long)) all);
      })
      (λ goal. All-from_get_or Wanted pairs (0, 0)
      (λ i h. let there : i < length part = omega (arith, pairs_many part cells stands.long) in
      subst Wanted (sym (atom_on part cells stands.long i there)) (goal.fits i there)))
      (Decides-at _ _ says
      (Decides-by_and is_wanted Wanted (list_all is_wanted) (wanted_decides wide) refl (λ _ _. refl) pairs))
