-- Pictures with the same labels. Assumes nothing.
use Rattle.std.proofs.Common.{◌≡◌, ℕ, suc, ◌+◌, ◌-◌, ◌≤◌, Bool, true, false, cond, ◌&&◌, eqb, leb, List, [], ◌∷◌, Decides, count_by, sym, refl, ap, ◌∙◌, ⊎_elim, arith}
use Rattle.std.specs.List.{range_with_len}
use Rattle.std.proofs.lemmas.List.FromFn.{length-range_with_len, get_or-range_with_len}
use Rattle.std.proofs.lemmas.List.Sums.{sum_by-cons, AllPass-from_list_all, list_all-from_AllPass}
use Rattle.std.proofs.lemmas.Bool.{cases_lt, cond-false, eqb-true, eq-eqb, ne_eqb}
use Rattle.std.proofs.lemmas.Bool.Decides.{nat_tests}
use Rattle.pictures.specs.declared.cell.Cell.{Cell}
use Rattle.pictures.specs.declared.cell.Cell.TheVariants.{Wall, Free, Atom}
use Rattle.pictures.specs.Cells.{lettered, Lettered}
use Rattle.pictures.specs.declared.picture.Picture.{Picture}
use Rattle.pictures.specs.Pictures.{Shape, shape}
use Rattle.pictures.proofs.Shapes.{lettered_cells}
use Rattle.molecules.specs.Atoms.{has_label, label_count, same_labels, SameLabels}

-- what is no letter A to Z
abbrev NoLetter : ℕ → Type 0
NoLetter label = (65 ≤ label) × (label ≤ 90) → ⊥

-- it is no label of a lettered cell
unlabelled : (label : ℕ) → NoLetter label → (x : Cell) → lettered x ≡ true → has_label label x ≡ false
unlabelled label other Wall l = refl
unlabelled label other Free l = refl
unlabelled label other (Atom k) l =
    ne_eqb label k (λ e. other (letter k label e l))
  where
    letter : (k label : ℕ) → label ≡ k → leb 65 k && leb k 90 ≡ true → (65 ≤ label) × (label ≤ 90)
    letter k label e l = (grind (arith, nat_tests), grind (arith, nat_tests))

-- so no lettered cells have it
none_labelled : (label : ℕ) → NoLetter label → (xs : List Cell) → Lettered xs → count_by (has_label label) xs ≡ 0
none_labelled label other [] ls = refl
none_labelled label other (x ∷ xs) ls =
    let none : ◌≡◌ {A = ℕ} (cond (has_label label x) 1 0) 0 = cond-false _ 1 0 (unlabelled label other x (ls 0)) in
    let rest = none_labelled label other xs (λ i. ls (suc i)) in
    omega (arith, sum_by-cons (λ y. cond (has_label label y) 1 0) x xs)

-- b and m have a label as often
abbrev pub alike : Shape → Shape → ℕ → Bool
alike b m label = eqb (label_count b label) (label_count m label)

-- pictures that have each letter as often have each label as often
pub same_labels_lem : (b m : Shape) → same_labels b m ≡ true → Lettered b.cells → Lettered m.cells → SameLabels b m
same_labels_lem b m e lb lm label =
    ⊎_elim (λ low. outside (λ h. omega arith))
    (λ from. ⊎_elim (λ high. outside (λ h. omega arith)) (λ to. inside from to) (cases_lt 90 label))
    (cases_lt label 65)
  where
    outside : NoLetter label → label_count b label ≡ label_count m label
    outside other = none_labelled label other b.cells lb ∙ sym (none_labelled label other m.cells lm)

    inside : 65 ≤ label → label ≤ 90 → label_count b label ≡ label_count m label
    inside from to =
        let here = get_or-range_with_len 65 26 (label - 65) 0 (omega arith) in
        let on : 65 + (label - 65) ≡ label = omega arith in
        let same = AllPass-from_list_all (alike b m) (range_with_len 65 26) e (label - 65) 0 (omega (arith, length-range_with_len 65 26)) in
        eqb-true _ _ (sym (ap (alike b m) (here ∙ on)) ∙ same)

-- and the other way round
pub same_labels_from : (b m : Shape) → SameLabels b m → same_labels b m ≡ true
same_labels_from b m same =
    list_all-from_AllPass (alike b m) (range_with_len 65 26) (λ k d h. eq-eqb _ _ (same _))

-- the test of the letters decides it for pictures
pub alike_decides : (b m : Picture) → Decides (same_labels (shape b) (shape m)) (SameLabels (shape b) (shape m))
alike_decides b m = (
  λ e. same_labels_lem (shape b) (shape m) e (lettered_cells b) (lettered_cells m),
  same_labels_from (shape b) (shape m),
)
