-- A position is finished exactly where on some goal place every atom is wanted. Assumes nothing.
use Rattle.std.proofs.Common.{◌≡◌, ℕ, ◌+◌, ◌<◌, ◌≤◌, Bool, true, false, ◌||◌, List, length, get_or, take, drop, Decides, sym, refl, ap, ◌∙◌, subst}
use Rattle.std.specs.List.{list_any}
use Rattle.std.proofs.lemmas.List.Elements.{Contains-get_or, at_from_Contains}
use Rattle.std.proofs.lemmas.List.{at_drop_more, at_drop_all, get_or-take}
use Rattle.std.proofs.lemmas.Bool.Decides.{Decides-at, Decides-by_or, Decides-like}
use Rattle.molecules.specs.Below.{every_below}
use Rattle.molecules.specs.GoalPlaces.{goal_places, wants, LiesOver}
use Rattle.molecules.proofs.Below.{every_below_lem, every_below_from, every_below_not, every_below_more}
use Rattle.molecules.proofs.Overlays.{wants_exactly}
use Rattle.molecules.proofs.Passing.{lists_exactly}
use Rattle.atoms.specs.declared.position.Position.{Position}
use Rattle.atoms.specs.Board.{labels_of}
use Rattle.atoms.specs.Level.{Atoms, count, fits, finished}
use Rattle.atoms.specs.Moves.{Finished}

module _ (l : Atoms) (p : Position) where
  -- whether atom a stands on a cell of its label
  abbrev pub fits_at : ℕ → ℕ → Bool
  fits_at goal_place a = wants l.board l.molecule goal_place (get_or p.cells a 0) (get_or (labels_of l.board) a 0)

  -- the atoms before a do
  abbrev pub FitsBefore : ℕ → ℕ → Type 0
  FitsBefore goal_place a = every_below a (fits_at goal_place) ≡ true

  -- no goal place before number n of the list fits
  abbrev pub NoneFits : List ℕ → ℕ → Type 0
  NoneFits all n = list_any (fits l p) (drop n all) ≡ list_any (fits l p) all

  -- what the molecule answers of the cell and the label of an atom
  pub fits_by : (goal_place a cell label : ℕ) (r : Bool) → a < count l → cell ≡ get_or (take (count l) p.cells) a 0 → label ≡ get_or (labels_of l.board) a 0 → r ≡ wants l.board l.molecule goal_place cell label → fits_at goal_place a ≡ r
  fits_by goal_place a cell label r there stands labelled e =
      let here : cell ≡ get_or p.cells a 0 = stands ∙ get_or-take (count l) p.cells a 0 there in cc

  -- the steps of a walk over the atoms
  pub fits_more : (goal_place a : ℕ) → FitsBefore goal_place a → fits_at goal_place a ≡ true → FitsBefore goal_place (a + 1)
  fits_more goal_place a before here = every_below_more a (fits_at goal_place) before here

  pub fits_not : (goal_place a : ℕ) → a < count l → fits_at goal_place a ≡ false → fits l p goal_place ≡ false
  fits_not goal_place a there not = every_below_not (count l) (fits_at goal_place) a there not

  pub fits_all : (goal_place a : ℕ) → count l ≡ a → FitsBefore goal_place a → fits l p goal_place ≡ true
  fits_all goal_place a all before = ap (λ n. every_below n (fits_at goal_place)) all ∙ before

  module _ (all : List ℕ) (n : ℕ) where
    -- the steps of a walk over the goal places
    pub none_more : n < length all → NoneFits all n → fits l p (get_or all n 0) ≡ false → NoneFits all (n + 1)
    none_more h none not =
        sym (at_drop_more (list_any (fits l p)) all n 0 h ∙ ap (λ b. b || list_any (fits l p) (drop (n + 1) all)) not) ∙ none

    pub some_here : n < length all → NoneFits all n → fits l p (get_or all n 0) ≡ true → list_any (fits l p) all ≡ true
    some_here h none here =
        sym none ∙ at_drop_more (list_any (fits l p)) all n 0 h ∙ ap (λ b. b || list_any (fits l p) (drop (n + 1) all)) here

    pub none_all : length all ≤ n → NoneFits all n → list_any (fits l p) all ≡ false
    none_all h none = sym none ∙ at_drop_all (list_any (fits l p)) all n h

  -- every atom is wanted where it stands
  abbrev AllLieOver : ℕ → Type 0
  AllLieOver goal_place =
      (a : ℕ) → a < count l → LiesOver l.board l.molecule goal_place (get_or p.cells a 0) (get_or (labels_of l.board) a 0)

  module _ (wide : 1 ≤ l.molecule.width) where
    fits_exactly : (goal_place : ℕ) → Decides (fits l p goal_place) (AllLieOver goal_place)
    fits_exactly goal_place = (
      λ e a h. (wants_exactly l.board l.molecule goal_place _ _ wide).0 (every_below_lem (count l) (fits_at goal_place) e a h),
      λ w. every_below_from (count l) (fits_at goal_place) (λ a h. (wants_exactly l.board l.molecule goal_place _ _ wide).1 (w a h)),
    )

    -- the test says whether the position is finished
    finished_exactly : Decides (finished l p) (Finished l p)
    finished_exactly =
        let all = goal_places l.board l.molecule in
        let lists = lists_exactly l.board l.molecule in
        Decides-like (finished l p)
        (λ found.
        let on = (lists (get_or all found.0 0)).0 (Contains-get_or all found.0 0 found.1) in
        record { goal_place = get_or all found.0 0; inside = on.0; goal = on.1; fits = found.2 0 })
        (λ f.
        let at = at_from_Contains all f.goal_place ((lists f.goal_place).1 (f.inside, f.goal)) in
        (at.0, at.1, λ d. subst AllLieOver (sym (at.2 d)) f.fits))
        (Decides-by_or (fits l p) AllLieOver (list_any (fits l p)) fits_exactly refl (λ _ _. refl) all)

    -- an answer that is the test's decides it
    pub finished_decides : (b : Bool) → b ≡ finished l p → Decides b (Finished l p)
    finished_decides b says = Decides-at _ _ says finished_exactly
