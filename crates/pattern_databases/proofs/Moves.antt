-- Part moves: where an atom comes to stand, what stays, and that each move can be taken back. Assumes nothing.
use Rattle.std.proofs.Common.{◌≡◌, ℕ, ◌+◌, ◌-◌, ◌*◌, ◌<◌, ◌≢◌, Bool, true, false, ◌||◌, eqb, List, ◌++◌, length, take, drop, get_or, set, sym, ap, ◌∙◌, subst, ⊎_elim, refl, arith}
use Rattle.std.specs.List.{list_any}
use Rattle.std.proofs.lemmas.List.{length-take, length-drop, length-set, get_or-take, get_or-drop, get_or-set_same, get_or-set_other, take-set-le, drop-set-lt, set-set, set-get_or}
use Rattle.std.proofs.lemmas.List.Elements.{All-append, All-from_get_or}
use Rattle.std.proofs.lemmas.List.Folds.{list_any-append, list_any_at, list_any_none}
use Rattle.std.proofs.lemmas.Bool.{cases_eq, cases_lt, eq-eqb, ne_eqb, both_ways, or_parts, or_from, or_left, or_right}
use Rattle.slides.specs.Slides.{Passes}
use Rattle.pictures.specs.Pictures.{Shape}
use Rattle.atoms.specs.Board.{is_wall_at}
use Rattle.pattern_databases.specs.Floor.{IsFree}
use Rattle.pattern_databases.specs.PartMoves.{Meet, partners, Stands, is_closed, Goes, PartMove}
use Rattle.pattern_databases.proofs.Passing.{passes_other, passes_last, passes_back}
use Rattle.pattern_databases.proofs.Opposite.{opposite}

-- The partners of an atom.

-- a partner passes a test: one does
partner_any : (p : ℕ → Bool) (cells : List ℕ) (atom i : ℕ) → i < length cells → i ≢ atom
    → p (get_or cells i 0) ≡ true → list_any p (partners cells atom) ≡ true
partner_any p cells atom i there other passes =
    list_any-append p (take atom cells) (drop (atom + 1) cells) ∙
    ⊎_elim
    (λ less.
    let is = get_or-take atom cells i 0 less in
    or_left _ _ (list_any_at p (take atom cells) i 0 (omega (arith, length-take atom cells)) (ap p is ∙ passes)))
    (λ more.
    let n = atom + 1 in
    let at : n + (i - n) ≡ i = omega arith in
    let is = get_or-drop n cells (i - n) 0 ∙ ap (λ k. get_or cells k 0) at in
    or_right _ _ (list_any_at p (drop n cells) (i - n) 0 (omega (arith, length-drop n cells)) (ap p is ∙ passes)))
    (cases_lt i atom)

-- no partner passes a test
partner_none : (p : ℕ → Bool) (cells : List ℕ) (atom : ℕ)
    → ((i : ℕ) → i < length cells → i ≢ atom → p (get_or cells i 0) ≡ false)
    → list_any p (partners cells atom) ≡ false
partner_none p cells atom none =
    list_any_none p (partners cells atom)
    (All-append (λ k. p k ≡ false) (take atom cells) (drop (atom + 1) cells)
    (All-from_get_or (λ k. p k ≡ false) (take atom cells) 0
    (λ i h. let less : (i < atom) × (i < length cells) = omega (arith, length-take atom cells) in
    ap p (get_or-take atom cells i 0 less.0) ∙ none i less.1 (omega arith)))
    (All-from_get_or (λ k. p k ≡ false) (drop (atom + 1) cells) 0
    (λ i h. let there : atom + 1 + i < length cells = omega (arith, length-drop (atom + 1) cells) in
    ap p (get_or-drop (atom + 1) cells i 0) ∙ none (atom + 1 + i) there (omega arith))))

-- they stay where they are
partners_stay : (cells : List ℕ) (atom to : ℕ) → partners (set cells atom to) atom ≡ partners cells atom
partners_stay cells atom to =
    ap (λ front. front ++ drop (atom + 1) (set cells atom to)) (take-set-le atom cells atom to (omega arith))
    ∙ ap (λ rest. take atom cells ++ rest) (drop-set-lt (atom + 1) cells atom to (omega arith))

module _ (b : Shape) where
  -- an atom never goes to the cell that it stands on
  pub goes_elsewhere : {cells : List ℕ} {atom to : ℕ} → Goes b cells atom to → to ≢ get_or cells atom 0
  goes_elsewhere g = passes_other _ _ _ _ _ _ _ g.way g.some

  -- nor to a partner's
  pub goes_apart : {cells : List ℕ} {atom to : ℕ} → Goes b cells atom to
      → (i : ℕ) → i < length cells → i ≢ atom → get_or cells i 0 ≢ to
  goes_apart {cells} {atom} {to} g i there other same =
      let open_there = (or_parts _ _ (passes_last _ _ _ _ _ _ _ g.way g.some).1).0 in
      both_ways _ open_there (partner_any (λ k. eqb to k) cells atom i there other (eq-eqb _ _ (sym same)))

  -- an atom that goes makes a part move; the fields of a PartMove are the way back
  pub move_of : {cells : List ℕ} {atom to : ℕ} → Stands b (length cells) cells → (Meet cells → ⊥) → atom < length cells
      → Goes b cells atom to → PartMove b cells (set cells atom to)
  move_of {cells} {atom} {to} stands apart there g =
      let is = sym (get_or-set_same cells atom to 0 there) in
      record {
        atom = atom;
        there = there;
        stands = stands;
        apart = apart;
        goes = subst (Goes b cells atom) is g;
        others = ap (set cells atom) is;
      }

  -- there are as many atoms after a move
  pub as_many : {cells after : List ℕ} → PartMove b cells after → length after ≡ length cells
  as_many {cells} {after} m = ap length m.others ∙ length-set cells m.atom (get_or after m.atom 0)

  -- the others stay
  pub others_stay : {cells after : List ℕ} (m : PartMove b cells after) → (i : ℕ) → i ≢ m.atom
      → get_or after i 0 ≡ get_or cells i 0
  others_stay {cells} {after} m i other =
      ap (λ xs. get_or xs i 0) m.others ∙ get_or-set_other cells m.atom i (get_or after m.atom 0) 0 other

  -- no atom is where the moved one comes to stand
  not_with_moved : {cells after : List ℕ} (m : PartMove b cells after) → (i : ℕ) → i < length after → i ≢ m.atom
      → get_or after i 0 ≢ get_or after m.atom 0
  not_with_moved m i there other same =
      goes_apart m.goes i (omega (arith, as_many m)) other (sym (others_stay m i other) ∙ same)

  -- no two atoms meet after a move
  pub after_apart : {cells after : List ℕ} → PartMove b cells after → Meet after → ⊥
  after_apart {cells} {after} m meet =
      ⊎_elim
      (λ first. not_with_moved m meet.other meet.other_there (λ e. meet.different (first ∙ sym e))
      (sym meet.same ∙ ap (λ i. get_or after i 0) first))
      (λ not_first.
      ⊎_elim
      (λ second. not_with_moved m meet.one meet.one_there not_first (meet.same ∙ ap (λ i. get_or after i 0) second))
      (λ not_second. m.apart (record {
        one = meet.one;
        other = meet.other;
        one_there = omega (arith, as_many m);
        other_there = omega (arith, as_many m);
        different = meet.different;
        same = sym (others_stay m meet.one not_first) ∙ meet.same ∙ others_stay m meet.other not_second;
      }))
      (cases_eq meet.other m.atom))
      (cases_eq meet.one m.atom)

  -- where an atom stands, none of its partners does, and no wall is
  own_cell_open : {cells : List ℕ} {atom : ℕ} → Stands b (length cells) cells → (Meet cells → ⊥) → atom < length cells
      → is_closed b cells atom (get_or cells atom 0) ≡ false
  own_cell_open {cells} {atom} stands apart there =
      or_from _ _ (partner_none (λ k. eqb (get_or cells atom 0) k) cells atom alone) (stands.free atom there).unwalled
    where
      alone : (i : ℕ) → i < length cells → i ≢ atom → eqb (get_or cells atom 0) (get_or cells i 0) ≡ false
      alone i i_there other = ne_eqb _ _ (λ same. apart (record {
        one = atom;
        other = i;
        one_there = there;
        other_there = i_there;
        different = λ e. other (sym e);
        same = same;
      }))

  -- the same cells are closed to the moved atom before and after
  same_closed : {cells after : List ℕ} (m : PartMove b cells after)
      → is_closed b cells m.atom ≡ is_closed b after m.atom
  same_closed {cells} {after} m =
      let same = sym (ap (λ xs. partners xs m.atom) m.others ∙ partners_stay cells m.atom (get_or after m.atom 0)) in
      ap (λ ps. λ cell. list_any (λ k. eqb cell k) ps || is_wall_at b cell) same

  -- the moved atom can go back
  goes_back : {cells after : List ℕ} (m : PartMove b cells after) → Goes b after m.atom (get_or cells m.atom 0)
  goes_back {cells} {after} m =
      let g = m.goes in
      let back = passes_back _ _ _ _ _ _ _ g.way (own_cell_open m.stands m.apart m.there) in
      let from = get_or after m.atom 0 in
      let to = get_or cells m.atom 0 in
      record {
        direction = opposite g.direction;
        passed = back.passed;
        some = omega (arith, back.long, g.some);
        way = subst (λ closed. Passes b.width b.height closed (opposite g.direction) from back.passed to)
            (same_closed m) back.way;
      }

  module _ (sized : length b.cells ≡ b.width * b.height) where
    -- an atom goes to a free cell
    pub goes_free : {cells : List ℕ} {atom to : ℕ} → Goes b cells atom to → IsFree b to
    goes_free g =
        let last = passes_last _ _ _ _ _ _ _ g.way g.some in
        record { inside = omega (arith, last.0); unwalled = (or_parts _ _ last.1).1 }

    -- the atoms stand on free cells after a move
    pub after_stands : {cells after : List ℕ} → PartMove b cells after → Stands b (length after) after
    after_stands {cells} {after} m = record {
      long = refl;
      free = λ i there. ⊎_elim
          (λ moved. subst (λ k. IsFree b (get_or after k 0)) (sym moved) (goes_free m.goes))
          (λ other. subst (IsFree b) (sym (others_stay m i other)) (m.stands.free i (omega (arith, as_many m))))
          (cases_eq i m.atom);
    }

    -- each move can be taken back
    pub back : {cells after : List ℕ} → PartMove b cells after → PartMove b after cells
    back {cells} {after} m = record {
      atom = m.atom;
      there = omega (arith, as_many m, m.there);
      stands = after_stands m;
      apart = after_apart m;
      goes = goes_back m;
      others = let was = get_or cells m.atom 0 in
          sym (set-get_or cells m.atom 0) ∙ sym (set-set cells m.atom (get_or after m.atom 0) was)
          ∙ sym (ap (λ xs. set xs m.atom was) m.others);
    }
