-- One move of a level is a part move of the one part that its atom is in, and no other part moves. Assumes nothing.
use Rattle.std.proofs.Common.{◌≡◌, ℕ, ◌+◌, ◌<◌, Bool, false, eqb, List, [], ◌∷◌, length, get_or, take, set, sym, ap, ◌∙◌, subst, ⊎_elim, arith}
use Rattle.std.specs.List.{list_any, All}
use Rattle.std.proofs.lemmas.List.{length-map, length-set, length-take, get_or-map, get_or-take, get_or-set_same, get_or-set_other, ext_get_or}
use Rattle.std.proofs.lemmas.List.Elements.{All-append, All-take, All-drop, All-from_get_or}
use Rattle.std.proofs.lemmas.List.Folds.{list_any_at, list_any_none}
use Rattle.std.proofs.lemmas.Bool.{cases_eq, both_ways, or_parts, or_from, false_from_ne_true}
use Rattle.grid.specs.declared.Direction.{Direction}
use Rattle.slides.specs.Slides.{Passes, stays, goes}
use Rattle.atoms.specs.declared.position.Position.{Position}
use Rattle.atoms.specs.Level.{Atoms, count, is_blocked}
use Rattle.atoms.specs.Moves.{Moves}
use Rattle.atoms.specs.laws.Standing.{Standing}
use Rattle.pattern_databases.specs.Floor.{IsFree}
use Rattle.pattern_databases.specs.PartMoves.{Meet, partners, Stands, is_closed, Goes, PartMove}
use Rattle.pattern_databases.specs.Meaning.{cells_of}
use Rattle.pattern_databases.specs.inside.Bounds.{OnFree}
use Rattle.pattern_databases.specs.laws.Parting.{part_at, atom_at, Parting}

-- a way over free cells is one too where more cells are free
passes_free : (w h : ℕ) (f g : ℕ → Bool) (d : Direction) → ((k : ℕ) → f k ≡ false → g k ≡ false)
    → (c t : ℕ) (ns : List ℕ) → Passes w h f d c ns t → Passes w h g d c ns t
passes_free w h f g d more c t [] stays = stays
passes_free w h f g d more c t (n ∷ ns) (goes beside free way) =
    goes beside (more n free) (passes_free w h f g d more n t ns way)

-- two cells are not the same
abbrev Unlike : ℕ → ℕ → Type 0
Unlike k cell = eqb k cell ≡ false

-- the cell of an atom of a part
pub cell_is : (p : Position) (part : List ℕ) (i : ℕ) → i < length part → get_or (cells_of p part) i 0 ≡ get_or p.cells (get_or part i 0) 0
cell_is p part i there = get_or-map (λ atom. get_or p.cells atom 0) part i 0 0 there

module _ (l : Atoms) (parts : List (List ℕ)) (parting : Parting (count l) parts) where
  module _ (p : Position) (j : ℕ) (there : j < length parts) where
    abbrev part : List ℕ
    part = part_at parts j

    abbrev cells : List ℕ
    cells = cells_of p part

    as_many : length cells ≡ length part
    as_many = length-map part (λ atom. get_or p.cells atom 0)

    -- where all atoms stand on free cells, those of a part do
    pub part_stands : OnFree l p → Stands l.board (length part) cells
    part_stands free = record {
      long = as_many;
      free = λ i h. subst (IsFree l.board) (sym (cell_is p part i h)) (free (atom_at parts j i) (parting.atoms j i there h));
    }

    module _ (stands : Standing l p) where
      -- and no two on one
      pub part_apart : Meet cells → ⊥
      part_apart meet =
          let one : meet.one < length part = omega (arith, as_many, meet.one_there) in
          let other : meet.other < length part = omega (arith, as_many, meet.other_there) in
          let same = sym (cell_is p part meet.one one) ∙ meet.same ∙ cell_is p part meet.other other in
          let atom = stands.apart _ _ (parting.atoms j meet.one there one) (parting.atoms j meet.other there other) same in
          meet.different (parting.once j meet.one j meet.other there one there other atom).1

      -- on a cell on which no atom stands none of the part does
      not_there : (k : ℕ) → list_any (λ cell. eqb k cell) (take (count l) p.cells) ≡ false
          → (i : ℕ) → i < length part → Unlike k (get_or cells i 0)
      not_there k none i h =
          let atom = atom_at parts j i in
          let below = parting.atoms j i there h in
          let listed : atom < length (take (count l) p.cells) = omega (arith, length-take (count l) p.cells, stands.few, stands.long) in
          let same = cell_is p part i h ∙ sym (get_or-take (count l) p.cells atom 0 below) in
          false_from_ne_true _ (λ e. both_ways _ none (list_any_at (λ cell. eqb k cell) (take (count l) p.cells) atom 0 listed
          (ap (eqb k) (sym same) ∙ e)))

      -- a cell that is not blocked is open to each atom of the part
      open_there : (i k : ℕ) → is_blocked l p k ≡ false → is_closed l.board cells i k ≡ false
      open_there i k open_cell =
          let none = or_parts _ _ open_cell in
          let unlike : All (Unlike k) cells = All-from_get_or (Unlike k) cells 0 (λ o h. not_there k none.0 o (omega (arith, as_many))) in
          let partners_unlike = All-append (Unlike k) _ _ (All-take (Unlike k) i cells unlike) (All-drop (Unlike k) (i + 1) cells unlike) in
          or_from _ _ (list_any_none (λ cell. eqb k cell) (partners cells i) partners_unlike) none.1

  module _ (p q : Position) (m : ℕ) (move : Moves l p m q) where
    -- a part without the atom stays
    pub part_stays : (j : ℕ) → j < length parts → ((i : ℕ) → i < length (part_at parts j) → atom_at parts j i ≡ move.atom → ⊥)
        → cells_of p (part_at parts j) ≡ cells_of q (part_at parts j)
    part_stays j there without =
        let part = part_at parts j in
        let one : length (cells_of p part) ≡ length part = length-map part (λ atom. get_or p.cells atom 0) in
        let other : length (cells_of q part) ≡ length part = length-map part (λ atom. get_or q.cells atom 0) in
        ext_get_or 0 _ _ (one ∙ sym other)
        (λ i h.
        let inside : i < length part = omega arith in
        cell_is p part i inside ∙ sym (move.others (atom_at parts j i) (without i inside)) ∙ sym (cell_is q part i inside))

    module _ (stands : Standing l p) (free : OnFree l p) (j i : ℕ) (part_there : j < length parts)
        (there : i < length (part_at parts j)) (is : atom_at parts j i ≡ move.atom) where
      abbrev before : List ℕ
      before = cells_of p (part_at parts j)

      abbrev after : List ℕ
      after = cells_of q (part_at parts j)

      -- its atom goes the way that the atom slides
      atom_goes : Goes l.board before i (get_or after i 0)
      atom_goes =
          let part = part_at parts j in
          let closed = is_closed l.board before i in
          let slide = move.slides in
          let from = cell_is p part i there ∙ ap (λ a. get_or p.cells a 0) is in
          let to = cell_is q part i there ∙ ap (λ a. get_or q.cells a 0) is in
          let way = passes_free l.board.width l.board.height (is_blocked l p) closed move.direction
          (open_there p j part_there stands i) _ _ _ slide.free in
          record {
            direction = move.direction;
            passed = slide.passed;
            some = slide.some;
            way =
                subst (λ c. Passes l.board.width l.board.height closed move.direction c slide.passed (get_or after i 0)) (sym from)
                (subst (Passes l.board.width l.board.height closed move.direction (get_or p.cells move.atom 0) slide.passed) (sym to) way);
          }

      -- and the others stay
      others_stay : after ≡ set before i (get_or after i 0)
      others_stay =
          let part = part_at parts j in
          let one : length before ≡ length part = length-map part (λ atom. get_or p.cells atom 0) in
          let other : length after ≡ length part = length-map part (λ atom. get_or q.cells atom 0) in
          let to = get_or after i 0 in
          ext_get_or 0 _ _ (other ∙ sym one ∙ sym (length-set before i to))
          (λ k h.
          let inside : k < length part = omega arith in
          ⊎_elim
          (λ same. ap (λ o. get_or after o 0) same
          ∙ sym (ap (λ o. get_or (set before i to) o 0) same ∙ get_or-set_same before i to 0 (omega arith)))
          (λ apart.
          let unlike = λ (e : atom_at parts j k ≡ move.atom). apart (parting.once j k j i part_there inside part_there there (e ∙ sym is)).1 in
          cell_is q part k inside ∙ move.others (atom_at parts j k) unlike ∙ sym (cell_is p part k inside)
          ∙ sym (get_or-set_other before i k to 0 apart))
          (cases_eq k i))

      -- the part with the atom moves
      pub part_moves : PartMove l.board before after
      part_moves = record {
        atom = i;
        there = omega (arith, as_many p j part_there, there);
        stands = subst (λ n. Stands l.board n before) (sym (as_many p j part_there)) (part_stands p j part_there free);
        apart = part_apart p j part_there stands;
        goes = atom_goes;
        others = others_stay;
      }
