-- What an open move does to the used cells of a position: the blank and the tile beside it change places. Assumes nothing.
use Rattle.std.proofs.Common.{◌≡◌, ℕ, ◌*◌, ◌<◌, ◌≤◌, eqb, length, get_or, take, set, Some, None, option_map, option_and_then, Option, sym, refl, ap, ◌∙◌, arith}
use Rattle.std.proofs.Math.Seq.{take-set-lt}
use Rattle.std.proofs.lemmas.Bool.{eqb-true}
use Rattle.std.proofs.lemmas.List.Quantifiers.{position-Some}
use Rattle.grid.specs.declared.Direction.{Direction}
use Rattle.grid.specs.Grid.{neighbour, direction_of}
use Rattle.grid.proofs.Laws.{steps_on}
use Rattle.tiles.specs.Board.{position_of, first_cells, cells, blank_of, tiles_after_swap}
use Rattle.tiles.specs.Level.{Tiles, destination, destination_towards}
use Rattle.tiles.specs.laws.Cells.{length_first_cells, length_cells, small_cells, first_cells_position_of, take_first_cells, take_cells, get_or_cells, length_swap, small_swap}

-- the blank's cell is one of those that were looked at, and holds 0
pub blank_used : (n p b : ℕ) → n ≤ 16 → blank_of (take n (cells p)) ≡ Some b → (b < n) × (get_or (cells p) b 0 ≡ 0)
blank_used n p b few e =
    let at = position-Some (λ t. eqb t 0) (first_cells n p) b 0 (sym (ap blank_of (take_cells n p few)) ∙ e) in
    let below : b < n = omega (arith, at.0, length_first_cells n p) in
    (below, get_or_cells n p b few below ∙ eqb-true _ _ at.1)

-- the used cells after a swap
used_swap : (n p b t : ℕ) → n ≤ 16 → b < n → t < n → first_cells n (position_of (tiles_after_swap (cells p) b t)) ≡ tiles_after_swap (first_cells n p) b t
used_swap n p b t few hb ht =
    let ts = cells p in
    let us = tiles_after_swap ts b t in
    let v = get_or ts t 0 in
    let long : length us ≡ 16 = length_swap ts b t ∙ length_cells p in
    let inside : t < length ts = omega (arith, length_cells p) in
    let whole : first_cells 16 (position_of us) ≡ us =
    sym (ap (λ k. first_cells k (position_of us)) long) ∙ first_cells_position_of us (small_swap ts b t inside (small_cells p)) in
    sym (take_first_cells n 16 (position_of us) few)
    ∙ ap (take n) whole
    ∙ take-set-lt n (set ts b v) t 0 ht
    ∙ ap (λ xs. set xs t 0) (take-set-lt n ts b v hb ∙ ap (λ xs. set xs b v) (take_cells n p few))
    ∙ ap (λ k. set (set (first_cells n p) b k) t 0) (get_or_cells n p t few ht)

module _ (l : Tiles) (few : l.width * l.height ≤ 16) where
  abbrev n : ℕ
  n = l.width * l.height

  -- the blank went from its cell to the one beside it
  pub record Slides (p q : ℕ) : Type 0 where
    pub blank : ℕ
    pub cell : ℕ
    pub way : Direction
    pub used : blank < n
    pub empty : get_or (first_cells n p) blank 0 ≡ 0
    pub beside : neighbour l.width l.height blank way ≡ Some cell
    pub after : first_cells n q ≡ tiles_after_swap (first_cells n p) blank cell

  module _ (p q : ℕ) where
    to_cell : (d : Direction) (b : ℕ) (o : Option ℕ) → blank_of (take n (cells p)) ≡ Some b → neighbour l.width l.height b d ≡ o → option_map position_of (option_map (tiles_after_swap (cells p) b) o) ≡ Some q → Slides p q
    to_cell d b (Some t) found beside leads =
        let at = blank_used n p b few found in
        let on = steps_on l.width l.height b d t beside in
        let is : position_of (tiles_after_swap (cells p) b t) ≡ q = cc in
        record {
          blank = b;
          cell = t;
          way = d;
          used = at.0;
          empty = sym (get_or_cells n p b few at.0) ∙ at.1;
          beside = beside;
          after = ap (first_cells n) (sym is) ∙ used_swap n p b t few at.0 on.0;
        }
    to_cell d b None found beside leads = absurd (cc)

    from_blank : (d : Direction) (o : Option ℕ) → blank_of (take n (cells p)) ≡ o → option_map position_of (option_and_then (λ b. option_map (tiles_after_swap (cells p) b) (neighbour l.width l.height b d)) o) ≡ Some q → Slides p q
    from_blank d (Some b) found leads = to_cell d b (neighbour l.width l.height b d) found refl leads
    from_blank d None found leads = absurd (cc)

    by_way : (o : Option Direction) → option_and_then (destination_towards l p) o ≡ Some q → Slides p q
    by_way (Some d) leads = from_blank d (blank_of (take n (cells p))) refl leads
    by_way None leads = absurd (cc)

    pub destination_slides : (m : ℕ) → destination l p m ≡ Some q → Slides p q
    destination_slides m leads = by_way (direction_of m) leads
