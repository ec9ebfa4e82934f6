-- A row that is taken after the rows before it. Assumes nothing.
use Rattle.std.proofs.Common.{◌≡◌, ℕ, ◌+◌, ◌-◌, ◌*◌, ◌%◌, ◌^◌, ◌<◌, ◌≤◌, List, ◌++◌, Some, None, Ok, Option, sym, refl, ap, ◌∙◌, subst, add-mul, arith}
use Rattle.std.proofs.lemmas.List.Elements.{All-weaker}
use Rattle.std.proofs.lemmas.Bool.{cond-true, cond-false, eq-eqb, ne_eqb}
use Rattle.text.proofs.Cases.{never}
use Rattle.std.specs.Option.{option_map, ok_or}
use Rattle.refusals.specs.declared.Fault.TheVariants.{BadRow}
use Rattle.tiles.specs.Board.{position_of, first_cells}
use Rattle.tiles.proofs.Board.{Small, few_cells}
use Rattle.tiles.specs.declared.level_text.rows.Rows.{Rows}
use Rattle.tiles.specs.LevelText.Reading.{rows, last, numbers_in, after_tiles, after_row}
use Rattle.tiles.specs.LevelText.Reader.{tiles_so_far}
use Rattle.tiles.proofs.LevelText.Packing.{Added, added}
use Rattle.tiles.proofs.LevelText.Spelling.{numbers_only}

-- the numbers of which a row was packed
unpack : (o : Option (List ℕ)) (v : ℕ) → Some v ≡ option_map position_of o → (ns : List ℕ) × (o ≡ Some ns) × (v ≡ position_of ns)
unpack (Some ns) v e = let same : v ≡ position_of ns = cc in (ns, refl, same)
unpack None v e = absurd (never v (sym e))

-- the rows r, and after them the row that the bytes x spell, packed to v
module _ (r : Rows) (v : ℕ) (x : List ℕ) (read : Some v ≡ option_map position_of (numbers_in (r.grid.width * r.grid.height) r.grid.width x)) where
  abbrev w : ℕ
  w = r.grid.width

  abbrev h : ℕ
  h = r.grid.height

  -- the tiles with those of the row
  abbrev more : ℕ
  more = r.cells + (v * 2 ^ (4 * r.count)) % 2 ^ 64

  few : w * h ≤ 16
  few = few_cells w h r.wide.1 r.high.1

  -- this row, and those after it
  this_row : r.due * w ≡ (r.due - 1) * w + w
  this_row =
      let some = r.some in
      let this : r.due ≡ r.due - 1 + 1 = omega arith in
      let one : (r.due - 1) * w + 1 * w ≡ (r.due - 1) * w + w = omega arith in
      ap (λ k. k * w) this ∙ add-mul (r.due - 1) 1 w ∙ one

  room : r.count + w ≤ 16
  room = omega (arith, this_row, r.counted, few)

  numbers : (ns : List ℕ) × (numbers_in (w * h) w x ≡ Some ns) × (v ≡ position_of ns)
  numbers = unpack (numbers_in (w * h) w x) v read

  row_added : Added r.cells r.count w v numbers.0
  row_added =
      let spelled = numbers_only (w * h) w x numbers.0 numbers.1 in
      let most = few in
      added r.cells r.count w v numbers.0 r.below room spelled.size
      (All-weaker (λ k. k < w * h) Small (λ k small. omega arith) numbers.0 spelled.below) numbers.2

  row_read : after_row w h r.due (tiles_so_far r) x ≡ Ok (after_tiles w h r.due (first_cells (r.count + w) more))
  row_read =
      ap (λ o. ok_or (option_map (λ ns. after_tiles w h r.due (tiles_so_far r ++ ns)) o) BadRow) numbers.1
      ∙ ap (λ us. Ok (after_tiles w h r.due us)) (sym row_added.tiles)

  -- what stands there then
  pub record RowAdded : Type 0 where
    pub shift : 4 * r.count < 64
    pub fits : more < 2 ^ 64
    pub below : more < 16 ^ (r.count + w)
    pub counted : r.count + w + (r.due - 1) * w ≡ w * h
    pub full : r.due ≡ 1 → more < 16 ^ (w * h)
    pub ends : r.due ≡ 1 → after_row w h r.due (tiles_so_far r) x ≡ Ok (last w h (first_cells (w * h) more))
    pub goes_on : (r.due ≡ 1 → ⊥) → after_row w h r.due (tiles_so_far r) x ≡ Ok (rows w h (r.due - 1) (first_cells (r.count + w) more))

  whole : r.due ≡ 1 → r.count + w ≡ w * h
  whole one =
      let last_row : (r.due - 1) * w ≡ 0 * w = ap (λ k. (k - 1) * w) one in
      omega (arith, last_row, this_row, r.counted)

  pub adds_row : RowAdded
  adds_row = record {
    shift = omega (arith, room, r.wide);
    fits = row_added.fits;
    below = row_added.below;
    counted = omega (arith, this_row, r.counted);
    full = λ one. subst (λ k. more < 16 ^ k) (whole one) row_added.below;
    ends = λ one.
        let all : r.count + w ≡ w * h = whole one in
        row_read ∙ ap Ok (cond-true _ _ _ (eq-eqb r.due 1 one)) ∙ ap (λ k. Ok (last w h (first_cells k more))) all;
    goes_on = λ others. row_read ∙ ap Ok (cond-false _ _ _ (ne_eqb r.due 1 others));
  }
