-- One move lowers the distance by at most one, so it is at most the length of every way to the finish. Assumes nothing.
use Rattle.std.specs.Prelude.{ℕ, ◌+◌, ◌*◌, ◌≤◌}
use Rattle.std.proofs.Common.{refl, ap, arith}
use Rattle.std.proofs.lemmas.Bool.{eqb-true, eq-eqb}
use Rattle.puzzle.specs.Meaning.{Lawful}
use Rattle.puzzle.specs.Consistent.{Move, Consistent}
use Rattle.puzzle.proofs.Consistent.{consistent_distance, consistent_admissible, consistent_dead}
use Rattle.grid.proofs.Laws.{steps_on}
use Rattle.tiles.specs.declared.level.TileLevel.{TileLevel}
use Rattle.tiles.specs.Board.{first_cells}
use Rattle.tiles.specs.Level.{Tiles, tiles}
use Rattle.tiles.specs.laws.Cells.{few_cells, length_first_cells}
use Rattle.tiles.specs.laws.Sliding.{destination_slides}
use Rattle.tiles.specs.Distances.{total_way_home}
use Rattle.tiles.specs.Meaning.{manhattan, meaning}
use Rattle.tiles.specs.laws.Moving.{all_home, beside_near, total_way_home_swap}

-- a move takes one tile one step
slow : (l : Tiles) → l.width * l.height ≤ 16 → (p q : ℕ) → Move (meaning l) p q → manhattan l p ≤ manhattan l q + 1
slow l few p q move =
    let n = l.width * l.height in
    let slide = destination_slides l few p q move.number move.leads in
    let on = steps_on l.width l.height slide.blank slide.way slide.cell slide.beside in
    let near = beside_near l.width l.height slide.blank slide.cell slide.way slide.beside in
    let long = length_first_cells n p in
    let less = total_way_home_swap l.width (first_cells n p) slide.blank slide.cell (omega arith) (omega arith) on.1 slide.empty near in
    let after = ap (total_way_home l.width 0) slide.after in
    omega arith

pub consistent : (l : TileLevel) → Consistent (meaning (tiles l))
consistent l =
    let n = l.grid.width * l.grid.height in
    consistent_distance (meaning (tiles l)) (manhattan (tiles l)) (λ _. refl)
    (λ p finished. all_home l.grid.width n 0 (first_cells n p) finished)
    (slow (tiles l) (few_cells _ _ l.wide.1 l.high.1))

pub lawful : (l : TileLevel) → Lawful (meaning (tiles l))
lawful l = record {
  some = omega arith;
  few = omega arith;
  admissible = consistent_admissible (meaning (tiles l)) (consistent l);
  dead = consistent_dead (meaning (tiles l)) (consistent l);
  alike = λ p q _ _. (eqb-true p q, eq-eqb p q);
}
