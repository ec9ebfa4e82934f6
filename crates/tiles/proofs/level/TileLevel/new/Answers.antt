use Rattle.std.proofs.Common.{ℕ, sym, subst, arith}
use Rattle.std.proofs.lemmas.Bool.Decides.{not_from_Decides}
use Rattle.tiles.specs.Board.{Numbered}
use Rattle.tiles.proofs.Board.{some_cells, few_cells}
use Rattle.tiles.proofs.level.TileLevel.new.Goals as goal
use Rattle.tiles.proofs.level.TileLevel.new.Goals.{else-is_side-via-then-is_side+then-is_side-2+else-is_numbered, else-is_side-via-then-is_side+else-is_side-2, else-is_side-via-else-is_side}

pub is_numbered-requires : goal.is_numbered-requires
is_numbered-requires c =
    let wide = rw c.from.ensures at (c.is_side.ensures.decides.0 c.if-is_side.true) in
    let high = rw c.from-then-is_side.ensures at (c.is_side-then-is_side.ensures.decides.0 c.if-is_side-2.true) in
    let some = some_cells _ _ wide.0 high.0 in
    let few = few_cells _ _ wide.1 high.1 in
    (omega arith, omega arith)

pub invariant_of-result : goal.invariant_of-result
invariant_of-result c =
    let numbered = c.is_numbered.ensures.0 c.if-is_numbered.true in record {
      wide = rw c.from.ensures at (c.is_side.ensures.decides.0 c.if-is_side.true);
      high = rw c.from-then-is_side.ensures at (c.is_side-then-is_side.ensures.decides.0 c.if-is_side-2.true);
      numbered = subst (λ (n : ℕ). Numbered n c.args.start) c.cells.ensures numbered;
      measured = c.distance_table-distances.ensures;
    }

pub returns-else-is_side : goal.returns-else-is_side
returns-else-is_side c v =
    elim c.else-is_side.branch [
      | else-is_side-via-then-is_side+then-is_side-2+else-is_numbered w ↦
          not_from_Decides _ w.is_numbered.ensures w.if-is_numbered.false
          (subst (λ (n : ℕ). Numbered n c.args.start) (sym w.cells.ensures) v.numbered)
      | else-is_side-via-then-is_side+else-is_side-2 w ↦
          not_from_Decides _ w.is_side-then-is_side.ensures.decides w.if-is_side-2.false (rw (← w.from-then-is_side.ensures) at v.high)
      | else-is_side-via-else-is_side w ↦ not_from_Decides _ c.is_side.ensures.decides w.if-is_side.false (rw (← c.from.ensures) at v.wide)
    ]
