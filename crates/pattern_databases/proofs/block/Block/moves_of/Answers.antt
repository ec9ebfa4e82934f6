use Rattle.std.proofs.Common.{◌≡◌, ◌↔◌, ℕ, ◌+◌, ◌-◌, ◌*◌, ◌<◌, List, length, get_or, set, Decides, refl, sym, ap, ◌∙◌, subst, below_more, arith}
use Rattle.std.specs.List.{Contains}
use Rattle.std.proofs.lemmas.List.Elements.{Contains-get_or, at_from_Contains}
use Rattle.std.proofs.lemmas.Bool.{false≢true}
use Rattle.pictures.specs.Pictures.{shape}
use Rattle.pictures.proofs.Shapes.{length_cells}
use Rattle.atoms.specs.Level.{atoms}
use Rattle.pattern_databases.specs.PartMoves.{Goes}
use Rattle.pattern_databases.specs.Layout.{placement_number}
use Rattle.pattern_databases.specs.inside.Walking.{LandsExactly}
use Rattle.pattern_databases.specs.inside.Blocks.{IsConsistent}
use Rattle.pattern_databases.proofs.Moves.{goes_free}
use Rattle.pattern_databases.proofs.Shares.{share}
use Rattle.pattern_databases.proofs.Bytes.{landings_go, all_stand, byte_there, atom_there, weight_small, share_there, moved_number, moved_there}
use Rattle.pattern_databases.proofs.Testing.{consistent_decides}
use Rattle.pattern_databases.proofs.block.Block.moves_of.Goals as goal
use Rattle.pattern_databases.proofs.block.Block.moves_of.Goals.{After-cell_number, After-as_slice-cell-items, After-cell_number-in-loop-cell, After-may_lead}

pub placements-weight-requires : goal.placements-weight-requires
placements-weight-requires c =
    weight_small c.requires.byte c.args.atom c.requires.there c.args.self.now.part_is

-- what the atom adds to the number
share_is : (c : After-cell_number) → c.cell_number.result * c.placements-weight.result
    ≡ share (atoms c.args.self.now.layout.now.level.now).board c.args.cells.now c.args.atom
share_is c = cc

pub overflow_sub-others : goal.overflow_sub-others
overflow_sub-others c =
    omega (arith, share_is c, share_there c.requires.byte c.args.atom c.requires.there)

pub overflow_mul-others : goal.overflow_mul-others
overflow_mul-others c = omega (arith, overflow_sub-others c)

pub bounds-entries-number : goal.bounds-entries-number
bounds-entries-number c = byte_there c.requires.byte

-- the landings are where the atom goes
lands : (c : After-as_slice-cell-items) → (to : ℕ) → Contains c.as_slice-cell-items.result.now to
    ↔ Goes (atoms c.args.self.now.layout.now.level.now).board c.args.cells.now c.args.atom to
lands c =
    let block = c.args.self.now in
    let grid = block.neighbours.now.grid in
    let cells = c.args.cells.now in
    let atom = c.args.atom in
    let listed = sym c.as_slice-cell-items.ensures in
    let exactly = subst (LandsExactly grid.width grid.height c.args.map.now cells atom) listed
    c.landings-landings.ensures.exactly in
    landings_go block.layout.now.level.now grid block.beside c.args.map.now cells atom _ c.requires.walls
    (all_stand c.requires.byte) (atom_there c.requires.byte atom c.requires.there) exactly

-- the next of them
abbrev next : After-cell_number-in-loop-cell → ℕ
next c = get_or c.as_slice-cell-items.result.now c.loop-cell.cell-index 0

goes : (c : After-cell_number-in-loop-cell)
    → Goes (atoms c.args.self.now.layout.now.level.now).board c.args.cells.now c.args.atom (next c)
goes c =
    (lands (goal.at.overflow_mul-after c).After-as_slice-cell-items (next c)).0
    (Contains-get_or c.as_slice-cell-items.result.now c.loop-cell.cell-index 0 c.loop-cell-test.true)

pub cell_number-requires-in-loop-cell : goal.cell_number-requires-in-loop-cell
cell_number-requires-in-loop-cell c =
    let board = c.args.self.now.layout.now.level.now.board in
    goes_free (shape board) (length_cells board)
    ((lands (goal.at.cell_number-requires-in-loop-cell c).After-as_slice-cell-items _).0
    (Contains-get_or c.as_slice-cell-items.result.now c.loop-cell.cell-index 0 c.loop-cell-test.true))

-- the number after the atom went there
number_is : (c : After-cell_number-in-loop-cell)
    → c.args.number - c.cell_number.result * c.placements-weight.result
    + c.cell_number-in-loop-cell.result * c.placements-weight.result
    ≡ placement_number (atoms c.args.self.now.layout.now.level.now).board (set c.args.cells.now c.args.atom (next c))
number_is c =
    let sized = length_cells c.args.self.now.layout.now.level.now.board in
    let moved = moved_number c.requires.byte c.args.atom c.requires.there sized c.requires.apart (goes c) in
    cc

-- and its byte, which is there
is_there : (c : After-cell_number-in-loop-cell)
    → placement_number (atoms c.args.self.now.layout.now.level.now).board (set c.args.cells.now c.args.atom (next c))
    < length c.args.entries.now
is_there c =
    let sized = length_cells c.args.self.now.layout.now.level.now.board in
    moved_there c.requires.byte c.args.atom c.requires.there sized c.requires.apart (goes c)

pub overflow_mul-after : goal.overflow_mul-after
overflow_mul-after c = omega (arith, number_is c, is_there c, c.args.self.now.part_is.small, c.requires.byte.whole)

pub overflow_add-after : goal.overflow_add-after
overflow_add-after c = omega (arith, number_is c, is_there c, c.args.self.now.part_is.small, c.requires.byte.whole)

pub bounds-entries-others : goal.bounds-entries-others
bounds-entries-others c =
    let at = (goal.at.bounds-entries-others c).After-cell_number-in-loop-cell in
    omega (arith, number_is at, is_there at)

-- what the test of the two bytes says, where the second is that of this placement
decides : (c : After-may_lead) (after : List ℕ)
    → c.args.number - c.cell_number.result * c.placements-weight.result
    + c.cell_number-in-loop-cell.result * c.placements-weight.result
    ≡ placement_number (atoms c.args.self.now.layout.now.level.now).board after
    → Decides c.may_lead.result (IsConsistent (atoms c.args.self.now.layout.now.level.now) c.args.self.now.goal_place
    c.args.self.now.part.now c.args.entries.now c.args.cells.now after)
decides c after is =
    let block = c.args.self.now in
    let entries = c.args.entries.now in
    consistent_decides (atoms block.layout.now.level.now) block.goal_place block.part.now entries c.args.cells.now after
    _ _ c.may_lead.result (ap (λ n. get_or entries n 0) (sym c.requires.byte.numbered))
    (ap (λ n. get_or entries n 0) is) c.may_lead.ensures

pub returns-then-not-may_lead-clause-decides : goal.returns-then-not-may_lead-clause-decides
returns-then-not-may_lead-clause-decides c =
    let at = goal.at.returns-then-not-may_lead-clause-decides c in
    let now = at.After-cell_number-in-loop-cell in (
      λ e. absurd (false≢true e),
      λ all. sym c.if-not-may_lead.true ∙ (decides at.After-may_lead _ (number_is now)).1 (all (next now) (goes now)),
    )

pub loop-cell-preserved : goal.loop-cell-preserved
loop-cell-preserved c =
    let at = goal.at.loop-cell-preserved c in
    below_more _ _ c.loop-cell.invariant
    ((decides at.After-may_lead _ (number_is at.After-cell_number-in-loop-cell)).0 c.if-not-may_lead.false)

pub returns-clause-decides : goal.returns-clause-decides
returns-clause-decides c =
    let block = c.args.self.now in
    let l = atoms block.layout.now.level.now in
    let cells = c.args.cells.now in
    let items = c.as_slice-cell-items.result.now in (
      λ e to g.
          let landed = (lands (goal.at.returns-clause-decides c).After-as_slice-cell-items to).1 g in
          let at = at_from_Contains items to landed in
          subst (λ t. IsConsistent l block.goal_place block.part.now c.args.entries.now cells (set cells c.args.atom t))
          (at.2 0) (c.loop-cell.invariant at.0 (omega (arith, at.1))),
      λ all. refl,
    )
