use Rattle.std.proofs.Common.{◌≡◌, ◌↔◌, ℕ, ◌+◌, ◌-◌, ◌*◌, ◌<◌, length, get_or, set, take, refl, sym, ap, ◌∙◌, subst, arith}
use Rattle.std.specs.List.{Contains}
use Rattle.std.proofs.lemmas.List.Elements.{Contains-get_or}
use Rattle.pictures.proofs.Shapes.{length_cells}
use Rattle.atoms.specs.Level.{atoms}
use Rattle.pattern_databases.specs.PartMoves.{Stands, Goes}
use Rattle.pattern_databases.specs.Layout.{placement_number}
use Rattle.pattern_databases.specs.inside.Walking.{ShowsWalls, LandsExactly}
use Rattle.pattern_databases.specs.inside.Blocks.{ByteFor}
use Rattle.pattern_databases.specs.inside.Filling.{front, SearchedBlock}
use Rattle.pattern_databases.proofs.Moves.{goes_free}
use Rattle.pattern_databases.proofs.Shares.{share}
use Rattle.pattern_databases.proofs.Bytes.{landings_go, all_stand, atom_there, weight_small, share_there, moved_number, moved_there}
use Rattle.pattern_databases.proofs.Filling.{keeps_all, keeps_on}
use Rattle.pattern_databases.proofs.Spreading.{Spreads, taken_known, walked_none, walked_more, walked_atom, walked_all}
use Rattle.pattern_databases.proofs.block.Block.reach_from.Goals as goal
use Rattle.pattern_databases.proofs.block.Block.reach_from.Goals.{After-cell_number, After-as_slice-cell-items, After-cell_number-in-loop-cell}

pub loop-atom-init : goal.loop-atom-init
loop-atom-init c =
    let block = c.args.self.now in
    let level = block.layout.now.level.now in
    let l = atoms level in
    let part = block.part.now in
    let cells = c.as_slice-cells.result.now in
    let f = front c.args.frontier.now in
    let done = c.args.frontier.now.taken - 1 in
    let n = c.args.number in
    let moves = c.min-moves.result in
    let first = c.requires.taken in
    let placement = c.placement-placement in
    let shown = c.as_slice-cells.ensures ∙ ap (λ n. take n placement.result.cells) placement.ensures.size in
    let byte : ByteFor l part f.entries cells n = record {
      whole = c.requires.whole;
      stands = subst (Stands l.board (length part)) (sym shown) placement.ensures.stands;
      numbered = ap (placement_number l.board) shown ∙ placement.ensures.number;
    } in
    let spreads : Spreads l block.goal_place part f done n moves = record {
      searched = first.searched;
      more = first.more;
      number = first.number;
      moves_are = c.min-moves.ensures;
    } in
    record {
      taken = taken_known l block.goal_place part (length_cells level.board) f done n moves cells spreads byte;
      walked = walked_none l block.goal_place part f done n moves cells spreads;
      kept = keeps_all c.args.frontier.now;
      map = refl;
    }

pub placements-weight-requires : goal.placements-weight-requires
placements-weight-requires c =
    let byte = c.loop-atom.invariant.taken.byte in
    weight_small byte c.loop-atom.atom (omega (arith, byte.stands.long)) c.args.self.now.part_is

-- what the atom adds to the number
share_is : (c : After-cell_number) → c.cell_number.result * c.placements-weight.result
    ≡ share (atoms c.args.self.now.layout.now.level.now).board c.as_slice-cells.result.now c.loop-atom.atom
share_is c = cc

pub overflow_sub-others : goal.overflow_sub-others
overflow_sub-others c =
    let byte = c.loop-atom.invariant.taken.byte in
    omega (arith, share_is c, share_there byte c.loop-atom.atom (omega (arith, byte.stands.long)))

pub overflow_mul-others : goal.overflow_mul-others
overflow_mul-others c = omega (arith, overflow_sub-others c)

-- the landings are where the atom goes
lands : (c : After-as_slice-cell-items) → (to : ℕ) → Contains c.as_slice-cell-items.result.now to
    ↔ Goes (atoms c.args.self.now.layout.now.level.now).board c.as_slice-cells.result.now c.loop-atom.atom to
lands c =
    let block = c.args.self.now in
    let level = block.layout.now.level.now in
    let grid = block.neighbours.now.grid in
    let cells = c.as_slice-cells.result.now in
    let atom = c.loop-atom.atom in
    let byte = c.loop-atom.invariant.taken.byte in
    let walls = subst (ShowsWalls (atoms level).board) (sym c.loop-atom.invariant.map) c.requires.walls in
    let exactly = subst (LandsExactly grid.width grid.height c.loop-atom.map cells atom)
    (sym c.as_slice-cell-items.ensures) c.landings-landings.ensures.exactly in
    landings_go level grid block.beside c.loop-atom.map cells atom _ walls (all_stand byte)
    (atom_there byte atom (omega (arith, byte.stands.long))) exactly

-- the next of them
abbrev next : After-cell_number-in-loop-cell → ℕ
next c = get_or c.as_slice-cell-items.result.now c.loop-cell.cell-index 0

goes : (c : After-cell_number-in-loop-cell)
    → Goes (atoms c.args.self.now.layout.now.level.now).board c.as_slice-cells.result.now c.loop-atom.atom (next c)
goes c =
    (lands (goal.at.overflow_mul-cell_number c).After-as_slice-cell-items (next c)).0
    (Contains-get_or c.as_slice-cell-items.result.now c.loop-cell.cell-index 0 c.loop-cell-test.true)

pub cell_number-requires-in-loop-cell : goal.cell_number-requires-in-loop-cell
cell_number-requires-in-loop-cell c =
    let level = c.args.self.now.layout.now.level.now in
    goes_free (atoms level).board (length_cells level.board)
    ((lands (goal.at.cell_number-requires-in-loop-cell c).After-as_slice-cell-items _).0
    (Contains-get_or c.as_slice-cell-items.result.now c.loop-cell.cell-index 0 c.loop-cell-test.true))

-- the number after the atom went there
number_is : (c : After-cell_number-in-loop-cell)
    → c.args.number - c.cell_number.result * c.placements-weight.result
    + c.cell_number-in-loop-cell.result * c.placements-weight.result
    ≡ placement_number (atoms c.args.self.now.layout.now.level.now).board
    (set c.as_slice-cells.result.now c.loop-atom.atom (next c))
number_is c =
    let taken = c.loop-atom.invariant.taken in
    let sized = length_cells c.args.self.now.layout.now.level.now.board in
    let there : c.loop-atom.atom < length c.args.self.now.part.now = omega (arith, taken.byte.stands.long) in
    let moved = moved_number taken.byte c.loop-atom.atom there sized taken.apart (goes c) in
    cc

-- is one of a placement
is_there : (c : After-cell_number-in-loop-cell)
    → c.args.number - c.cell_number.result * c.placements-weight.result
    + c.cell_number-in-loop-cell.result * c.placements-weight.result
    < length c.args.frontier.now.entries.now
is_there c =
    let taken = c.loop-atom.invariant.taken in
    let sized = length_cells c.args.self.now.layout.now.level.now.board in
    let there : c.loop-atom.atom < length c.args.self.now.part.now = omega (arith, taken.byte.stands.long) in
    omega (arith, number_is c, moved_there taken.byte c.loop-atom.atom there sized taken.apart (goes c))

pub overflow_mul-cell_number : goal.overflow_mul-cell_number
overflow_mul-cell_number c = omega (arith, is_there c, c.requires.taken.searched.has_room.small)

pub overflow_add-others : goal.overflow_add-others
overflow_add-others c = omega (arith, is_there c, c.requires.taken.searched.has_room.small)

pub reach-requires-clause-there : goal.reach-requires-clause-there
reach-requires-clause-there c = omega (arith, is_there c, c.loop-cell.invariant.kept.whole)

pub loop-cell-preserved : goal.loop-cell-preserved
loop-cell-preserved c =
    let at = (goal.at.loop-cell-preserved c).After-cell_number-in-loop-cell in
    let block = c.args.self.now in
    let level = block.layout.now.level.now in
    let taken = c.loop-atom.invariant.taken in
    let before = c.loop-cell.invariant in
    record {
      walked = rw c.reach.ensures.reached
          (walked_more (atoms level) block.goal_place block.part.now (length_cells level.board) taken _
          before.kept.whole
          (omega (arith, taken.byte.stands.long)) (goes at) (number_is at) before.walked);
      kept = keeps_on _ _ _ before.kept c.reach.ensures.kept;
    }

pub loop-atom-preserved : goal.loop-atom-preserved
loop-atom-preserved c =
    let block = c.args.self.now in
    let items = c.as_slice-cell-items.result.now in
    let all : c.loop-cell.cell-index ≡ length items = omega arith in
    let go = lands (goal.at.loop-atom-preserved c).After-as_slice-cell-items in
    record {
      taken = c.loop-atom.invariant.taken;
      walked = walked_atom (atoms block.layout.now.level.now) block.goal_place block.part.now items all go
          c.loop-cell.invariant.walked;
      kept = c.loop-cell.invariant.kept;
      map = c.landings-landings.ensures.kept ∙ c.loop-atom.invariant.map;
    }

pub returns-clause-searched : goal.returns-clause-searched
returns-clause-searched c =
    let block = c.args.self.now in
    let level = block.layout.now.level.now in
    let l = atoms level in
    let f = front c.loop-atom.frontier in
    let before = c.loop-atom.invariant in
    let all : c.loop-atom.atom ≡ length block.part.now = omega (arith, before.taken.byte.stands.long) in
    let done : c.args.frontier.now.taken - 1 + 1 ≡ c.loop-atom.frontier.taken =
    omega (arith, before.kept.taken, c.requires.taken.some) in
    let all_done = walked_all l block.goal_place block.part.now (length_cells level.board) before.taken
    before.kept.whole all before.walked in
    subst (SearchedBlock l block.goal_place block.part.now f (length f.entries)) done all_done
