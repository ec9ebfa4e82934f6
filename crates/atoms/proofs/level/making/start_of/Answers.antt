use Rattle.std.proofs.Common.{◌≤◌, length, rules, tests, arith}
use Rattle.std.proofs.lemmas.Iterator.{YieldsList-from_slice}
use Rattle.std.proofs.lemmas.Iterator.Consumers.{YieldsList-at, YieldsList-from_filter, YieldsList-from_enumerate, YieldsList-turn, YieldsList-end}
use Rattle.std.proofs.lemmas.List.{length_push}
use Rattle.pictures.specs.Pictures.{shape}
use Rattle.atoms.specs.Board.{atom_cells}
use Rattle.atoms.proofs.Roll.{Next, on_atom, cell_turn, cell_end, fill_turn, fill_end}
use Rattle.atoms.specs.laws.Starting.{length_atoms}
use Rattle.atoms.proofs.level.making.start_of.Goals as goal
use Rattle.atoms.proofs.level.making.start_of.Goals.{In-Some}

-- the cell of this turn is that of the next atom
next : (c : In-Some) → Next (atom_cells (shape c.args.board.now)) (length c.loop-atom.yielded) c.in-Some.atom c.in-Some.cell
next c =
    let b = shape c.args.board.now in
    cell_turn b _ _
    (YieldsList-turn
    (YieldsList-at c.into_iter-atom-iterator.ensures.into_iter_gives
    (YieldsList-from_enumerate
    (YieldsList-at c.enumerate-atom-items.ensures.source
    (YieldsList-from_filter _ on_atom
    (YieldsList-at c.filter-atoms.ensures.source
    (YieldsList-from_enumerate (YieldsList-at c.enumerate.ensures.source (YieldsList-from_slice b.cells (cc))) c.enumerate.ensures.count))
    c.filter-atoms.ensures.closure (λ x r q k. search (rules, tests))))
    c.enumerate-atom-items.ensures.count))
    c.loop-atom.yielded c.loop-atom.atom-iterator c.loop-atom.yielded_by _ _ _ c.in-Some.is c.next.ensures.steps)

pub bounds-cells-atom : goal.bounds-cells-atom
bounds-cells-atom c = let at = next c in omega (arith, length_atoms (shape c.args.board.now))

pub loop-atom-preserved : goal.loop-atom-preserved
loop-atom-preserved c =
    let b = shape c.args.board.now in
    let few : length (atom_cells b) ≤ 16 = omega (arith, length_atoms b) in
    rw length_push (fill_turn (atom_cells b) _ _ _ _ few c.loop-atom.invariant (next (goal.at.loop-atom-preserved c).In-Some))

pub returns : goal.returns
returns c =
    let b = shape c.args.board.now in
    let end = YieldsList-end
    (YieldsList-at c.into_iter-atom-iterator.ensures.into_iter_gives
    (YieldsList-from_enumerate
    (YieldsList-at c.enumerate-atom-items.ensures.source
    (YieldsList-from_filter _ on_atom
    (YieldsList-at c.filter-atoms.ensures.source
    (YieldsList-from_enumerate (YieldsList-at c.enumerate.ensures.source (YieldsList-from_slice b.cells (cc))) c.enumerate.ensures.count))
    c.filter-atoms.ensures.closure (λ x r q k. search (rules, tests))))
    c.enumerate-atom-items.ensures.count))
    c.loop-atom.yielded c.loop-atom.atom-iterator c.loop-atom.yielded_by _ _ c.in-None.is c.next.ensures.steps in
    fill_end (atom_cells b) _ c.loop-atom.cells c.loop-atom.invariant (cell_end b _ end.1)
