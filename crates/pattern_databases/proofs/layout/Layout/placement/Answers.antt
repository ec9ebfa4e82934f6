use Rattle.std.proofs.Common.{◌≡◌, ◌+◌, ◌-◌, ◌/◌, ◌%◌, ◌<◌, get_or, set, sym, ap, ◌∙◌, subst, arith}
use Rattle.std.proofs.lemmas.List.{get_or-take}
use Rattle.std.proofs.lemmas.Nat.{mod_below}
use Rattle.pictures.specs.Pictures.{shape}
use Rattle.pattern_databases.specs.Floor.{free_cells}
use Rattle.pattern_databases.proofs.Placements.{Unpacked, unpacked_more, some_free}
use Rattle.pattern_databases.proofs.layout.Layout.placement.Goals as goal
use Rattle.pattern_databases.proofs.layout.Layout.placement.Goals.{In-loop-atom}

-- the board has a free cell, since the rest has not been unpacked
some_cell : (c : In-loop-atom) → 0 < c.args.self.now.count
some_cell c =
    omega (
      arith,
      c.args.self.now.counted,
      some_free (shape c.args.self.now.level.now.board) c.loop-atom.rest c.loop-atom.atom (omega arith) c.loop-atom.invariant.below,
    )

pub nonzero_rem-cells : goal.nonzero_rem-cells
nonzero_rem-cells c = some_cell c

pub bounds-self-rest : goal.bounds-self-rest
bounds-self-rest c = omega (arith, some_cell (goal.at.bounds-self-rest c).In-loop-atom)

pub nonzero_div-rest : goal.nonzero_div-rest
nonzero_div-rest c = some_cell (goal.at.nonzero_div-rest c).In-loop-atom

pub loop-atom-preserved : goal.loop-atom-preserved
loop-atom-preserved c =
    let s = c.args.self.now in
    let b = shape s.level.now.board in
    let rest = c.loop-atom.rest in
    let atom = c.loop-atom.atom - 1 in
    let same : atom + 1 ≡ c.loop-atom.atom = omega arith in
    let step = unpacked_more b c.args.size c.args.number c.loop-atom.cells rest atom (omega arith) c.requires.few
    (subst (λ a. Unpacked b c.args.size c.args.number c.loop-atom.cells rest a) (sym same) c.loop-atom.invariant) in
    let some = some_cell (goal.at.loop-atom-preserved c).In-loop-atom in
    let cell = ap (λ xs. get_or xs (rest % s.count) 0) (sym s.listed) ∙ get_or-take s.count s.cells (rest % s.count) 0 (mod_below rest s.count some) in
    subst (λ x. Unpacked b c.args.size c.args.number (set c.loop-atom.cells atom x) (rest / s.count) atom) cell
    (subst
    (λ n. Unpacked b c.args.size c.args.number (set c.loop-atom.cells atom (get_or (free_cells b) (rest % n) 0)) (rest / n) atom)
    (sym s.counted) step)
