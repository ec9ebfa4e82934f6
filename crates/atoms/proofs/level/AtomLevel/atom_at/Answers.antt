use Rattle.std.proofs.Common.{◌≡◌, eqb, ◌∙◌, rules, tests}
use Rattle.std.proofs.lemmas.Iterator.{YieldsList-from_slice}
use Rattle.std.proofs.lemmas.Iterator.Search.{position_from_yields_List}
use Rattle.atoms.specs.Level.{atoms}
use Rattle.atoms.specs.Moves.{atom_on}
use Rattle.atoms.proofs.Sliding.{atom_at_by}
use Rattle.atoms.proofs.level.AtomLevel.atom_at.Goals as goal

pub returns : goal.returns
returns c =
    let l = atoms c.args.self.now in
    let p = c.args.position.now in
    let answer : c.position.result ≡ atom_on l p c.in_ok-cell.cell =
    position_from_yields_List (λ k. eqb k c.in_ok-cell.cell) _ _ _ c.position.ensures.ran (YieldsList-from_slice _ (c.iter-standing.ensures.rest ∙ c.standing.ensures)) (λ x b q k. search (rules, tests)) in
    atom_at_by l p _ _ _ _ c.grid.ensures c.in_ok-cell.ensures.named answer
