use Rattle.std.proofs.Common.{◌≡◌, ◌-◌, ◌*◌, min, take, drop, ap, ◌∙◌, arith}
use Rattle.pattern_databases.proofs.PartAtoms.{counted_stretch}
use Rattle.pattern_databases.proofs.parts.Parts.part.Goals as goal

pub returns : goal.returns
returns c =
    let p = c.args.self.now in
    let first = c.args.number * 2 in
    let n = min 2 (p.count - first) in
    let size : c.min.result - first ≡ n = omega arith in
    ap (λ k. take k (drop first p.atoms)) size ∙ counted_stretch p.atoms first n 16 p.full p.numbered (omega arith)
