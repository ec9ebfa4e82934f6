use Rattle.std.proofs.Common.{sym, ap, ◌∙◌}
use Rattle.std.proofs.Math.Logic.{∥∥₁_elim, ∥∥₁_map}
use Rattle.std.specs.Coded.{Coded-set, coded_bool}
use Rattle.ways.specs.inside.Walking.{move_judgement}
use Rattle.ways.proofs.Walking.{FollowsTo-prop, follow_reaches, follow_refused, follow_allowed}
use Rattle.ways.proofs.walk.Walk.follow.Goals as goal

pub invariant_of-self-in_default : goal.invariant_of-self-in_default
invariant_of-self-in_default g c =
    let w = c.args.self.now in
    let z = w.level.now in
    record {
      reached = ∥∥₁_map w.reached (λ r. follow_reaches (g.L.Puzzle.meaning z).game (g.L.Notation.spelling z) (g.met.L.Notation.readable z) w.position _ c.args.written.now _ r (c.follow-outcome.ensures r));
    }

pub returns-in-Err-clause-leads : goal.returns-in-Err-clause-leads
returns-in-Err-clause-leads g c =
    let w = c.args.self.now in
    let game = (g.L.Puzzle.meaning w.level.now).game in
    let k = g.L.Notation.spelling w.level.now in
    let follows = ∥∥₁_elim w.reached (FollowsTo-prop g.row.L-Position.coded (k.outcome w.position c.args.written.now) _ _ _) c.follow-outcome.ensures in
    let finished = ∥∥₁_elim w.reached (Coded-set coded_bool _ _) c.is_goal.ensures in
    let is = ap (move_judgement c.follow-outcome.result) (sym finished) ∙ sym c.judge_move.ensures ∙ c.in-Err.is in
    rw c.at.ensures (follow_refused game k w.position _ c.args.line c.args.written.now _ follows c.in-Err.fault is)

pub returns-clause-leads : goal.returns-clause-leads
returns-clause-leads g c =
    let w = c.args.self.now in
    let game = (g.L.Puzzle.meaning w.level.now).game in
    let k = g.L.Notation.spelling w.level.now in
    let follows = ∥∥₁_elim w.reached (FollowsTo-prop g.row.L-Position.coded (k.outcome w.position c.args.written.now) _ _ _) c.follow-outcome.ensures in
    let finished = ∥∥₁_elim w.reached (Coded-set coded_bool _ _) c.is_goal.ensures in
    let is = ap (move_judgement c.follow-outcome.result) (sym finished) ∙ sym c.judge_move.ensures ∙ c.in_default.is in
    follow_allowed game k w.position _ c.args.line c.args.written.now _ follows c.in_default.field-0 is
