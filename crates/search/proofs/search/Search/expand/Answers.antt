use Rattle.std.proofs.Common.{◌<◌, ◌≤◌, sym, subst, refl, arith, add-one}
use Rattle.search_theory.proofs.Invariants.{playing}
use Rattle.search_theory.specs.Nodes.{closed_node}
use Rattle.search_theory.specs.Steps.{MovePlayed, MovesPlayed, none, next, Overflows}
use Rattle.search.specs.Contents.{nodes_of}
use Rattle.search.specs.inside.Parts.{PlaysOrOverflows}
use Rattle.search.proofs.Frames.{framed_same, framed_then}
use Rattle.search.proofs.search.Search.expand.Goals as goal

pub loop-number-init : goal.loop-number-init
loop-number-init g c = record { framed = framed_same c.args.self.now; played = λ taken at position depth shallow known. none }

pub loop-number-preserved : goal.loop-number-preserved
loop-number-preserved g c = record {
  framed = framed_then c.args.self.now c.loop-number.self c.play_move.new.self c.loop-number.invariant.framed c.play_move.ensures.frame;
  played = λ taken at position depth shallow known.
      let m = g.Z.Puzzle.meaning c.args.puzzle.now in
      let capacity = c.args.self.now.open_list.capacity in
      let place = c.args.from.now.place in
      let mid = c.loop-number.self in
      let count = g.met.Z.Puzzle.counted c.args.puzzle.now in
      let few : c.loop-number.number ≤ m.game.count = omega (arith, count) in
      let before = c.loop-number.invariant.played taken at position depth shallow known in
      let now = playing m capacity place taken (closed_node taken) refl refl c.loop-number.number (nodes_of c.args.self.now) (nodes_of mid) known at few before in
      let moves = subst (λ b. PlaysOrOverflows m mid.open_list.capacity place taken c.loop-number.number mid b c.play_move.new.self) c.if-not-play_move.false (c.play_move.ensures.moves taken now.at position depth shallow now.known) in
      let move = subst (λ n. MovePlayed m n place taken c.loop-number.number (nodes_of mid) (nodes_of c.play_move.new.self)) c.loop-number.invariant.framed.capacity moves in
      rw add-one (next before move);
}

pub returns-then-not-play_move-clause-moves : goal.returns-then-not-play_move-clause-moves
returns-then-not-play_move-clause-moves g c = λ taken at position depth shallow known.
    let m = g.Z.Puzzle.meaning c.args.puzzle.now in
    let capacity = c.args.self.now.open_list.capacity in
    let place = c.args.from.now.place in
    let mid = c.loop-number.self in
    let number = c.loop-number.number in
    let count = g.met.Z.Puzzle.counted c.args.puzzle.now in
    let few : number < m.game.count = omega (arith, count) in
    let before = c.loop-number.invariant.played taken at position depth shallow known in
    let now = playing m capacity place taken (closed_node taken) refl refl number (nodes_of c.args.self.now) (nodes_of mid) known at (omega arith) before in
    let moves = subst (λ b. PlaysOrOverflows m mid.open_list.capacity place taken number mid b c.play_move.new.self) c.if-not-play_move.true (c.play_move.ensures.moves taken now.at position depth shallow now.known) in
    let over = subst (λ n. Overflows m n place taken number (nodes_of mid)) c.loop-number.invariant.framed.capacity moves.0 in
    (number, few, subst (λ ns. MovesPlayed m capacity place taken (nodes_of c.args.self.now) number ns) (sym moves.1) before, subst (λ ns. Overflows m capacity place taken number ns) (sym moves.1) over)
