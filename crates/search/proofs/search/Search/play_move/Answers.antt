use Rattle.std.proofs.Common.{◌≡◌, ◌<◌, ◌+◌, sym, subst, refl, ◌∙◌, arith}
use Rattle.search_theory.specs.Steps.{dead_end}
use Rattle.search.specs.Contents.{nodes_of}
use Rattle.search.specs.inside.Parts.{Finds}
use Rattle.search.proofs.Playing.{leads_to, known_again, known_new}
use Rattle.search.proofs.search.Search.play_move.Goals as goal

pub returns-in-Some-clause-moves : goal.returns-in-Some-clause-moves
returns-in-Some-clause-moves g c = λ taken at position depth shallow known.
    let m = g.Z.Puzzle.meaning c.args.puzzle.now in
    let nodes = nodes_of c.args.self.now in
    let number = c.args.number in
    let place = c.args.from.now.place in
    let few : number < m.game.count = rw (g.met.Z.Puzzle.counted c.args.puzzle.now) c.requires.number in
    let to = leads_to m nodes place number taken _ _ c.play.new.into _ known at position c.requires.ready c.play.ensures c.if-not-play.false few in
    let deep : c.saturating_add.result ≡ taken.depth + 1 = omega (arith, c.saturating_add.ensures) in
    let found = subst (Finds nodes c.play.new.into) c.in-Some.is (c.find.ensures.finds known to.reached (c.key-key.ensures to.reached)) in
    known_again m c.args.self.now.open_list.capacity place taken number nodes c.play.new.into to.leads c.in-Some.known c.saturating_add.result (nodes_of c.relax.new.self) known deep found c.relax.ensures.after

pub returns-in_default-lower_bound-clause-moves : goal.returns-in_default-lower_bound-clause-moves
returns-in_default-lower_bound-clause-moves g c = λ taken at position depth shallow known.
    let m = g.Z.Puzzle.meaning c.args.puzzle.now in
    let number = c.args.number in
    let few : number < m.game.count = rw (g.met.Z.Puzzle.counted c.args.puzzle.now) c.requires.number in
    let to = leads_to m _ c.args.from.now.place number taken _ _ c.play.new.into _ known at position c.requires.ready c.play.ensures c.if-not-play.false few in
    dead_end c.play.new.into to.leads (sym (c.lower_bound.ensures to.reached) ∙ c.in_default-lower_bound.is) (refl {a = nodes_of c.args.self.now})

pub returns-clause-moves : goal.returns-clause-moves
returns-clause-moves g c = λ taken at position depth shallow known.
    let m = g.Z.Puzzle.meaning c.args.puzzle.now in
    let nodes = nodes_of c.args.self.now in
    let number = c.args.number in
    let place = c.args.from.now.place in
    let few : number < m.game.count = rw (g.met.Z.Puzzle.counted c.args.puzzle.now) c.requires.number in
    let small : number < 256 = omega (arith, (g.met.Z.Puzzle.lawful c.args.puzzle.now).few) in
    let to = leads_to m nodes place number taken _ _ c.play.new.into _ known at position c.requires.ready c.play.ensures c.if-not-play.false few in
    let deep : c.saturating_add.result ≡ taken.depth + 1 = omega (arith, c.saturating_add.ensures) in
    let key = c.key-key.ensures to.reached in
    let fresh = subst (Finds nodes c.play.new.into) c.in_default.is (c.find.ensures.finds known to.reached key) in
    let alive = sym (c.lower_bound.ensures to.reached) ∙ c.in-Some-lower_bound.is in
    known_new m c.args.self.now.open_list.capacity place taken number nodes c.play.new.into to.leads c.args.self.now c.store.new.self c.store.result c.key-key.result c.saturating_add.result
    c.in-Some-lower_bound.floor refl deep key small fresh alive c.store.ensures.room c.store.ensures.after
