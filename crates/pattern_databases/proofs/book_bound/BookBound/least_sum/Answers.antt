use Rattle.std.proofs.Common.{◌<◌, IfSome, sym, ◌∙◌, subst}
use Rattle.atoms.specs.Level.{atoms}
use Rattle.pattern_databases.specs.inside.Bounds.{AtLeast, sum_at}
use Rattle.pattern_databases.proofs.Summing.{sum_at_place, least_less, least_stays}
use Rattle.pattern_databases.proofs.book_bound.BookBound.least_sum.Goals as goal
use Rattle.pattern_databases.proofs.book_bound.BookBound.least_sum.Goals.{in-Some, in_default}

pub loop-place-preserved : goal.loop-place-preserved
loop-place-preserved c =
    let self = c.args.self.now in
    let l = atoms self.book.layout.level.now in
    let bytes = self.book.bytes.now in
    let entries = c.args.entries.now in
    let place = c.loop-place.place in
    let limit = c.unwrap_or.result in
    let same = sum_at_place l bytes place self.place_length entries self.whole c.requires.inside in
    elim c.match-sum_below.branch [
      | in-Some w ↦
          let says = w.in-Some.ensures.says in
          w.least-is ∙ least_less (sum_at l bytes entries) place w.in-Some.sum limit c.loop-place.least c.loop-place.invariant c.unwrap_or.ensures
          (sym same ∙ says.0) says.1
      | in_default w ↦
          w.least-is ∙ least_stays (sum_at l bytes entries) place limit c.loop-place.least c.loop-place.invariant c.unwrap_or.ensures
          (subst (λ sum. IfSome sum (λ s. s < 65535)) same c.sum_below.ensures.small) (subst (AtLeast limit) same w.in_default.ensures.says)
    ]
