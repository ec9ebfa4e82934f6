use Rattle.std.proofs.Common.{◌≡◌}
use Rattle.slides.specs.Sets.{has}
use Rattle.slides.specs.Slides.{rest_cell}
use Rattle.slides.proofs.Ahead.{ahead}
use Rattle.slides.proofs.sliding.slide.Given as goal

-- from here one rests where one would have rested from the start
abbrev pub invariant-loop-next : goal.invariant-loop-next
invariant-loop-next l =
    let w = l.grid.width in
    let h = l.grid.height in
    rest_cell w h (has l.blocked) l.direction l.at ≡ rest_cell w h (has l.blocked) l.direction l.from

abbrev pub decreases-loop-next : goal.decreases-loop-next
decreases-loop-next l = ahead l.grid.width l.grid.height l.at l.direction
