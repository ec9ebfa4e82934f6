use Rattle.std.proofs.Common.{◌≡◌, ℕ, true, Some, refl, sym, subst, ◌∙◌, arith}
use Rattle.grid.specs.declared.Direction.{Direction}
use Rattle.grid.specs.Grid.{neighbour}
use Rattle.puzzle.specs.Game.{Played}
use Rattle.tiles.specs.Board.{position_of, cells, tiles_after_swap}
use Rattle.tiles.specs.Level.{Tiles, tiles, IsBlankCell, destination_towards}
use Rattle.tiles.proofs.Board.{few_cells}
use Rattle.tiles.specs.laws.Sliding.{blank_used}
use Rattle.tiles.specs.laws.Moving.{from_board}
use Rattle.tiles.proofs.level.TileLevel.send_blank.Goals as goal

pub with_swapped-requires : goal.with_swapped-requires
with_swapped-requires c =
    let g = c.args.self.now.grid in
    let few = few_cells _ _ c.args.self.now.wide.1 c.args.self.now.high.1 in
    let beside = sym c.neighbour.ensures.named ∙ c.in-Some-neighbour.is in
    let next = c.neighbour.ensures.onward _ beside in
    let used = from_board g.width g.height _ _ c.args.direction beside in
    record { source = omega arith; target = omega arith; apart = next.1 }

-- from the blank's cell to the one beside it
towards : (l : Tiles) (p b t : ℕ) (d : Direction) → IsBlankCell l p (Some b) → neighbour l.width l.height b d ≡ Some t → destination_towards l p d ≡ Some (position_of (tiles_after_swap (cells p) b t))
towards l p b t d known beside = rw (sym known, beside) refl

pub returns : goal.returns
returns c known =
    let few = few_cells _ _ c.args.self.now.wide.1 c.args.self.now.high.1 in
    let found = sym c.in-Some.is ∙ known in
    let beside = sym c.neighbour.ensures.named ∙ c.in-Some-neighbour.is in
    let after = c.with_swapped.ensures (blank_used _ _ _ few (sym found)).1 in
    subst (λ o. Played o true c.args.into.now c.with_swapped.result) (sym (towards (tiles c.args.self.now) c.args.position _ _ c.args.direction found beside)) (refl, after)
