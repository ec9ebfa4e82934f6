use Rattle.text.proofs.Pens.{writes_more, writes_as}
use Rattle.ways.proofs.WayTexts.{way_parts}
use Rattle.ways.proofs.writing.WayTextCompose.compose.Goals as goal

pub returns : goal.returns
returns g c =
    let z = c.args.self.now.level.now in
    writes_as (way_parts (g.L.Puzzle.meaning z).game (g.L.Notation.spelling z) c.args.self.now.moves.now)
    (writes_more (writes_more (writes_more (writes_more c.put.ensures.wrote c.put_decimal.ensures.wrote) c.put-2.ensures.wrote) c.compose_moves.ensures) c.put-3.ensures.wrote)
