use Rattle.std.proofs.Common.{◌≡◌, ◌+◌, length, sym, ap, ◌∙◌, subst, arith}
use Rattle.atoms.specs.Level.{atoms}
use Rattle.pattern_databases.specs.Layout.{block_length, first_blocks}
use Rattle.pattern_databases.specs.inside.Blocks.{Small}
use Rattle.pattern_databases.proofs.Layouts.{is_part, blocks_few, first_blocks_more, first_blocks_all}
use Rattle.pattern_databases.proofs.layout.Layout.place_length.Goals as goal
use Rattle.pattern_databases.proofs.layout.Layout.place_length.Goals.{After-placements-length}

-- the bytes with one part more
more : (c : After-placements-length) → c.loop-number.length + c.placements-length.result ≡ first_blocks (atoms c.args.self.now.level.now) (c.loop-number.number + 1)
more c =
    let s = c.args.self.now in
    let l = atoms s.level.now in
    let j = c.loop-number.number in
    ap (λ n. n + c.placements-length.result) c.loop-number.invariant
    ∙ ap (λ n. first_blocks l j + n) (c.placements-length.ensures ∙ ap (block_length l) c.part.ensures)
    ∙ sym (first_blocks_more s j (omega arith))

pub placements-length-requires : goal.placements-length-requires
placements-length-requires c =
    let s = c.args.self.now in
    subst (λ part. Small (atoms s.level.now) (length part)) (sym c.part.ensures) (is_part s c.loop-number.number (omega arith)).small

pub overflow_add-length : goal.overflow_add-length
overflow_add-length c = omega (arith, more (goal.at.overflow_add-length c).After-placements-length, blocks_few c.args.self.now (c.loop-number.number + 1))

pub loop-number-preserved : goal.loop-number-preserved
loop-number-preserved c = more (goal.at.loop-number-preserved c).After-placements-length

pub returns : goal.returns
returns c = c.loop-number.invariant ∙ first_blocks_all c.args.self.now c.loop-number.number (omega arith)
