use Rattle.std.proofs.Common.{◌≡◌, ◌+◌, ◌<◌, ◌≢◌, length, get_or, set, sym, ap, ◌∙◌, subst, ⊎_elim, arith}
use Rattle.std.proofs.lemmas.List.{length-set, get_or-set_same, get_or-set_other}
use Rattle.std.proofs.lemmas.Bool.{cases_eq}
use Rattle.atoms.specs.Level.{atoms, count}
use Rattle.pattern_databases.specs.Layout.{block_length, first_blocks}
use Rattle.pattern_databases.specs.inside.Blocks.{Small}
use Rattle.pattern_databases.proofs.PartAtoms.{length_parts}
use Rattle.pattern_databases.proofs.Layouts.{part_count_is, is_part, blocks_few, first_blocks_more, first_blocks_all}
use Rattle.pattern_databases.proofs.book_bound.BookBound.new.Goals as goal
use Rattle.pattern_databases.proofs.book_bound.BookBound.new.Goals.{After-placements-place_length}

-- the bytes with one part more
more : (c : After-placements-place_length)
    → c.loop-part.place_length + c.placements-place_length.result ≡ first_blocks (atoms c.args.book.layout.level.now) (c.loop-part.part + 1)
more c =
    let s = c.args.book.layout in
    let l = atoms s.level.now in
    let j = c.loop-part.part in
    ap (λ n. n + c.placements-place_length.result) c.loop-part.invariant.whole
    ∙ ap (λ n. first_blocks l j + n) (c.placements-place_length.ensures ∙ ap (block_length l) c.part.ensures)
    ∙ sym (first_blocks_more s j (omega arith))

pub placements-place_length-requires : goal.placements-place_length-requires
placements-place_length-requires c =
    let s = c.args.book.layout in
    subst (λ part. Small (atoms s.level.now) (length part)) (sym c.part.ensures) (is_part s c.loop-part.part (omega arith)).small

pub overflow_add-place_length : goal.overflow_add-place_length
overflow_add-place_length c =
    omega (arith, more (goal.at.overflow_add-place_length c).After-placements-place_length, blocks_few c.args.book.layout (c.loop-part.part + 1))

pub loop-part-preserved : goal.loop-part-preserved
loop-part-preserved c =
    let starts = c.loop-part.starts in
    let n = c.loop-part.part in
    let next = c.loop-part.place_length in
    let s = c.args.book.layout in
    let there : n < length starts = omega (arith, c.loop-part.invariant.long, s.parts.few) in
    record {
      long = length-set starts n next ∙ c.loop-part.invariant.long;
      whole = more (goal.at.loop-part-preserved c).After-placements-place_length;
      started = λ j h. ⊎_elim
          (λ same. ap (λ i. get_or (set starts n next) i 0) same ∙ get_or-set_same starts n next 0 there
          ∙ c.loop-part.invariant.whole ∙ ap (first_blocks (atoms s.level.now)) (sym same))
          (λ (other : j ≢ n). get_or-set_other starts n j next 0 other ∙ c.loop-part.invariant.started j (omega arith))
          (cases_eq j n);
    }

pub invariant_of-result : goal.invariant_of-result
invariant_of-result c =
    let s = c.args.book.layout in
    let l = atoms s.level.now in
    record {
      whole = c.loop-part.invariant.whole ∙ first_blocks_all s c.loop-part.part (omega arith);
      started = λ j h. c.loop-part.invariant.started j (omega (arith, length_parts (count l), part_count_is s));
    }
