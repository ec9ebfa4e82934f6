use Rattle.std.proofs.Common.{◌≡◌, ◌<◌, [], length, get_or, sym, ◌∙◌, subst, arith}
use Rattle.std.proofs.lemmas.List.Elements.{All-from_get_or}
use Rattle.atoms.specs.Level.{atoms, count}
use Rattle.pattern_databases.specs.Layout.{parts}
use Rattle.pattern_databases.specs.inside.Blocks.{IsPart}
use Rattle.pattern_databases.proofs.PartAtoms.{length_parts, part_at}
use Rattle.pattern_databases.proofs.Layouts.{level_of, part_count_is, part_is, is_part, place_few}
use Rattle.pattern_databases.proofs.Locating.{entry_within, located_more, located_inside, located_all}
use Rattle.pattern_databases.proofs.book_bound.BookBound.entries.Goals as goal
use Rattle.pattern_databases.proofs.book_bound.BookBound.entries.Goals.{After-part, After-loop-part}

-- the part of this turn is one of the level's
part : (c : After-part) → IsPart (atoms c.args.self.now.book.layout.level.now) c.part.result.now
part c =
    let s = c.args.self.now.book.layout in
    subst (IsPart (level_of s)) (sym c.part.ensures) (is_part s c.loop-part.part (omega arith))

there : (c : After-part) → c.loop-part.part < length (parts (atoms c.args.self.now.book.layout.level.now))
there c =
    let s = c.args.self.now.book.layout in
    omega (arith, length_parts (count (level_of s)), part_count_is s)

is : (c : After-part) → c.part.result.now ≡ get_or (parts (atoms c.args.self.now.book.layout.level.now)) c.loop-part.part []
is c =
    let s = c.args.self.now.book.layout in
    let j = c.loop-part.part in
    c.part.ensures ∙ part_is s j ∙ sym (part_at (count (level_of s)) j [] (omega (arith, part_count_is s)))

pub number_at-requires-clause-small : goal.number_at-requires-clause-small
number_at-requires-clause-small c = (part (goal.at.number_at-requires-clause-small c).After-part).small

pub number_at-requires-clause-there : goal.number_at-requires-clause-there
number_at-requires-clause-there c =
    let s = c.args.self.now.book.layout in
    let p = part (goal.at.number_at-requires-clause-there c).After-part in
    All-from_get_or (λ a. a < 16) c.part.result.now 0 (λ i h. omega (arith, p.atoms i h, s.parts.few, s.parted))

pub overflow_add-entries : goal.overflow_add-entries
overflow_add-entries c =
    let at = (goal.at.overflow_add-entries c).After-part in
    let self = c.args.self.now in
    let j = c.loop-part.part in
    omega (
      arith,
      place_few self.book.layout,
      entry_within (level_of self.book.layout) j (get_or self.starts j 0) c.number_at.result c.part.result.now (there at) (is at)
          (self.started j (there at)) c.number_at.ensures.below,
    )

pub loop-part-preserved : goal.loop-part-preserved
loop-part-preserved c =
    let at = (goal.at.loop-part-preserved c).After-part in
    let self = c.args.self.now in
    let s = self.book.layout in
    let j = c.loop-part.part in
    located_more (level_of s) c.args.at.now j (get_or self.starts j 0) c.number_at.result c.part.result.now c.loop-part.entries
    (there at) (omega (arith, s.parts.few)) (is at) (self.started j (there at))
    c.number_at.ensures.below c.number_at.ensures.number c.loop-part.invariant

-- all parts are done
all : (c : After-loop-part) → c.loop-part.part ≡ length (parts (atoms c.args.self.now.book.layout.level.now))
all c =
    let s = c.args.self.now.book.layout in
    omega (arith, length_parts (count (level_of s)), part_count_is s)

pub returns-clause-inside : goal.returns-clause-inside
returns-clause-inside c =
    let s = c.args.self.now.book.layout in
    located_inside (level_of s) c.args.at.now c.loop-part.part c.loop-part.entries (omega (arith, s.parts.few)) (all c) c.loop-part.invariant

pub returns-clause-located : goal.returns-clause-located
returns-clause-located c =
    let s = c.args.self.now.book.layout in
    located_all (level_of s) c.args.at.now c.loop-part.part c.loop-part.entries (omega (arith, s.parts.few)) (all c) c.loop-part.invariant
