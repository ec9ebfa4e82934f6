use Rattle.std.proofs.Common.{◌≡◌, ◌<◌, ◌≤◌, not, length, get_or, sym, refl, ap, ◌∙◌, subst, arith}
use Rattle.std.proofs.lemmas.List.{get_or_default}
use Rattle.pictures.specs.declared.cell.Cell.{Cell}
use Rattle.pictures.specs.declared.cell.Cell.TheVariants.{Wall, Free, Atom}
use Rattle.pictures.specs.contracts.cell.CellPartialEq.TheImpl
use Rattle.pictures.specs.Pictures.{shape}
use Rattle.molecules.specs.Atoms.{is_wall}
use Rattle.pattern_databases.proofs.Placements.{unwalled, is_unwalled, free_number_rank}
use Rattle.pattern_databases.proofs.Sizes.{few_cells}
use Rattle.pattern_databases.proofs.SomeFree.{some_free}
use Rattle.pattern_databases.proofs.Listing.{Listed, listed_start, listed_one, listed_none, listed_count}
use Rattle.pattern_databases.proofs.layout.Layout.new.Goals as goal
use Rattle.pattern_databases.proofs.layout.Layout.new.Goals.{then-ne, else-ne}

is_wall_by : (x : Cell) → TheImpl.ghosts.eq x Wall ≡ is_wall x
is_wall_by Wall = refl
is_wall_by Free = refl
is_wall_by (Atom label) = refl

pub loop-cell-init : goal.loop-cell-init
loop-cell-init c = listed_start (unwalled (shape c.args.level.now.board))

pub loop-cell-preserved : goal.loop-cell-preserved
loop-cell-preserved c =
    let b = shape c.args.level.now.board in
    let test = unwalled b in
    let cell = c.loop-cell.cell in
    let cells : c.cells-drawn-items.result.now ≡ b.cells = cc in
    let inside : cell < length b.cells = omega (arith, ap length cells) in
    let x = get_or b.cells cell Wall in
    let said : c.ne.result ≡ not (TheImpl.ghosts.eq x Wall) = c.ne.ensures ∙ ap (λ xs. not (TheImpl.ghosts.eq (get_or xs cell Wall) Wall)) cells in
    let tested : test cell ≡ c.ne.result =
    ap (λ y. not (is_wall y)) (get_or_default b.cells cell Free Wall inside) ∙ ap not (sym (is_wall_by x)) ∙ sym said in
    elim c.if-ne.branch [
      | then-ne w ↦ rw (w.cells-is, w.numbers-is, w.count-is) (listed_one test cell _ _ _ (omega (arith, few_cells c.args.level.now.board)) (tested ∙ w.if-ne.true) c.loop-cell.invariant)
      | else-ne w ↦ rw (w.cells-is, w.numbers-is, w.count-is) (listed_none test cell _ _ _ (tested ∙ w.if-ne.false) c.loop-cell.invariant)
    ]

pub invariant_of-result : goal.invariant_of-result
invariant_of-result c =
    let b = shape c.args.level.now.board in
    let test = unwalled b in
    let cells : c.cells-drawn-items.result.now ≡ b.cells = cc in
    let all : c.loop-cell.cell ≡ length b.cells = omega (arith, ap length cells) in
    let few : length b.cells ≤ 256 = few_cells c.args.level.now.board in
    let listed = subst (λ n. Listed test n c.loop-cell.cells c.loop-cell.numbers c.loop-cell.count) all c.loop-cell.invariant in
    record {
      parted = c.new.ensures;
      few = omega (arith, listed.few);
      counted = listed_count test (length b.cells) c.loop-cell.cells c.loop-cell.numbers c.loop-cell.count few listed;
      listed = listed.listed;
      numbered = λ cell free. listed.numbered cell free.inside (is_unwalled b cell free) ∙ sym (free_number_rank b cell free);
      below = λ cell. omega (arith, listed.within cell, some_free c.args.level.now, listed_count test (length b.cells) c.loop-cell.cells c.loop-cell.numbers c.loop-cell.count few listed);
    }
