use Rattle.std.proofs.Common.{◌≡◌, ◌+◌, [], length, length-append, refl, ap, subst, ◌∙◌, arith}
use Rattle.open_list.specs.OpenList.{Queue}
use Rattle.hash_index.specs.Index.{Index}
use Rattle.search_theory.specs.Calls.{new_search, Run, none}
use Rattle.search.proofs.search.Search.new.Goals as goal

pub returns-clause-uncalled : goal.returns-clause-uncalled
returns-clause-uncalled g c m =
    let queue = c.new.result.numbers in
    let index = c.new-2.result.numbers in
    let rest = c.split_at_mut-for_open_list.result.1.now in
    let links = c.split_at_mut-for_index.result.1.now in
    let a : length queue ≡ length c.split_at_mut-for_open_list.result.0.now = ap (λ (q : Queue). length q.numbers) c.new.ensures in
    let b : length index ≡ length c.split_at_mut-for_index.result.0.now = ap (λ (i : Index). length i.numbers) c.new-2.ensures in
    let whole = ap length c.split_at_mut-for_open_list.ensures.value ∙ length-append c.split_at_mut-for_open_list.result.0.now rest in
    let tail = ap length c.split_at_mut-for_index.ensures.value ∙ length-append c.split_at_mut-for_index.result.0.now links in
    let sizes : length c.args.numbers.now ≡ length queue + length index + length links = omega arith in (
      record {
        places = length c.args.table.now;
        numbers = length c.args.numbers.now;
        calls = [];
        run = subst (λ n. Run m (new_search (length c.args.table.now) (length c.args.numbers.now)) [] (new_search (length c.args.table.now) n)) sizes none;
      },
      refl,
    )
