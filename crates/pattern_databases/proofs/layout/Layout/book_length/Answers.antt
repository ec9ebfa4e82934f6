use Rattle.std.proofs.Common.{◌≤◌, length, subst, sym, arith}
use Rattle.std.proofs.lemmas.Nat.{mul-le}
use Rattle.pattern_databases.proofs.Layouts.{places_few, place_few}
use Rattle.pattern_databases.proofs.layout.Layout.book_length.Goals as goal

pub overflow_mul-result : goal.overflow_mul-result
overflow_mul-result c =
    let s = c.args.self.now in
    let places : length c.goal_places.result.now ≤ 256 = subst (λ xs. length xs ≤ 256) (sym c.goal_places.ensures) (places_few s) in
    let place : c.place_length.result ≤ 524288 = subst (λ n. n ≤ 524288) (sym c.place_length.ensures) (place_few s) in
    omega (arith, mul-le (length c.goal_places.result.now) c.place_length.result 256 524288 places place)
