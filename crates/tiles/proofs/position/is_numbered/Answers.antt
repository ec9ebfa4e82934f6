use Rattle.std.proofs.Common.{◌≡◌, ℕ, suc, ◌-◌, ◌*◌, ◌/◌, ◌^◌, ◌<◌, ◌≤◌, ◌↔◌, eqb, count_by, refl, subst, arith, rules, tests}
use Rattle.std.proofs.lemmas.Bool.Decides.{nat_tests}
use Rattle.std.proofs.lemmas.Iterator.{YieldsList-from_range}
use Rattle.std.proofs.lemmas.Iterator.Search.{all_from_yields_List}
use Rattle.tiles.specs.Board.{first_cells}
use Rattle.tiles.proofs.Board.{fits_cell}
use Rattle.tiles.proofs.Walks.{once_decides}
use Rattle.tiles.proofs.position.is_numbered.Goals as goal

-- the last used cell
last_cell : (p n : ℕ) → 0 < n → (p / 2 ^ (4 * (n - 1)) ≤ 15) ↔ (p < 16 ^ n)
last_cell p n some =
    let more : suc (n - 1) ≡ n = omega arith in
    subst (λ (k : ℕ). (p / 2 ^ (4 * (n - 1)) ≤ 15) ↔ (p < 16 ^ k)) more (fits_cell p (n - 1))

pub returns-then-position-used-le-CELL_MASK : goal.returns-then-position-used-le-CELL_MASK
returns-then-position-used-le-CELL_MASK c =
    let us = first_cells c.args.used c.args.position in
    let fits = (last_cell c.args.position c.args.used c.requires.0).0 c.if-position-used-le-CELL_MASK.true in
    let listed = YieldsList-from_range 0 c.args.used c.args.used refl (omega arith) in
    let once = once_decides us c.args.used c.all.result (all_from_yields_List (λ k. eqb (count_by (eqb k) us) 1) _ _ c.all.result c.all.ensures.ran listed (λ k b q h. search (rules, tests))) in
    (λ e. (once.0 e, fits), λ v. once.1 v.0)

pub returns-else-position-used-le-CELL_MASK : goal.returns-else-position-used-le-CELL_MASK
returns-else-position-used-le-CELL_MASK c =
    let fits = last_cell c.args.position c.args.used c.requires.0 in
    (λ e. absurd (grind (arith, nat_tests)), λ v. absurd (let low = fits.1 v.1 in omega arith))
