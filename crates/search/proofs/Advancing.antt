-- What an advance needs to know. Assumes nothing.
use Rattle.std.proofs.Common.{◌≡◌, refl, arith, ℕ, ◌+◌, ◌*◌, ◌^◌, ◌<◌, ◌≤◌, true, nat_le, Some, None, mul-le-mul_left}
use Rattle.std.proofs.lemmas.Bool.{le-leb}
use Rattle.search_theory.specs.Steps.{State}
use Rattle.search_theory.specs.Calls.{Search, advance_refusal}

-- there are too few steps to overflow their count
pub few_steps : (places steps : ℕ) → places ≤ 1048576 → steps < places * places → steps + 1 < 2 ^ 64
few_steps places steps few below =
    let most : places * places ≤ places * 1048576 = mul-le-mul_left places few in
    omega arith

pub may_advance : {P : Type 0} (s : Search P) (t : State P) (budget : ℕ) → s.state ≡ Some t → 1 ≤ budget → advance_refusal s budget ≡ None
may_advance {P} s t budget opened some =
    let enough : nat_le 1 budget ≡ true = le-leb 1 budget some in
    rw (opened, enough) refl
