-- The piece at a place of a text. Assumes nothing.
use Rattle.std.proofs.Common.{◌≡◌, ℕ, ◌+◌, ◌-◌, ◌<◌, ◌≤◌, List, ◌∷◌, length, get_or, take, drop, Some, None, sym, ap, ◌∙◌, arith}
use Rattle.std.specs.List.{prefix_len}
use Rattle.std.proofs.lemmas.List.{at_drop_more, at_drop_all, drop-drop}
use Rattle.std.proofs.lemmas.List.Sums.{prefix_len-drop_yes, prefix_len-drop_no}
use Rattle.std.proofs.lemmas.Bool.Decides.{nat_tests}
use Rattle.text.specs.Pieces.{opens, closes, plain, of_run, run_in, piece_in}

pub at_end : (t : List ℕ) (at : ℕ) → length t ≤ at → None ≡ piece_in (drop at t)
at_end t at h = sym (at_drop_all piece_in t at h)

pub at_open : (t : List ℕ) (at : ℕ) → at < length t → get_or t at 0 ≡ 40 → Some (opens, drop (at + 1) t) ≡ piece_in (drop at t)
at_open t at h e = sym (at_drop_more piece_in t at 0 h ∙ grind (arith, nat_tests))

pub at_close : (t : List ℕ) (at : ℕ) → at < length t → get_or t at 0 ≡ 41 → Some (closes, drop (at + 1) t) ≡ piece_in (drop at t)
at_close t at h e = sym (at_drop_more piece_in t at 0 h ∙ grind (arith, nat_tests))

-- neither bracket: the run there
run_at : (t : List ℕ) (at : ℕ) → at < length t → (get_or t at 0 ≡ 40 → ⊥) → (get_or t at 0 ≡ 41 → ⊥) → piece_in (drop at t) ≡ run_in (drop at t)
run_at t at h a b =
    let p : piece_in (get_or t at 0 ∷ drop (at + 1) t) ≡ run_in (get_or t at 0 ∷ drop (at + 1) t) = grind (arith, nat_tests) in
    at_drop_more piece_in t at 0 h ∙ p ∙ sym (at_drop_more run_in t at 0 h)

pub at_blank : (t : List ℕ) (at : ℕ) → at < length t → get_or t at 0 ≡ 32 → None ≡ piece_in (drop at t)
at_blank t at h e =
    let none : prefix_len plain (drop at t) ≡ 0 = prefix_len-drop_no plain t at 0 h (grind (arith, nat_tests)) in
    sym (run_at t at h (λ q. omega arith) (λ q. omega arith) ∙ grind (arith, nat_tests))

pub at_run : (t : List ℕ) (at end : ℕ) → at < length t → (get_or t at 0 ≡ 40 → ⊥) → (get_or t at 0 ≡ 41 → ⊥) → (get_or t at 0 ≡ 32 → ⊥) → end ≡ at + prefix_len plain (drop at t) → Some (of_run (take (end - at) (drop at t)), drop end t) ≡ piece_in (drop at t)
at_run t at end h a b d e =
    let k = prefix_len plain (drop at t) in
    let more : k ≡ 1 + prefix_len plain (drop (at + 1) t) = prefix_len-drop_yes plain t at 0 h (grind (arith, nat_tests)) in
    let size : end - at ≡ k = omega arith in
    let some : run_in (drop at t) ≡ Some (of_run (take k (drop at t)), drop k (drop at t)) = grind (arith, nat_tests) in
    ap (λ n. Some (of_run (take n (drop at t)), drop end t)) size
    ∙ ap (λ r. Some (of_run (take k (drop at t)), r)) (ap (λ n. drop n t) e ∙ sym (drop-drop k at t))
    ∙ sym some
    ∙ sym (run_at t at h a b)
