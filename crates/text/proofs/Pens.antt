-- Laws of what a pen writes: nothing, one text after the other, and a whole text from the front. Assumes nothing.
use Rattle.std.proofs.Common.{◌≡◌, ℕ, ◌+◌, ◌-◌, ◌<◌, ◌≤◌, Bool, true, false, ◌||◌, ltb, cond, ok_or, ◌⊎◌, List, [], ◌++◌, length, take, drop, Some, None, Ok, Err, Option, Result, sym, refl, inl, inr, ap, ◌∙◌, subst, append_assoc, append-nil, arith}
use Rattle.std.specs.Prelude.{nat_le}
use Rattle.std.proofs.lemmas.List.{take_all, take_at, take-append-le, drop_at, drop-drop, length-append, length-drop, length-take-le, take-append-drop}
use Rattle.std.proofs.Math.Seq.{take-append-add}
use Rattle.std.proofs.lemmas.Bool.{or_parts, cond-true, le-leb, leb-true, le-ltb, ltb-false, ltb-true}
use Rattle.std.proofs.lemmas.Bool.Decides.{nat_tests}
use Rattle.text.specs.declared.pen.Pen.{Pen}
use Rattle.text.specs.Pens.{PenState, pen_state, state_at_front, measuring_state, with_text_at, out_after, after_put, written, TextWritten, Writes, with_front, buffer_after, length_if_fits}

-- a pen that was not overflowed is overflowed exactly where the text is longer than the room
measures : {text : List ℕ} {a b : PenState} → TextWritten text a b → a.overflowed ≡ false → b.overflowed ≡ ltb a.room (length text)
measures {text = text} {a = a} w clear = w.overflow ∙ ap (λ o. o || ltb a.room (length text)) clear

fits : {text : List ℕ} {a b : PenState} → TextWritten text a b → a.overflowed ≡ false → length text ≤ a.room → b.overflowed ≡ false
fits w clear room = measures w clear ∙ le-ltb _ _ room

-- a pen that is not overflowed was not overflowed before, and had the room
clear_before : {text : List ℕ} {a b : PenState} → TextWritten text a b → b.overflowed ≡ false → a.overflowed ≡ false
clear_before w e = (or_parts _ _ (sym w.overflow ∙ e)).0

fits_before : {text : List ℕ} {a b : PenState} → TextWritten text a b → b.overflowed ≡ false → length text ≤ a.room
fits_before w e = ltb-false _ _ (or_parts _ _ (sym w.overflow ∙ e)).1

-- nothing
with_text_at_nil : (at : ℕ) (out : List ℕ) → out ≡ with_text_at [] at out
with_text_at_nil at out = let same : at + 0 ≡ at = omega arith in rw same (sym (take-append-drop at out))

with_none_at : (n : ℕ) (text : List ℕ) (at : ℕ) (out : List ℕ) → out ≡ with_text_at (take (n - n) text) at out
with_none_at n text at out = let none : n - n ≡ 0 = omega arith in rw none (with_text_at_nil at out)

text_written_nil : (a : PenState) → TextWritten [] a a
text_written_nil a = record {
  overflow = grind (arith, nat_tests);
  room_left = λ _. omega arith;
  less_room = omega arith;
  no_longer = omega arith;
  text_there = λ _. with_none_at a.room [] (length a.out - a.room) a.out;
  same_length = refl;
  silent = λ _. refl;
}

-- one text in one piece
length-with_text_at : (text out : List ℕ) (at : ℕ) → at + length text ≤ length out → length (with_text_at text at out) ≡ length out
length-with_text_at text out at room =
    length-append (take at out) (text ++ drop (at + length text) out)
    ∙ omega (arith, length-take-le at out (omega arith), length-append text (drop (at + length text) out), length-drop (at + length text) out)

module _ (text : List ℕ) (a : PenState) where
  abbrev marked : PenState
  marked = record { out = a.out; room = a.room; overflowed = true }

  abbrev spent : PenState
  spent = record { out = out_after text a; room = a.room - length text; overflowed = false }

  misfit_writes : (a.overflowed || ltb a.room (length text)) ≡ true → TextWritten text a marked
  misfit_writes over = record {
    overflow = sym over;
    room_left = λ clear. absurd (cc);
    less_room = omega arith;
    no_longer = omega arith;
    text_there = λ _. with_none_at a.room text (length a.out - a.room) a.out;
    same_length = refl;
    silent = λ was. rw was refl;
  }

  same_length_after : length text ≤ a.room → length (out_after text a) ≡ length a.out
  same_length_after room = by (nat_le a.room (length a.out)) refl
    where
      by : (real : Bool) → nat_le a.room (length a.out) ≡ real → length (cond real (with_text_at text (length a.out - a.room) a.out) a.out) ≡ length a.out
      by true real = length-with_text_at text a.out (length a.out - a.room) (omega (arith, leb-true _ _ real))
      by false _ = refl

  fit_writes : (a.overflowed || ltb a.room (length text)) ≡ false → TextWritten text a spent
  fit_writes fit =
      let parts = or_parts a.overflowed (ltb a.room (length text)) fit in
      let clear : a.overflowed ≡ false = parts.0 in
      let room : length text ≤ a.room = ltb-false a.room (length text) parts.1 in
      record {
        overflow = sym fit;
        room_left = λ _. refl;
        less_room = omega arith;
        no_longer = omega arith;
        text_there = λ real.
            let all : take (a.room - (a.room - length text)) text ≡ text = take_all _ text (omega arith) in
            rw all (cond-true _ _ _ (le-leb _ _ real));
        same_length = same_length_after room;
        silent = λ was. absurd (cc);
      }

  pub put_writes : TextWritten text a (after_put text a)
  put_writes = by (a.overflowed || ltb a.room (length text)) refl
    where
      by : (over : Bool) → (a.overflowed || ltb a.room (length text)) ≡ over → TextWritten text a (cond over marked spent)
      by true over = misfit_writes over
      by false fit = fit_writes fit

-- one text after the other
with_text_at_more : (t u out : List ℕ) (at : ℕ) → at + length t ≤ length out → with_text_at u (at + length t) (with_text_at t at out) ≡ with_text_at (t ++ u) at out
with_text_at_more t u out at room =
    let next : ℕ = at + length t in
    let front : List ℕ = take at out ++ t in
    let rest : List ℕ = drop next out in
    let split : with_text_at t at out ≡ front ++ rest = sym (append_assoc (take at out) t rest) in
    let long : length front ≡ next = length-append (take at out) t ∙ ap (λ k. k + length t) (length-take-le at out (omega arith)) in
    let before : take next (with_text_at t at out) ≡ front = ap (take next) split ∙ take_at front rest next long in
    let behind : drop next (with_text_at t at out) ≡ rest = ap (drop next) split ∙ drop_at front rest next long in
    let end : next + length u ≡ at + length (t ++ u) = omega (arith, length-append t u) in
    let past : drop (next + length u) (with_text_at t at out) ≡ drop (at + length (t ++ u)) out =
    sym (drop-drop (length u) next (with_text_at t at out)) ∙ ap (drop (length u)) behind ∙ drop-drop (length u) next out ∙ ap (λ k. drop k out) end in
    ap (λ l. l ++ (u ++ drop (next + length u) (with_text_at t at out))) before ∙ ap (λ l. front ++ (u ++ l)) past ∙ simp append_assoc

overflow_more : (p q r : Bool) (m n k l : ℕ) → q ≡ (p || ltb m k) → (q ≡ false → n ≡ m - k) → r ≡ (q || ltb n l) → r ≡ (p || ltb m (k + l))
overflow_more p q r m n k l first left second = grind (arith, nat_tests)

-- a front of the first text, and of the second one where the first was written whole
take_both : (t u : List ℕ) (m n : ℕ) → (m ≡ length t) ⊎ (n ≡ 0) → m ≤ length t → take (m + n) (t ++ u) ≡ take m t ++ take n u
take_both t u m n (inl whole) _ = rw whole (take-append-add t u n ∙ ap (λ x. x ++ take n u) (sym (take_all (length t) t (omega arith))))
take_both t u m n (inr none) inside =
    let same : m + 0 ≡ m = omega arith in
    rw (none, same) (take-append-le m t u inside ∙ sym (append-nil (take m t)))

-- the first of two texts was written whole, or nothing of the second
first_whole : {t u : List ℕ} {a b c : PenState} → TextWritten t a b → TextWritten u b c → (written a b ≡ length t) ⊎ (written b c ≡ 0)
first_whole {t = t} {a = a} {b = b} {c = c} f g = by b.overflowed refl
  where
    by : (over : Bool) → b.overflowed ≡ over → (written a b ≡ length t) ⊎ (written b c ≡ 0)
    by true over = let same : c.room ≡ b.room = ap (λ (p : PenState). p.room) (g.silent over) in inr (omega arith)
    by false clear = inl (omega (arith, f.room_left clear, fits_before f clear))

text_written_more : {t u : List ℕ} {a b c : PenState} → TextWritten t a b → TextWritten u b c → TextWritten (t ++ u) a c
text_written_more {t = t} {u = u} {a = a} {b = b} {c = c} f g =
    let both = length-append t u in
    let less = f.less_room in
    let less_then = g.less_room in
    let long = f.no_longer in
    let long_then = g.no_longer in
    let same = f.same_length in
    record {
      overflow = rw both (overflow_more a.overflowed b.overflowed _ a.room b.room (length t) (length u) f.overflow f.room_left g.overflow);
      room_left = λ e. omega (arith, f.room_left (clear_before g e), g.room_left e);
      less_room = omega arith;
      no_longer = omega arith;
      text_there = λ real.
          let m = written a b in
          let n = written b c in
          let at : ℕ = length a.out - a.room in
          let short : length (take m t) ≡ m = length-take-le m t long in
          let place : length b.out - b.room ≡ at + length (take m t) = omega arith in
          let sum : a.room - c.room ≡ m + n = omega arith in
          g.text_there (omega arith)
          ∙ ap (λ k. with_text_at (take n u) k b.out) place
          ∙ ap (with_text_at (take n u) (at + length (take m t))) (f.text_there real)
          ∙ with_text_at_more (take m t) (take n u) a.out at (omega arith)
          ∙ ap (λ x. with_text_at x at a.out) (sym (ap (λ k. take k (t ++ u)) sum ∙ take_both t u m n (first_whole f g) long));
      same_length = g.same_length ∙ f.same_length;
      silent = λ e. let still = f.silent e in g.silent (ap (λ (p : PenState). p.overflowed) still ∙ e) ∙ still;
    }

-- The same of the pens themselves.
pub writes_nil : (a : Pen) → Writes [] a a
writes_nil a = record { wrote = text_written_nil (pen_state a); same = refl }

pub writes_more : {t u : List ℕ} {a b c : Pen} → Writes t a b → Writes u b c → Writes (t ++ u) a c
writes_more v w = record { wrote = text_written_more v.wrote w.wrote; same = w.same ∙ v.same }

pub writes_as : {t u : List ℕ} {a b : Pen} → t ≡ u → Writes t a b → Writes u a b
writes_as {a = a} {b = b} e w = subst (λ x. Writes x a b) e w

-- from a to b a part of a text was written, and it is whole once the rest is written too
abbrev pub Leads : List ℕ → List ℕ → Pen → Pen → Type 0
Leads whole rest a b = (c : Pen) → Writes rest b c → Writes whole a c

pub leads_start : {whole rest : List ℕ} {a : Pen} → whole ≡ rest → Leads whole rest a a
leads_start e c w = writes_as (sym e) w

pub leads_more : {whole text rest : List ℕ} {a b c : Pen} → Leads whole (text ++ rest) a b → Writes text b c → Leads whole rest a c
leads_more leads wrote d w = leads d (writes_more wrote w)

pub leads_as : {whole rest same : List ℕ} {a b : Pen} → rest ≡ same → Leads whole rest a b → Leads whole same a b
leads_as {whole = whole} {a = a} {b = b} e leads = subst (λ t. Leads whole t a b) e leads

pub leads_end : {whole : List ℕ} {a b : Pen} → Leads whole [] a b → Writes whole a b
leads_end {b = b} leads = leads b (writes_nil b)

-- a text at the front of a buffer
front_fits : {text out : List ℕ} {b : PenState} → TextWritten text (state_at_front out) b → b.overflowed ≡ false → (b.out ≡ with_front text out) × (b.room ≡ length out - length text)
front_fits {text = text} {out = out} {b = b} w e =
    let room : length text ≤ length out = fits_before w e in
    let left = w.room_left e in
    let whole : take (length out - b.room) text ≡ text = take_all _ text (omega arith) in
    let front : length out - length out ≡ 0 = omega arith in
    let next : 0 + length text ≡ length text = omega arith in
    let there : b.out ≡ with_front text out =
    w.text_there (omega arith)
    ∙ ap (λ t. with_text_at t (length out - length out) out) whole
    ∙ ap (λ at. with_text_at text at out) front
    ∙ ap (λ k. text ++ drop k out) next
    in
    (there, left)

-- The two ends of `write_text`. The measuring pen overflowed, so the text is too long:
measured_long : {text : List ℕ} (out : List ℕ) {a b : PenState} → a ≡ measuring_state (length out) → TextWritten text a b → true ≡ b.overflowed → length out < length text
measured_long {text = text} out {b = b} measuring w e =
    ltb-true _ _ (sym (measures (subst (λ p. TextWritten text p b) measuring w) refl) ∙ sym e)

pub write_text_none : {text : List ℕ} (out : List ℕ) {a b : PenState} → a ≡ measuring_state (length out) → TextWritten text a b → true ≡ b.overflowed
    → (out ≡ buffer_after text out) × (None ≡ length_if_fits text out)
write_text_none out measuring w e = let long = measured_long out measuring w e in (grind (arith, nat_tests), grind (arith, nat_tests))

-- or it was not, so the text fits:
measured_fits : {text : List ℕ} (out : List ℕ) {a b : PenState} → a ≡ measuring_state (length out) → TextWritten text a b → false ≡ b.overflowed → length text ≤ length out
measured_fits {text = text} out {b = b} measuring w e = fits_before (subst (λ p. TextWritten text p b) measuring w) (sym e)

-- and a pen over the buffer wrote it, and has that much room left.
new_writes : {text : List ℕ} (out : List ℕ) {p q : PenState} → p ≡ state_at_front out → TextWritten text p q → length text ≤ length out → (q.out ≡ with_front text out) × (q.room ≡ length out - length text)
new_writes {text = text} out {q = q} new v room =
    let wrote = subst (λ p. TextWritten text p q) new v in
    front_fits wrote (fits wrote refl room)

pub write_text_some : {text : List ℕ} (out : List ℕ) {a b p q : PenState} {left : ℕ} → a ≡ measuring_state (length out) → TextWritten text a b → false ≡ b.overflowed → p ≡ state_at_front out → TextWritten text p q → left ≡ q.room
    → (q.out ≡ buffer_after text out) × (Some (length out - left) ≡ length_if_fits text out)
write_text_some {text = text} out {left = left} measuring w e new v is =
    let room = measured_fits out measuring w e in
    let done = new_writes out new v room in
    let long : length out - left ≡ length text = omega (arith, done.1) in
    (done.0 ∙ grind (arith, nat_tests), ap Some long ∙ grind (arith, nat_tests))

-- the length that `write_text` answers, or an error in place of none
pub length_or_error : {E : Type 0} (e : E) {o : Option ℕ} {r : Result ℕ E} (text out : List ℕ) → r ≡ ok_or o e → o ≡ length_if_fits text out
    → r ≡ cond (nat_le (length text) (length out)) (Ok (length text)) (Err e)
length_or_error {E = E} e text out same is = same ∙ ap (λ o. ok_or o e) is ∙ by (nat_le (length text) (length out))
  where
    by : (b : Bool) → ok_or (cond b (Some (length text)) None) e ≡ cond b (Ok (length text)) (Err e)
    by true = refl
    by false = refl
