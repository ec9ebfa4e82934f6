-- A text that fits, written with a pen over a buffer, and with a measuring one. Assumes nothing.
use Rattle.std.proofs.Common.{◌≡◌, ℕ, ◌+◌, ◌-◌, ◌<◌, ◌≤◌, false, List, ◌++◌, length, take, drop, sym, refl, ap, ◌∙◌, subst, arith}
use borrow.Rule.Slice.PartMut.{put_mid}
use Rattle.std.proofs.lemmas.List.{drop-drop}
use Rattle.std.proofs.lemmas.Bool.{cond-true, cond-false, le-leb, lt-leb, le-ltb}
use Rattle.text.specs.Pens.{PenState, pen_state, TextWritten, with_text_at, out_after, after_put}
use Rattle.text.proofs.Pens.{put_writes}
use Rattle.text.proofs.pen.Pen.put.Goals as goal
use Rattle.text.proofs.pen.Pen.put.Goals.{in-Some, in_default}

module _ (text : List ℕ) (a : PenState) where
  real : (at k : ℕ) → a.room ≤ length a.out → at ≡ length a.out - a.room → k ≡ length text → put_mid at k a.out text ≡ out_after text a
  real at k inside place e =
      ap (λ rest. take at a.out ++ (text ++ rest)) (drop-drop k at a.out ∙ ap (λ n. drop (at + n) a.out) e)
      ∙ ap (λ n. with_text_at text n a.out) place
      ∙ sym (cond-true _ _ _ (le-leb _ _ inside))

  measuring : length a.out < a.room → a.out ≡ out_after text a
  measuring none = sym (cond-false _ _ _ (lt-leb _ _ none))

  -- a pen that is not overflowed, and that had the room
  abbrev spent : List ℕ → PenState
  spent out = record { out = out; room = a.room - length text; overflowed = a.overflowed }

  put_done : (out : List ℕ) → a.overflowed ≡ false → length text ≤ a.room → out ≡ out_after text a → (spent out ≡ after_put text a) × TextWritten text a (spent out)
  put_done out clear fits e =
      let done : spent out ≡ after_put text a = rw (e, clear) (sym (cond-false _ _ _ (le-ltb _ _ fits))) in
      (done, subst (TextWritten text a) (sym done) (put_writes text a))

pub returns : goal.returns
returns c =
    let text = c.args.text.now in
    let pen = pen_state c.args.self.now in
    elim c.match-checked_sub.branch [
      | in-Some w ↦
          let at = w.in-Some.at in
          let long = at + length text - at in
          let place = w.in-Some.ensures in
          let r = put_done text pen (put_mid at long pen.out text) c.if-self.false c.if-text-self.false (real text pen at long place.0 place.1 (omega arith)) in
          simp (w.self-is, w.copy_from_slice.ensures.after) (record { exactly = r.0; wrote = record { wrote = r.1; same = refl } })
      | in_default w ↦
          let outside = w.in_default.ensures in
          let r = put_done text pen _ c.if-self.false c.if-text-self.false (measuring text pen (omega arith)) in
          simp w.self-is (record { exactly = r.0; wrote = record { wrote = r.1; same = refl } })
    ]
