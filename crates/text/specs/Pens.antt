-- What a pen writes, and what a lent buffer holds then. Assumes nothing.
use Rattle.std.specs.Prelude.{◌≡◌, ℕ, ◌+◌, ◌-◌, ◌≤◌, Bool, true, false, cond, ◌||◌, List, [], ◌++◌, length, take, drop, Some, None, Ok, Err, Option, Result, nat_le, nat_lt}
use Rattle.refusals.specs.declared.Refusal.{Refusal}
use Rattle.refusals.specs.Refusals.{refused}
use Rattle.text.specs.declared.pen.Pen.{Pen}

-- a pen as a value: its buffer, the room that is left at the buffer's end, and whether a text did not fit
pub record PenState : Type 0 where
  pub out : List ℕ
  pub room : ℕ
  pub overflowed : Bool

abbrev pub pen_state : Pen → PenState
pen_state p = record { out = p.out.now; room = p.room; overflowed = p.overflowed }

-- a pen at the front of a buffer
abbrev pub state_at_front : List ℕ → PenState
state_at_front out = record { out = out; room = length out; overflowed = false }

-- a measuring pen, which has room and no buffer
abbrev pub measuring_state : ℕ → PenState
measuring_state room = record { out = []; room = room; overflowed = false }

-- the buffer with the text at a place
abbrev pub with_text_at : List ℕ → ℕ → List ℕ → List ℕ
with_text_at text at out = take at out ++ (text ++ drop (at + length text) out)

-- the buffer with the text at the pen's place; a measuring pen has more room than buffer, and nowhere to write
abbrev pub out_after : List ℕ → PenState → List ℕ
out_after text p = cond (nat_le p.room (length p.out)) (with_text_at text (length p.out - p.room) p.out) p.out

-- A pen after one text was put. If the text does not fit, or the pen had overflowed before, nothing changes but the
-- mark.
abbrev pub after_put : List ℕ → PenState → PenState
after_put text p =
    cond (p.overflowed || nat_lt p.room (length text)) (record { out = p.out; room = p.room; overflowed = true })
    (record { out = out_after text p; room = p.room - length text; overflowed = false })

-- how many bytes were written from a to b
abbrev pub written : PenState → PenState → ℕ
written a b = a.room - b.room

-- From a to b the text was written, in one piece or in several. A pen overflows once a piece does not fit, and stays
-- so. What stands at the pen's place then is a front of the text: all of it, unless the pen has overflowed. How long a
-- front an overflowed pen wrote is free, since a text may come in any pieces.
pub record TextWritten (text : List ℕ) (a b : PenState) : Type 0 where
  pub overflow : b.overflowed ≡ (a.overflowed || nat_lt a.room (length text))
  pub room_left : b.overflowed ≡ false → b.room ≡ a.room - length text
  pub less_room : b.room ≤ a.room
  pub no_longer : written a b ≤ length text
  -- a pen over a buffer changes nothing else in it, and a measuring pen has none
  pub text_there : a.room ≤ length a.out → b.out ≡ with_text_at (take (written a b) text) (length a.out - a.room) a.out
  pub same_length : length b.out ≡ length a.out
  -- nothing is written once the pen has overflowed
  pub silent : a.overflowed ≡ true → b ≡ a

-- A pen wrote the text, and its buffer is still the one that it was lent.
pub record Writes (text : List ℕ) (old new : Pen) : Type 0 where
  pub wrote : TextWritten text (pen_state old) (pen_state new)
  pub same : new.out.ghost_name ≡ old.out.ghost_name

-- the buffer with the text at its front
abbrev pub with_front : List ℕ → List ℕ → List ℕ
with_front text out = text ++ drop (length text) out

-- the buffer after the text was written at its front, where it fits
abbrev pub buffer_after : List ℕ → List ℕ → List ℕ
buffer_after text out = cond (nat_le (length text) (length out)) (with_front text out) out

-- the length of the text, where it fits
abbrev pub length_if_fits : List ℕ → List ℕ → Option ℕ
length_if_fits text out = cond (nat_le (length text) (length out)) (Some (length text)) None

-- the length of the text, or that there is no room for it
abbrev pub length_or_no_room : List ℕ → List ℕ → Result ℕ Refusal
length_or_no_room text out = cond (nat_le (length text) (length out)) (Ok (length text)) (Err (refused 21 0))
