use Rattle.std.proofs.Common.{◌≡◌, ℕ, List, drop, get_or, Some, Option, sym, ap, ◌∙◌, arith}
use Rattle.text.specs.declared.pieces.Token.{Token}
use Rattle.text.specs.Pieces.{TokenValue, token_value}
use Rattle.text.proofs.Scanning.{at_end, at_open, at_close, at_blank, at_run}
use Rattle.text.proofs.line.Line.piece.Goals as goal
use Rattle.text.proofs.line.Line.piece.Goals.{In_ok-byte, in-40, in-41, in_default}

abbrev says : List ℕ → Token × ℕ → Option (TokenValue × List ℕ)
says t p = Some (token_value p.0, drop p.1 t)

-- the byte there
byte : (c : In_ok-byte) → c.in_ok-byte.field-0.now ≡ get_or c.args.self.text.now c.args.self.at 0
byte c = c.in_ok-byte.ensures.lookup.3.1 0

pub returns-in_err-byte-clause-says : goal.returns-in_err-byte-clause-says
returns-in_err-byte-clause-says c = rw c.from_residual.ensures (at_end c.args.self.text.now c.args.self.at c.in_err-byte.ensures.lookup.3)

pub returns-in-32-clause-says : goal.returns-in-32-clause-says
returns-in-32-clause-says c =
    at_blank c.args.self.text.now c.args.self.at c.in_ok-byte.ensures.lookup.3.0 (sym (byte (goal.at.returns-in-32-clause-says c).In_ok-byte) ∙ c.in-32.is)

pub returns-clause-says : goal.returns-clause-says
returns-clause-says c =
    let t = c.args.self.text.now in
    let at = c.args.self.at in
    let inside = c.in_ok-byte.ensures.lookup.3.0 in
    let here = byte (goal.at.returns-clause-says c).In_ok-byte in
    elim c.match-byte.branch [
      | in-40 w ↦ ap (says t) w.end-is ∙ at_open t at inside (sym here ∙ w.in-40.is)
      | in-41 w ↦ ap (says t) w.end-is ∙ at_close t at inside (sym here ∙ w.in-41.is)
      | in_default w ↦
          ap (says t) w.end-is ∙ ap (λ s. Some (s, drop w.run_end-end.result t)) w.token_of.ensures
          ∙ at_run t at w.run_end-end.result inside (λ e. omega arith) (λ e. omega arith) (λ e. omega arith) w.run_end-end.ensures.ends
    ]
