-- From a placement that was taken, those are reached from which a part move leads to it: by one atom after another, and
-- by one landing after another. Assumes nothing.
use Rattle.std.proofs.Common.{◌≡◌, ◌↔◌, ℕ, ◌+◌, ◌-◌, ◌*◌, ◌<◌, ◌≤◌, ◌≢◌, List, [], length, get_or, set, refl, sym, ap, ◌∙◌, subst, ⊎_elim, arith, length-set, below_more}
use Rattle.std.specs.List.{Contains}
use Rattle.std.proofs.lemmas.List.{get_or_default}
use Rattle.std.proofs.lemmas.Bool.{cases_lt}
use Rattle.pictures.specs.Pictures.{Shape}
use Rattle.atoms.specs.Level.{Atoms}
use Rattle.pattern_databases.specs.PartMoves.{Meet, Goes, PartMove, PartMoves}
use Rattle.pattern_databases.specs.PartMoves.PartMoves.{here as arrived, then as and_then}
use Rattle.pattern_databases.specs.Layout.{placement_number}
use Rattle.pattern_databases.specs.inside.Blocks.{ByteFor}
use Rattle.pattern_databases.specs.inside.Filling.{Front, front, entry_in, queued, after_reach, TakesOne, Near, IsGoal, SearchedBlock, TakenLast}
use Rattle.pattern_databases.specs.declared.block.filling.Frontier.{Frontier}
use Rattle.pattern_databases.proofs.Moves.{move_of, back}
use Rattle.pattern_databases.proofs.Bytes.{all_stand, atom_there, moved_there}
use Rattle.pattern_databases.proofs.BreadthFirst.{Spreading, taken_reached, spreads, spread, reached_here, reached_still}
use Rattle.pattern_databases.proofs.Filling.{same_placement, stands_after, reaches_from}

-- where moves lead from a placement to one whose atoms are apart, its own are
moves_apart : (b : Shape) {cells last : List ℕ} {n : ℕ} → PartMoves b cells n last → (Meet last → ⊥) → Meet cells → ⊥
moves_apart b arrived apart = apart
moves_apart b (and_then move moves) apart = move.apart

module _ (l : Atoms) (place : ℕ) (part : List ℕ) where
  abbrev number : List ℕ → ℕ
  number = placement_number l.board

  -- one of the bytes is for the placement that was taken; no two of its atoms meet
  pub record Taken (entries cells : List ℕ) (n : ℕ) : Type 0 where
    pub byte : ByteFor l part entries cells n
    pub apart : Meet cells → ⊥

  abbrev pub Spreads : Front → ℕ → ℕ → ℕ → Type 0
  Spreads = Spreading (Near l part) (IsGoal l place part)

  -- What is reached from a placement by the first atoms, and by the first landings of the next.
  pub record Walked (f : Front) (done n moves : ℕ) (cells : List ℕ) (atom : ℕ) (landings : List ℕ) (count : ℕ)
      : Type 0 where
    pub spreading : Spreads f done n moves
    pub by_atoms : (a to : ℕ) → a < atom → Goes l.board cells a to → entry_in f (number (set cells a to)) ≢ 255
    pub by_landings : (i : ℕ) → i < count → entry_in f (number (set cells atom (get_or landings i 0))) ≢ 255

  -- at first nothing is
  pub walked_none : (f : Front) (done n moves : ℕ) (cells : List ℕ) → Spreads f done n moves
      → Walked f done n moves cells 0 [] 0
  walked_none f done n moves cells s =
      record {
        spreading = s;
        by_atoms = λ a to below. absurd (omega arith);
        by_landings = λ i below. absurd (omega arith);
      }

  -- nor by any landing of the next atom
  pub walked_from : {f : Front} {done n moves : ℕ} {cells : List ℕ} {atom : ℕ} (landings : List ℕ)
      → Walked f done n moves cells atom [] 0 → Walked f done n moves cells atom landings 0
  walked_from landings w =
      record { spreading = w.spreading; by_atoms = w.by_atoms; by_landings = λ i below. absurd (omega arith) }

  -- all landings of an atom
  pub walked_atom : {f : Front} {done n moves : ℕ} {cells : List ℕ} {atom count : ℕ} (landings : List ℕ)
      → count ≡ length landings → ((to : ℕ) → Contains landings to ↔ Goes l.board cells atom to)
      → Walked f done n moves cells atom landings count → Walked f done n moves cells (atom + 1) [] 0
  walked_atom {f} {cells = cells} {atom} landings all exactly w = record {
    spreading = w.spreading;
    by_atoms = λ a to within goes.
        ⊎_elim
        (λ (before : a < atom). w.by_atoms a to before goes)
        (λ (last : atom ≤ a).
        let is : a ≡ atom = omega arith in
        let lands = (exactly to).1 (subst (λ x. Goes l.board cells x to) is goes) in
        let lands_at : get_or landings lands.0 0 ≡ to = get_or_default landings lands.0 0 to lands.1 ∙ lands.2 in
        let same = ap (λ x. entry_in f (number (set cells atom x))) lands_at
        ∙ sym (ap (λ x. entry_in f (number (set cells x to))) is) in
        λ q. w.by_landings lands.0 (omega (arith, lands.1, all)) (same ∙ q))
        (cases_lt a atom);
    by_landings = λ i below. absurd (omega arith);
  }

  -- the placement that was just taken is the first that is not done
  pub taken_last : (old new : Frontier) (n : ℕ)
      → SearchedBlock l place part (front old) (length old.entries.now) old.taken → TakesOne old n new
      → TakenLast l place part new n
  taken_last old new n s takes =
      let before : old.taken ≡ new.taken - 1 = omega (arith, takes.taken) in
      record {
        some = omega (arith, takes.taken);
        searched = subst (λ f. SearchedBlock l place part f (length f.entries) (new.taken - 1)) (sym takes.same)
            (subst (SearchedBlock l place part (front old) (length old.entries.now)) before s);
        more = omega (arith, before, takes.more, ap (λ f. f.reached) takes.same);
        number =
            ap (λ f. queued f (new.taken - 1)) takes.same ∙ ap (queued (front old)) (sym before) ∙ sym takes.number;
      }

  module _ (sized : length l.board.cells ≡ l.board.width * l.board.height) where
    -- the atoms of the placement that was taken are apart, since moves lead from it to a goal entry
    pub taken_known : (f : Front) (done n moves : ℕ) (cells : List ℕ) → Spreads f done n moves
        → ByteFor l part f.entries cells n → Taken f.entries cells n
    taken_known f done n moves cells s byte =
        let known = taken_reached (Near l part) (IsGoal l place part) f done n moves s in
        let steps = (s.searched.told n known.0 known.1).1 in
        let leads = reaches_from l place part sized steps cells byte.stands byte.numbered in
        record { byte = byte; apart = moves_apart l.board leads.moves leads.is_goal.apart }

    module _ {entries cells : List ℕ} {n : ℕ} (taken : Taken entries cells n) where
      -- where an atom goes, a move leads back
      near_by : {atom to : ℕ} → atom < length part → Goes l.board cells atom to
          → Near l part (number (set cells atom to)) n
      near_by {atom} {to} there goes =
          let move = move_of l.board (all_stand taken.byte) taken.apart (atom_there taken.byte atom there) goes in
          record {
            cells = set cells atom to;
            after = cells;
            long = length-set cells atom to ∙ taken.byte.stands.long;
            move = back l.board sized move;
            from_is = refl;
            to_is = taken.byte.numbered;
          }

      -- each placement from which a move leads here is where one atom goes
      record Going (e : ℕ) : Type 0 where
        atom : ℕ
        to : ℕ
        there : atom < length part
        goes : Goes l.board cells atom to
        is : e ≡ number (set cells atom to)

      near_each : (e : ℕ) → Near l part e n → Going e
      near_each e step =
          let here = same_placement l place part sized cells step.after taken.byte.stands
          (stands_after l place part sized step) (taken.byte.numbered ∙ sym step.to_is) in
          let move = subst (λ from. PartMove l.board from step.cells) (sym here) (back l.board sized step.move) in
          record {
            atom = move.atom;
            to = get_or step.cells move.atom 0;
            there = omega (arith, move.there, taken.byte.stands.long);
            goes = move.goes;
            is = sym step.from_is ∙ ap number move.others;
          }

      -- one landing more
      pub walked_more : {f : Front} {done moves atom : ℕ} {landings : List ℕ} {i : ℕ} (e : ℕ)
          → length f.entries ≡ length entries → atom < length part → Goes l.board cells atom (get_or landings i 0)
          → e ≡ number (set cells atom (get_or landings i 0))
          → Walked f done n moves cells atom landings i
          → Walked (after_reach e moves f) done n moves cells atom landings (i + 1)
      walked_more {f} {done} {moves} {atom} {landings} {i} e long there goes is w =
          let inside : e < length f.entries = omega (arith, moved_there taken.byte atom there sized taken.apart goes) in
          let small : moves ≢ 255 = λ q. omega (arith, w.spreading.moves_are) in
          let step = subst (λ x. Near l part x n) (sym is) (near_by there goes) in
          record {
            spreading = spreads (Near l part) (IsGoal l place part) f done n moves w.spreading e step inside;
            by_atoms = λ a to before g. reached_still f e moves inside small _ (w.by_atoms a to before g);
            by_landings = below_more _ _ (λ j before. reached_still f e moves inside small _ (w.by_landings j before))
                (subst (λ x. entry_in (after_reach e moves f) x ≢ 255) is (reached_here f e moves inside small));
          }

      -- all atoms
      pub walked_all : {f : Front} {done moves atom : ℕ} → length f.entries ≡ length entries → atom ≡ length part
          → Walked f done n moves cells atom [] 0 → SearchedBlock l place part f (length f.entries) (done + 1)
      walked_all {f} {done} {moves} long all w =
          spread (Near l part) (IsGoal l place part) f done n moves w.spreading
          (λ e step.
          let g = near_each e step in (
            omega (arith, moved_there taken.byte g.atom g.there sized taken.apart g.goes, g.is, long),
            λ q. w.by_atoms g.atom g.to (omega (arith, g.there, all)) g.goes (ap (entry_in f) (sym g.is) ∙ q),
          ))
