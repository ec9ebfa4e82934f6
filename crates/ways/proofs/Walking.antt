-- One move of a walk over a level, and where the walk is after it. Assumes nothing.
use Rattle.std.proofs.Common.{◌≡◌, ℕ, ◌<◌, Bool, true, false, cond, ltb, Some, None, Ok, Err, Option, Result, sym, refl, ap, ◌∙◌, subst}
use Rattle.std.specs.Coded.{Coded, Coded-set, coded_bool, ×_prop}
use mathlib.Core.Sum.{⊎_set}
use Rattle.std.proofs.lemmas.Bool.{cond-true, lt-ltb}
use Rattle.refusals.specs.declared.Fault.{Fault}
use Rattle.refusals.specs.declared.Fault.TheVariants.{AfterFinish}
use Rattle.refusals.specs.declared.Refusal.{Refusal}
use Rattle.refusals.specs.Refusals.{refusal}
use Rattle.puzzle.specs.Game.{Game, Reached, Played}
use Rattle.puzzle.proofs.Reaching.{reached_more}
use Rattle.ways.specs.declared.notation.IllegalMove.{IllegalMove}
use Rattle.ways.specs.Notations.{fault_of, Spelling, FollowsTo, Lawful}
use Rattle.ways.specs.Judging.{position_after}
use Rattle.ways.specs.Writing.{destination}
use Rattle.ways.specs.inside.Walking.{move_judgement, MovesTo, FollowsLine}

-- what a move does holds in one way alone, so that it does not matter how the position before it was reached
module _ {P : Type 0} (positions : Coded P) where
  pub Played-prop : (o : Option P) (answer : Bool) (old new : P) → IsProp (Played o answer old new)
  Played-prop (Some q) answer old new = ×_prop (Coded-set coded_bool _ _) (Coded-set positions _ _)
  Played-prop None answer old new = ×_prop (Coded-set coded_bool _ _) (Coded-set positions _ _)

  pub FollowsTo-prop : (o : Result P IllegalMove) (answer : Result (Unit {0}) IllegalMove) (old new : P) → IsProp (FollowsTo o answer old new)
  FollowsTo-prop (Ok q) answer old new = hlevel (⊎_set, Coded-set positions)
  FollowsTo-prop (Err e) answer old new = hlevel (⊎_set, Coded-set positions)

-- a number that is below the count leads where its move leads
pub destination_below : {P : Type 0} (g : Game P) (p : P) (m : ℕ) → m < g.count → destination g p m ≡ g.move p m
destination_below g p m h = cond-true (ltb m g.count) _ _ (lt-ltb _ _ h)

-- after a move was played, the walk is at a position that can be reached
pub play_reaches : {P : Type 0} (g : Game P) (p q : P) (m : ℕ) (answer : Bool) → m < g.count → Reached g p → Played (g.move p m) answer p q → Reached g q
play_reaches {P} g p q m answer below reached plays = by (g.move p m) refl plays
  where
    by : (o : Option P) → g.move p m ≡ o → Played o answer p q → Reached g q
    by (Some r) leads h = reached_more g p q m reached below (leads ∙ ap Some (sym h.1))
    by None closed h = subst (Reached g) (sym h.1) reached

module _ {P W : Type 0} (g : Game P) (k : Spelling P W) where
  -- and so it is after a written move was followed
  pub follow_reaches : Lawful g k → (p q : P) (w : W) (answer : Result (Unit {0}) IllegalMove) → Reached g p → FollowsTo (k.outcome p w) answer p q → Reached g q
  follow_reaches lawful p q w answer reached follows = by (k.outcome p w) refl follows
    where
      by : (o : Result P IllegalMove) → k.outcome p w ≡ o → FollowsTo o answer p q → Reached g q
      by (Ok r) is h = let m = lawful.legal p q w (is ∙ ap Ok (sym h.1)) in reached_more g p q m.number reached m.below m.leads
      by (Err e) is h = subst (Reached g) (sym h.1) reached

  -- what is answered of a move that is written on line n, by what following it answered
  module _ (p q : P) (n : ℕ) (w : W) (answer : Result (Unit {0}) IllegalMove) (follows : FollowsTo (k.outcome p w) answer p q) where
    abbrev after : Result P IllegalMove → Bool → Result P Refusal
    after o finished = elim o [ Ok r ↦ cond finished (Err (refusal AfterFinish n)) (Ok r) | Err e ↦ Err (refusal (fault_of e) n) ]

    pub follow_refused : (f : Fault) → move_judgement answer (g.finished p) ≡ Err f → FollowsLine g k n w (Err (refusal f n)) p p
    follow_refused f is = by (k.outcome p w) answer (g.finished p) follows is
      where
        by : (o : Result P IllegalMove) (a : Result (Unit {0}) IllegalMove) (b : Bool) → FollowsTo o a p q → move_judgement a b ≡ Err f → MovesTo (after o b) (Err (refusal f n)) p p
        by (Ok r) (Ok u) true h is = let same : AfterFinish ≡ f = cc in (ap (λ x. Err (refusal x n)) (sym same), refl)
        by (Ok r) (Ok u) false h is = absurd (cc)
        by (Ok r) (Err e) b h is = let never = h.0 in absurd (cc)
        by (Err x) (Ok u) b h is = let never = h.0 in absurd (cc)
        by (Err x) (Err e) b h is =
            let first : e ≡ x = let answered = h.0 in cc in
            let same : fault_of e ≡ f = cc in
            (ap (λ y. Err (refusal y n)) (sym same ∙ ap fault_of first), refl)

    pub follow_allowed : (u : Unit {0}) → move_judgement answer (g.finished p) ≡ Ok u → FollowsLine g k n w (Ok tt) p q
    follow_allowed u is = by (k.outcome p w) answer (g.finished p) follows is
      where
        by : (o : Result P IllegalMove) (a : Result (Unit {0}) IllegalMove) (b : Bool) → FollowsTo o a p q → move_judgement a b ≡ Ok u → MovesTo (after o b) (Ok tt) p q
        by (Ok r) (Ok v) true h is = absurd (cc)
        by (Ok r) (Ok v) false h is = (refl, h.1)
        by (Ok r) (Err e) b h is = absurd (cc)
        by (Err x) (Ok v) b h is = let never = h.0 in absurd (cc)
        by (Err x) (Err e) b h is = absurd (cc)

  -- a move after which there is a position
  pub record Allowed (p : P) (w : W) (q : P) : Type 0 where
    pub outcome : k.outcome p w ≡ Ok q
    pub unfinished : g.finished p ≡ false

  pub move_allowed : (p : P) (n : ℕ) (w : W) (q : P) → position_after g k p n w ≡ Ok q → Allowed p w q
  move_allowed p n w q is = by (k.outcome p w) (g.finished p) refl refl is
    where
      by : (o : Result P IllegalMove) (b : Bool) → k.outcome p w ≡ o → g.finished p ≡ b → ◌≡◌ {A = Result P Refusal} (elim o [ Ok r ↦ cond b (Err (refusal AfterFinish n)) (Ok r) | Err e ↦ Err (refusal (fault_of e) n) ]) (Ok q) → Allowed p w q
      by (Ok r) true o f is = absurd (cc)
      by (Ok r) false o f is = let same : r ≡ q = cc in record { outcome = o ∙ ap Ok same; unfinished = f }
      by (Err e) b o f is = absurd (cc)
