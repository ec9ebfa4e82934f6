use Rattle.std.proofs.Common.{◌≡◌, ℕ, List, sym, subst}
use Rattle.std.proofs.lemmas.Bool.{eqb-true}
use Rattle.pattern_databases.specs.inside.Walking.{WalksExactly}
use Rattle.pattern_databases.proofs.Walking.{mark_one, mark_after, mark_none}
use Rattle.pattern_databases.proofs.neighbours.Neighbours.+walk.Goals as goal

-- one walks to the same cells where the same ones are marked
on_same : (w h from : ℕ) (ls m n : List ℕ) → m ≡ n → WalksExactly w h m from ls → WalksExactly w h n from ls
on_same w h from ls m n same = subst (λ map. WalksExactly w h map from ls) same

pub returns-in-Some-clause-exactly : goal.returns-in-Some-clause-exactly
returns-in-Some-clause-exactly t c =
    on_same _ _ _ _ _ _
    (mark_one _ _ _ _ c.args.after.now _ c.in-Some.ensures.cases.0 c.new-guard.ensures.marked)
    c.walk.ensures.exactly

pub returns-in-None-clause-exactly : goal.returns-in-None-clause-exactly
returns-in-None-clause-exactly t c =
    on_same _ _ _ _ _ _
    (mark_none _ c.args.before.now c.args.after.now c.in-None.ensures.cases (eqb-true _ _ (sym c.if-is_empty.ensures)))
    c.walk_free.ensures

pub returns-in-None-2-clause-exactly : goal.returns-in-None-2-clause-exactly
returns-in-None-2-clause-exactly t c =
    on_same _ _ _ _ _ _ (mark_after _ c.args.before.now _ c.in-None-2.ensures.cases) c.walk-in-None-2.ensures.exactly
