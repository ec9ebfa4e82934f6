-- `try_fold` with an `Option`, where each call computes a function of the total and the item. Assumes nothing.
use Rattle.std.proofs.Common.{◌≡◌, List, [], ◌∷◌, Some, None, Option, ControlFlow, sym, ap, ◌∙◌, subst}
use Rattle.std.specs.ControlFlow.{continue_value}
use Rattle.std.specs.Fn.{Called}
use Rattle.std.specs.Iterator.{AlwaysYields, TryFoldsItems}
use Rattle.std.proofs.lemmas.Iterator.{YieldsList}
use denote.Param.Members.{Mut}

module _ {B X : Type 0} (next : B → X → Option B) where
  -- the total after these items, or none where one was refused
  abbrev pub total : B → List X → Option B
  total a [] = Some a
  total a (y ∷ ys) = elim (next a y) [ Some b ↦ total b ys | None ↦ None ]

  abbrev on : List X → Option B → Option B
  on ys o = elim o [ Some b ↦ total b ys | None ↦ None ]

  module _ {S A F : Type 0} (E : Type 0) (steps : S → Option A → S → Type 0) (view : A → X) (g : Mut F (B × (A × Unit {0})) (Option B)) where
    abbrev Tries : S → F → B → Option B → S → Type 0
    Tries = TryFoldsItems steps g (λ o (c : ControlFlow E B). o ≡ continue_value c) (λ e o. o ≡ None)

    abbrev Computes : Type 0
    Computes = (f : F) (a : B) (x : A) (o : Option B) (f' : F) → Called g f (a, (x, tt)) o f' → o ≡ next a (view x)

    tried : Computes → (ys : List X) (s : S) → AlwaysYields steps view s ys → (f : F) (a : B) (r : Option B) (u : S) → Tries s f a r u → r ≡ total a ys
    tried calls [] s yields f a r u ([], None, f', b, last, turned, done) = done ∙ ap (λ p. Some (p.1)) (sym turned)
    tried calls [] s yields f a r u ([], Some x, f', b, (t, same, last), turned, done) =
        absurd (yields x u (subst (λ z. steps z (Some x) u) (sym same) last))
    tried calls [] s yields f a r u (x ∷ xs, o, f', b, (t, (j, step, more), last), turned, done) = absurd (yields x j step)
    tried calls (y ∷ ys) s yields f a r u ([], None, f', b, (t, same, last), turned, done) =
        absurd (yields.0 u (subst (λ z. steps z None u) (sym same) last))
    tried calls (y ∷ ys) s yields f a r u ([], Some x, f', b, (t, same, last), turned, (o, f'', e, called, broke, resumed)) =
        let first = yields.1 x u (subst (λ z. steps z (Some x) u) (sym same) last) in
        resumed ∙ ap (on ys) (sym broke ∙ calls f' b x o f'' called ∙ ap (λ p. next p.1 (view x)) (sym turned) ∙ ap (next a) first.0)
    tried calls (y ∷ ys) s yields f a r u (x ∷ xs, o, f', b, (t, (j, step, more), last), (p, (w, called, onward), turned), done) =
        let first = yields.1 x j step in
        tried calls ys j first.1 p.0 p.1 r u (xs, o, f', b, (t, more, last), turned, done)
        ∙ ap (on ys) (sym onward ∙ calls f a x w p.0 called ∙ ap (next a) first.0)

    pub total_from_try_fold : {ys : List X} {s : S} (f : F) (a : B) (r : Option B) (u : S) → Tries s f a r u → YieldsList steps view s ys → Computes → r ≡ total a ys
    total_from_try_fold {ys} {s} f a r u ran yields calls = tried calls ys s yields.runs f a r u ran
