-- The tiles that were read make a level exactly where each number comes once. Assumes nothing.
use Rattle.std.proofs.Common.{◌≡◌, ℕ, zero, suc, ◌+◌, ◌*◌, ◌^◌, ◌<◌, ◌≤◌, Bool, true, false, cond, eqb, ltb, List, [], ◌∷◌, length, Some, None, Ok, Err, Option, Decides, MatchOption, count_by, sym, refl, ap, ◌∙◌, subst, ⊎_elim, arith}
use Rattle.std.specs.List.{All}
use Rattle.std.proofs.lemmas.List.Elements.{All-nil, All-cons}
use Rattle.std.proofs.lemmas.List.Sums.{sum_by-cons, count_by-le-length}
use Rattle.std.proofs.lemmas.Bool.{cond-true, cond-false, cases_Bool, ltb-true}
use Rattle.std.proofs.lemmas.Bool.Decides.{Decides-below_and, Decides-eqb, nat_tests}
use Rattle.std.specs.Option.{ok_or}
use Rattle.refusals.specs.declared.Fault.TheVariants.{TileNumbers}
use Rattle.text.specs.Reading.{map_ok}
use Rattle.tiles.specs.Board.{first_cells, Numbered}
use Rattle.tiles.specs.declared.level.TileLevel.{TileLevel}
use Rattle.tiles.specs.Level.{Tiles, tiles_of, tiles, Valid}
use Rattle.tiles.proofs.Board.{length_first_cells, position_of_first_cells}
use Rattle.tiles.specs.declared.level_text.reader.Reader.TheVariants.{End}
use Rattle.tiles.specs.declared.level_text.rows.Board.{Board}
use Rattle.tiles.specs.LevelText.Reading.{each_once, level_at_end}
use Rattle.tiles.specs.LevelText.Reader.{all_tiles, view}

pub once_decides : (ts : List ℕ) (n : ℕ) → Decides (each_once n ts) ((k : ℕ) → k < n → count_by (eqb k) ts ≡ 1)
once_decides ts n =
    Decides-below_and (λ k. eqb (count_by (eqb k) ts) 1) (λ k. count_by (eqb k) ts ≡ 1) (λ m. each_once m ts) (λ k. Decides-eqb _ 1) refl (λ _. refl) n

pub valid_decides : (w h p : ℕ) → (2 ≤ w) × (w ≤ 4) → (2 ≤ h) × (h ≤ 4) → p < 16 ^ (w * h) → Decides (each_once (w * h) (first_cells (w * h) p)) (Valid (tiles_of w h p))
valid_decides w h p wide high below =
    let once = once_decides (first_cells (w * h) p) (w * h) in (
      (λ e. record { wide = wide; high = high; numbered = (once.0 e, below) }),
      λ v. once.1 v.numbered.0,
    )

-- Where each number below n comes once among n tiles, no others are there: those below n are as many as all.
count_cons : (p : ℕ → Bool) (t : ℕ) (ts : List ℕ) → count_by p (t ∷ ts) ≡ cond (p t) 1 0 + count_by p ts
count_cons p t ts = sum_by-cons (λ x. cond (p x) 1 0) t ts

count_none : (ts : List ℕ) → count_by (λ t. ltb t 0) ts ≡ 0
count_none [] = refl
count_none (t ∷ ts) = count_cons (λ t. ltb t 0) t ts ∙ by (count_by (λ t. ltb t 0) ts) (count_none ts)
  where
    by : (k : ℕ) → k ≡ 0 → cond (ltb t 0) 1 0 + k ≡ 0
    by k none = grind (arith, nat_tests)

count_split : (n : ℕ) (ts : List ℕ) → count_by (λ t. ltb t (suc n)) ts ≡ count_by (λ t. ltb t n) ts + count_by (eqb n) ts
count_split n [] = omega arith
count_split n (t ∷ ts) =
    count_cons (λ t. ltb t (suc n)) t ts
    ∙ by (count_by (λ t. ltb t (suc n)) ts) (count_by (λ t. ltb t n) ts) (count_by (eqb n) ts) (count_split n ts)
    ∙ ap (λ k. k + (cond (eqb n t) 1 0 + count_by (eqb n) ts)) (sym (count_cons (λ t. ltb t n) t ts))
    ∙ ap (λ k. count_by (λ t. ltb t n) (t ∷ ts) + k) (sym (count_cons (eqb n) t ts))
  where
    by : (a b c : ℕ) → a ≡ b + c → cond (ltb t (suc n)) 1 0 + a ≡ (cond (ltb t n) 1 0 + b) + (cond (eqb n t) 1 0 + c)
    by a b c e = grind (arith, nat_tests)

count_below : (ts : List ℕ) (n : ℕ) → ((k : ℕ) → k < n → count_by (eqb k) ts ≡ 1) → count_by (λ t. ltb t n) ts ≡ n
count_below ts zero once = count_none ts
count_below ts (suc n) once =
    omega (arith, count_split n ts, count_below ts n (λ k h. once k (omega arith)), once n (omega arith))

all_counted : (n : ℕ) (ts : List ℕ) → count_by (λ t. ltb t n) ts ≡ length ts → All (λ t. t < n) ts
all_counted n [] e = All-nil (λ t. t < n)
all_counted n (t ∷ ts) e =
    by (ltb t n) (ltb-true t n) (count_by (λ t. ltb t n) ts) (sym (count_cons (λ t. ltb t n) t ts) ∙ e) (count_by-le-length (λ t. ltb t n) ts) (all_counted n ts)
  where
    by : (b : Bool) → (b ≡ true → t < n) → (k : ℕ) → cond b 1 0 + k ≡ suc (length ts) → k ≤ length ts → (k ≡ length ts → All (λ t. t < n) ts) → All (λ t. t < n) (t ∷ ts)
    by true small k e most more = All-cons (λ t. t < n) t ts (small refl) (more (omega arith))
    by false small k e most more = absurd (omega arith)

pub all_below : (n p : ℕ) → Numbered n p → All (λ t. t < n) (first_cells n p)
all_below n p numbered =
    all_counted n (first_cells n p) (count_below (first_cells n p) n numbered.0 ∙ sym (length_first_cells n p))

-- a board that was read
module _ (b : Board) where
  abbrev w : ℕ
  w = b.grid.width

  abbrev h : ℕ
  h = b.grid.height

  decides : Decides (each_once (w * h) (all_tiles b)) (Valid (tiles_of w h b.cells))
  decides = valid_decides w h b.cells b.wide b.high b.below

  level_valid : (t : Tiles) → t ≡ tiles_of w h b.cells → Valid t → Some (Ok t) ≡ level_at_end (view (End b))
  level_valid t same valid =
      ap (λ l. Some (Ok l)) same
      ∙ ap (λ p. Some (Ok (tiles_of w h p))) (sym (position_of_first_cells (w * h) b.cells b.below))
      ∙ ap Some (sym (cond-true (each_once (w * h) (all_tiles b)) _ _ (decides.1 (subst Valid same valid))))

  level_not : (Valid (tiles_of w h b.cells) → ⊥) → Some (Err TileNumbers) ≡ level_at_end (view (End b))
  level_not bad =
      ap Some (sym (cond-false (each_once (w * h) (all_tiles b)) _ _ (⊎_elim (λ e. absurd (bad (decides.0 e))) (λ e. e) (cases_Bool _))))

  -- what `TileLevel::new` made of it, or that it made none
  pub level_judged : (o : Option TileLevel) → MatchOption o (Valid (tiles_of w h b.cells) → ⊥) (λ l. (tiles l ≡ tiles_of w h b.cells) × Valid (tiles l)) → Some (map_ok tiles (ok_or o TileNumbers)) ≡ level_at_end (view (End b))
  level_judged (Some l) made = level_valid (tiles l) made.0 made.1
  level_judged None bad = level_not bad
