-- The lines that a reader takes: those of a level where they are due, and no others. Assumes nothing.
use Rattle.std.proofs.Common.{◌≡◌, ℕ, suc, ◌-◌, ◌<◌, ◌≤◌, Bool, true, false, cond, ◌&&◌, eqb, ltb, leb, ◌⊎◌, List, [], ◌∷◌, map, length, Some, None, Ok, Err, codes, Option, Result, refl, ap, ◌∙◌, inl, inr, arith}
use Rattle.std.specs.List.{All}
use Rattle.std.proofs.lemmas.List.Elements.{All-nil, All-cons}
use Rattle.std.proofs.lemmas.List.{length-map}
use Rattle.std.proofs.lemmas.Bool.{cond-true, cond-false, leb-true, lt-ltb, ne_eqb}
use Rattle.std.proofs.lemmas.Bool.Decides.{nat_tests}
use Rattle.std.specs.Option.{option_map, ok_or}
use Rattle.refusals.specs.declared.Fault.{Fault}
use Rattle.refusals.specs.declared.Fault.TheVariants.{LineForm, BoardSize, BadRow, BadWant}
use Rattle.text.proofs.Cases.{never, clash}
use Rattle.text.proofs.Texts.{leading_all}
use Rattle.text.specs.Forms.{◌then◌, inside, closing, content_line, Content}
use Rattle.text.specs.Reading.{map_ok}
use Rattle.text.proofs.FormWords.{first_step}
use Rattle.pictures.specs.declared.cell.Cell.{Cell}
use Rattle.pictures.specs.Cells.{symbol_of, lettered, Lettered}
use Rattle.pictures.specs.Pictures.{Shape, shape_of, blank_shape, with_row}
use Rattle.pictures.proofs.Drawn.{symbol_no_bracket}
use Rattle.molecules.specs.Atoms.{Unwalled, with_want}
use Rattle.atoms.specs.LevelText.Writing.{drawn_line}
use Rattle.atoms.specs.LevelText.Reading.{Form, size, row, want, close, form_of, Expect, head, rows, first, wants, nothing, side, after_row, first_want, after_form, grammar}
use Rattle.atoms.proofs.LevelText.Forms.{head_line, form_head, form_row, form_want, Spells, spells}
use Rattle.atoms.proofs.LevelText.Rows.{with_drawn_row, Adds, row_adds, want_adds, row_taken, want_taken, Open}

-- what holds of the characters of lettered cells
pub each_symbol : (P : ℕ → Type 0) → ((x : Cell) → lettered x ≡ true → P (symbol_of x)) → (xs : List Cell) → Lettered xs → All P (map symbol_of xs)
each_symbol P each [] letters = All-nil P
each_symbol P each (x ∷ xs) letters = All-cons P (symbol_of x) (map symbol_of xs) (each x (letters 0)) (each_symbol P each xs (λ i. letters (suc i)))

-- they are no brackets
symbol_inside : (x : Cell) → lettered x ≡ true → inside (symbol_of x) ≡ true
symbol_inside x letter = let bracket = symbol_no_bracket x letter in by (symbol_of x) bracket.0 bracket.1
  where
    by : (b : ℕ) → (b ≡ 40 → ⊥) → (b ≡ 41 → ⊥) → inside b ≡ true
    by b opens closes = grind (arith, nat_tests)

symbols_content : (xs : List Cell) → 0 < length xs → Lettered xs → Content (map symbol_of xs)
symbols_content xs some letters = (
  omega (arith, length-map xs symbol_of),
  leading_all inside (map symbol_of xs) (each_symbol (λ b. inside b ≡ true) symbol_inside xs letters),
)

-- a side of a board
abbrev pub Side : ℕ → Type 0
Side n = (1 ≤ n) × (n ≤ 16)

sides : (w h : ℕ) → side w && side h ≡ true → Side w × Side h
sides w h e = ((grind (arith, nat_tests), grind (arith, nat_tests)), (grind (arith, nat_tests), grind (arith, nat_tests)))

are_sides : (w h : ℕ) → Side w → Side h → side w && side h ≡ true
are_sides w h wide high = grind (arith, nat_tests)

-- a picture with no row yet is as wide as such a side
blank_only : (w : ℕ) (m : Shape) → blank_shape w ≡ Some m → Side w × (shape_of w 0 [] ≡ m)
blank_only w m e = by (leb 1 w) (leb w 16) refl refl e
  where
    by : (p q : Bool) → leb 1 w ≡ p → leb w 16 ≡ q → cond {A = Option Shape} (p && q) (Some (shape_of w 0 [])) None ≡ Some m → Side w × (shape_of w 0 [] ≡ m)
    by true true p q e = let same : shape_of w 0 [] ≡ m = cc in ((leb-true 1 w p, leb-true w 16 q), same)
    by true false p q e = absurd (never _ e)
    by false q p r e = absurd (never _ e)

blank_all : (w : ℕ) → Side w → blank_shape w ≡ Some (shape_of w 0 [])
blank_all w side = grind (arith, nat_tests)

-- what is expected where so many rows of the board are to come
abbrev pub on_board : ℕ → Shape → Expect
on_board k b = cond (eqb k 0) (first b) (rows b (k - 1))

pub rows_left : (k : ℕ) (b : Shape) → on_board (suc k) b ≡ rows b k
rows_left k b =
    let less : suc k - 1 ≡ k = omega arith in
    cond-false (eqb (suc k) 0) _ _ (ne_eqb _ 0 (λ e. omega arith)) ∙ ap (rows b) less

-- Each line of a level is taken where it is due.
pub takes_head : (w h : ℕ) → Side w → Side h → grammar.after head (head_line w h) ≡ Ok (rows (shape_of w 0 []) (h - 1))
takes_head w h wide high =
    ap (after_form head) (form_head w h (omega arith) (omega arith)) ∙ cond-true (side w && side h) _ _ (are_sides w h wide high)

pub takes_row : (k : ℕ) (b : Shape) (xs : List Cell) → 0 < b.width → length xs ≡ b.width → b.height < 16 → Lettered xs → grammar.after (on_board (suc k) b) (drawn_line (codes "row") xs) ≡ Ok (on_board k (with_drawn_row b xs))
takes_row k b xs some wide room letters =
    ap (λ e. grammar.after e (drawn_line (codes "row") xs)) (rows_left k b)
    ∙ ap (after_form (rows b k)) (form_row (map symbol_of xs) (symbols_content xs (omega arith) letters))
    ∙ ap (λ o. ok_or (option_map (after_row k) o) BadRow) (row_taken b xs wide room letters)

pub takes_want : (b m : Shape) (xs : List Cell) → 0 < m.width → length xs ≡ m.width → m.height < 16 → Lettered xs → Open xs → grammar.after (wants b m) (drawn_line (codes "want") xs) ≡ Ok (wants b (with_drawn_row m xs))
takes_want b m xs some wide room letters free =
    ap (after_form (wants b m)) (form_want (map symbol_of xs) (symbols_content xs (omega arith) letters))
    ∙ ap (map_ok (wants b)) (cond-true (ltb m.height 16) _ _ (lt-ltb _ _ room))
    ∙ ap (λ o. map_ok (wants b) (ok_or o BadWant)) (want_taken m xs wide room letters free)

-- the first row of a molecule, as one more of a molecule with none
pub takes_first : (b : Shape) (w : ℕ) (xs : List Cell) → Side w → length xs ≡ w → Lettered xs → Open xs → grammar.after (first b) (drawn_line (codes "want") xs) ≡ Ok (wants b (with_drawn_row (shape_of w 0 []) xs))
takes_first b w xs side wide letters free =
    let x = map symbol_of xs in
    let some = side.0 in
    ap (after_form (first b)) (form_want x (symbols_content xs (omega arith) letters))
    ∙ ap (λ k. ok_or (option_map (wants b) (blank_shape k then (λ m. with_want m x))) BadWant) (length-map xs symbol_of ∙ wide)
    ∙ ap (λ o. ok_or (option_map (wants b) (o then (λ m. with_want m x))) BadWant) (blank_all w side)
    ∙ ap (λ o. ok_or (option_map (wants b) o) BadWant) (want_taken (shape_of w 0 []) xs wide (omega arith) letters free)

pub takes_close : (b m : Shape) → grammar.after (wants b m) closing ≡ Ok (nothing b m)
takes_close b m = refl

-- No other line is taken there.
module _ (l : List ℕ) (f : Expect) where
  pub record HeadTaken : Type 0 where
    pub w : ℕ
    pub h : ℕ
    pub wide : Side w
    pub high : Side h
    pub line : l ≡ head_line w h
    pub is : f ≡ rows (shape_of w 0 []) (h - 1)

  pub head_taken : grammar.after head l ≡ Ok f → HeadTaken
  head_taken e = by (form_of l) (spells l) e
    where
      fits : (w h : ℕ) (b : Bool) → side w && side h ≡ b → l ≡ head_line w h → ◌≡◌ {A = Result Expect Fault} (cond b (Ok (rows (shape_of w 0 []) (h - 1))) (Err BoardSize)) (Ok f) → HeadTaken
      fits w h true s p q =
          let same : f ≡ rows (shape_of w 0 []) (h - 1) = cc in
          let both = sides w h s in
          record { w = w; h = h; wide = both.0; high = both.1; line = p; is = same }
      fits w h false s p q = absurd (clash _ _ q)

      by : (x : Option Form) → Spells l x → after_form head x ≡ Ok f → HeadTaken
      by (Some (size w h)) p q = fits w h (side w && side h) refl p q
      by (Some (row x)) p q = absurd (clash _ _ q)
      by (Some (want x)) p q = absurd (clash _ _ q)
      by (Some close) p q = absurd (clash _ _ q)
      by None p q = absurd (clash _ _ q)

  pub board_row_taken : (b : Shape) (more : ℕ) → grammar.after (rows b more) l ≡ Ok f → (t : Shape) × Adds (codes "row") b l t × (f ≡ on_board more t)
  board_row_taken b more e = by (form_of l) (spells l) e
    where
      fits : (x : List ℕ) → l ≡ content_line (codes "row") x → (o : Option Shape) → with_row b x ≡ o → ok_or (option_map (after_row more) o) BadRow ≡ Ok f → (t : Shape) × Adds (codes "row") b l t × (f ≡ on_board more t)
      fits x p (Some t) r q = let same : f ≡ on_board more t = cc in (t, row_adds (codes "row") b l x t p r, same)
      fits x p None r q = absurd (clash _ _ q)

      by : (x : Option Form) → Spells l x → after_form (rows b more) x ≡ Ok f → (t : Shape) × Adds (codes "row") b l t × (f ≡ on_board more t)
      by (Some (size w h)) p q = absurd (clash _ _ q)
      by (Some (row x)) p q = fits x p (with_row b x) refl q
      by (Some (want x)) p q = absurd (clash _ _ q)
      by (Some close) p q = absurd (clash _ _ q)
      by None p q = absurd (clash _ _ q)

  -- the first row of a molecule settles its width: the line is taken as one more of a molecule with none
  pub first_want_taken : (b : Shape) → grammar.after (first b) l ≡ Ok f → (w : ℕ) × Side w × (grammar.after (wants b (shape_of w 0 [])) l ≡ Ok f)
  first_want_taken b e = by (form_of l) refl e
    where
      fits : (x : List ℕ) → form_of l ≡ Some (want x) → (o : Option Shape) → first_want x ≡ o → ok_or (option_map (wants b) o) BadWant ≡ Ok f → (w : ℕ) × Side w × (grammar.after (wants b (shape_of w 0 [])) l ≡ Ok f)
      fits x p (Some t) r q =
          let start = first_step (blank_shape (length x)) (λ m. with_want m x) t r in
          let frame = blank_only (length x) start.0 start.1 in
          let same =
          ap (after_form (wants b (shape_of (length x) 0 []))) p
          ∙ ap (λ m. map_ok (wants b) (ok_or (with_want m x) BadWant)) frame.1
          ∙ ap (λ o. map_ok (wants b) (ok_or o BadWant)) start.2 in
          (length x, frame.0, same ∙ q)
      fits x p None r q = absurd (clash _ _ q)

      by : (x : Option Form) → form_of l ≡ x → after_form (first b) x ≡ Ok f → (w : ℕ) × Side w × (grammar.after (wants b (shape_of w 0 [])) l ≡ Ok f)
      by (Some (size w h)) p q = absurd (clash _ _ q)
      by (Some (row x)) p q = absurd (clash _ _ q)
      by (Some (want x)) p q = fits x p (first_want x) refl q
      by (Some close) p q = absurd (clash _ _ q)
      by None p q = absurd (clash _ _ q)

  module _ (b m : Shape) where
    -- a row more, or the closing bracket
    pub record More : Type 0 where
      pub last : Shape
      pub adds : Adds (codes "want") m l last
      pub open_too : Unwalled m → Unwalled last
      pub is : f ≡ wants b last

    pub record Closes : Type 0 where
      pub line : l ≡ closing
      pub is : f ≡ nothing b m

    pub want_line_taken : grammar.after (wants b m) l ≡ Ok f → More ⊎ Closes
    want_line_taken e = by (form_of l) (spells l) e
      where
        row_more : (x : List ℕ) → l ≡ content_line (codes "want") x → (o : Option Shape) → with_want m x ≡ o → map_ok (wants b) (ok_or o BadWant) ≡ Ok f → More
        row_more x p (Some t) r q =
            let same : f ≡ wants b t = cc in
            let adds = want_adds (codes "want") m l x t p r in
            record { last = t; adds = adds.0; open_too = adds.1; is = same }
        row_more x p None r q = absurd (clash _ _ q)

        fits : (x : List ℕ) → l ≡ content_line (codes "want") x → (c : Bool) → map_ok (wants b) (cond c (ok_or (with_want m x) BadWant) (Err LineForm)) ≡ Ok f → More
        fits x p true q = row_more x p (with_want m x) refl q
        fits x p false q = absurd (clash _ _ q)

        by : (x : Option Form) → Spells l x → after_form (wants b m) x ≡ Ok f → More ⊎ Closes
        by (Some (size w h)) p q = absurd (clash _ _ q)
        by (Some (row x)) p q = absurd (clash _ _ q)
        by (Some (want x)) p q = inl (fits x p (ltb m.height 16) q)
        by (Some close) p q = let same : f ≡ nothing b m = cc in inr (record { line = p; is = same })
        by None p q = absurd (clash _ _ q)
