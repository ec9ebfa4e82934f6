-- The lines of a level: what each is taken as, and that no other line is taken there. Assumes nothing.
use Rattle.std.proofs.Common.{◌≡◌, ℕ, ◌+◌, ◌*◌, ◌<◌, ◌≤◌, Bool, true, false, cond, ◌&&◌, List, [], ◌∷◌, ◌++◌, length, Some, None, Ok, Err, codes, decimal, Option, Result, sym, refl, ap, ◌∙◌, arith, lit<}
use Rattle.std.specs.List.{All}
use Rattle.std.specs.Option.{option_map, ok_or}
use Rattle.std.specs.Str.{bytes_eq}
use Rattle.std.proofs.lemmas.Fmt.{decimal_nonempty, length-decimal-le}
use Rattle.std.proofs.lemmas.List.Elements.{All-nil, All-cons, All-head, All-tail, All-append, All-weaker}
use Rattle.std.proofs.lemmas.List.{length-append}
use Rattle.std.proofs.lemmas.Bool.{cond-true}
use Rattle.std.proofs.lemmas.Bool.Decides.{nat_tests}
use Rattle.refusals.specs.declared.Fault.{Fault}
use Rattle.refusals.specs.declared.Fault.TheVariants.{BoardSize, BadRow}
use Rattle.text.specs.Pieces.{Keyword}
use Rattle.text.specs.Forms.{size_after, arguments_after, inside, closing, size_line, arguments_line, Arguments}
use Rattle.text.proofs.Cases.{clash}
use Rattle.text.proofs.FormLaws.{size_after_all, arguments_after_all, stops_blank}
use Rattle.text.proofs.BracketLaws.{line_has, size_has, arguments_has, row_word, form_reads}
use Rattle.text.proofs.Texts.{Printed, blank_printed, printed_by, decimal_each, Short, short_size, leading_all}
use Rattle.tiles.specs.LevelText.Writing.{spaced_numbers, row_line}
use Rattle.tiles.specs.Level.{side}
use Rattle.tiles.specs.LevelText.Reading.{Form, size, row, close, keyword_form, form_of, Expect, head, rows, last, nothing, numbers_in, after_tiles, after_form, grammar}
use Rattle.tiles.proofs.LevelText.Spelling.{numbers_only, numbers_all}

-- the keywords
pub tiles_word : Keyword (codes "tiles")
tiles_word = record { some = lit< tt; plainly = refl; unlike = refl }

abbrev pub head_line : ℕ → ℕ → List ℕ
head_line w h = size_line (codes "tiles") w h

-- a row's numbers are blanks and digits
pub record RowByte (b : ℕ) : Type 0 where
  pub printed : Printed b
  pub within : inside b ≡ true

digit_byte : (d : ℕ) → d < 10 → RowByte (48 + d)
digit_byte d small = record { printed = (omega arith, omega arith); within = grind (arith, nat_tests) }

blank : RowByte 32
blank = record { printed = blank_printed; within = refl }

pub spaced_bytes : (limit : ℕ) (ns : List ℕ) → limit ≤ 16 → All (λ n. n < limit) ns → All RowByte (spaced_numbers ns)
spaced_bytes limit [] few below = All-nil RowByte
spaced_bytes limit (n ∷ ns) few below =
    let small = All-head (λ m. m < limit) n ns below in
    All-cons RowByte 32 (decimal n ++ spaced_numbers ns) blank
    (All-append RowByte (decimal n) (spaced_numbers ns) (decimal_each RowByte digit_byte n (omega arith)) (spaced_bytes limit ns few (All-tail (λ m. m < limit) n ns below)))

spaced_arguments : (limit : ℕ) (ns : List ℕ) → limit ≤ 16 → 0 < length ns → All (λ n. n < limit) ns → Arguments (spaced_numbers ns)
spaced_arguments limit [] few some below = absurd (omega arith)
spaced_arguments limit (n ∷ ns) few some below =
    let small = All-head (λ m. m < limit) n ns below in
    record {
      blank = refl;
      some = omega (arith, decimal_nonempty n (omega arith), length-append (decimal n) (spaced_numbers ns));
      within = leading_all inside (spaced_numbers (n ∷ ns))
          (All-weaker RowByte (λ b. inside b ≡ true) (λ b r. r.within) (spaced_numbers (n ∷ ns)) (spaced_bytes limit (n ∷ ns) few below));
    }

-- no line is long
printed_bytes : (l : List ℕ) → All RowByte l → All Printed l
printed_bytes l all = All-weaker RowByte Printed (λ b r. r.printed) l all

pub short_head : (w h : ℕ) → w < 100 → h < 100 → Short (head_line w h)
short_head w h = short_size (codes "tiles") w h (printed_by (codes "tiles") refl) (omega arith)

length_spaced : (limit : ℕ) (ns : List ℕ) → limit ≤ 16 → All (λ n. n < limit) ns → length (spaced_numbers ns) ≤ 3 * length ns
length_spaced limit [] few below = omega arith
length_spaced limit (n ∷ ns) few below =
    let small = All-head (λ m. m < limit) n ns below in
    omega (arith, length-append (decimal n) (spaced_numbers ns), length-decimal-le 2 n (omega arith) (omega arith) (omega arith), length_spaced limit ns few (All-tail (λ m. m < limit) n ns below))

pub short_row : (limit : ℕ) (ns : List ℕ) → limit ≤ 16 → length ns ≤ 4 → All (λ n. n < limit) ns → Short (row_line ns)
short_row limit ns few most below = record {
  printed =
      All-append Printed (codes "(row") (spaced_numbers ns ++ closing) (printed_by (codes "(row") refl)
      (All-append Printed (spaced_numbers ns) closing (printed_bytes (spaced_numbers ns) (spaced_bytes limit ns few below)) (printed_by closing refl));
  short = omega (arith, length-append (spaced_numbers ns) closing, length_spaced limit ns few below);
}

-- the form of each line
form_head : (w h : ℕ) → w < 100 → h < 100 → form_of (head_line w h) ≡ Some (size w h)
form_head w h hw hh =
    form_reads (codes "tiles") tiles_word keyword_form close (32 ∷ (decimal w ++ (32 ∷ decimal h))) refl ∙ ap (option_map (λ s. size s.0 s.1)) (size_after_all w h hw hh)

form_row : (xs : List ℕ) → Arguments xs → form_of (arguments_line (codes "row") xs) ≡ Some (row xs)
form_row xs args =
    form_reads (codes "row") row_word keyword_form close (xs ++ closing) (stops_blank xs closing args.blank) ∙ ap (option_map row) (arguments_after_all xs args)

-- a line of a form is the one that spells it
abbrev Spells : List ℕ → Option Form → Type 0
Spells l (Some (size w h)) = l ≡ head_line w h
Spells l (Some (row x)) = l ≡ arguments_line (codes "row") x
Spells l (Some close) = l ≡ closing
Spells l None = Unit {0}

spells_none : (l : List ℕ) → Spells l None
spells_none l = tt

keyword_spells : (kw rest : List ℕ) → Spells (40 ∷ (kw ++ rest)) (keyword_form kw rest)
keyword_spells kw rest = by (bytes_eq kw (codes "tiles")) refl (bytes_eq kw (codes "row")) refl
  where
    by : (p : Bool) → bytes_eq kw (codes "tiles") ≡ p → (q : Bool) → bytes_eq kw (codes "row") ≡ q
        → Spells (40 ∷ (kw ++ rest)) (cond p (option_map (λ s. size s.0 s.1) (size_after rest)) (cond q (option_map row (arguments_after rest)) None))
    by true p q r = size_has Spells spells_none kw (codes "tiles") rest p size (λ w h. refl)
    by false p true r = arguments_has Spells spells_none kw (codes "row") rest r row (λ x. refl)
    by false p false r = tt

spells : (l : List ℕ) → Spells l (form_of l)
spells = line_has keyword_form close Spells keyword_spells refl spells_none

-- a board of a size that a level may have
pub record Sized (w h : ℕ) : Type 0 where
  pub wide : (2 ≤ w) × (w ≤ 4)
  pub high : (2 ≤ h) × (h ≤ 4)

-- each line of a level is taken where it is due
pub takes_head : (w h : ℕ) → Sized w h → grammar.after head (head_line w h) ≡ Ok (rows w h h [])
takes_head w h sized =
    let wide = sized.wide in
    let high = sized.high in
    ap (after_form head) (form_head w h (omega arith) (omega arith)) ∙ cond-true (side w && side h) _ _ (grind (arith, nat_tests))

pub takes_row : (w h due : ℕ) (ts ns : List ℕ) → w * h ≤ 16 → 0 < w → length ns ≡ w → All (λ k. k < w * h) ns → grammar.after (rows w h due ts) (row_line ns) ≡ Ok (after_tiles w h due (ts ++ ns))
takes_row w h due ts ns few some long below =
    ap (after_form (rows w h due ts)) (form_row (spaced_numbers ns) (spaced_arguments (w * h) ns few (omega arith) below))
    ∙ ap (λ k. after_numbers (numbers_in (w * h) k (spaced_numbers ns))) (sym long)
    ∙ ap after_numbers (numbers_all (w * h) ns few below)
  where
    after_numbers : Option (List ℕ) → Result Expect Fault
    after_numbers o = ok_or (option_map (λ r. after_tiles w h due (ts ++ r)) o) BadRow

pub takes_close : (w h : ℕ) (ts : List ℕ) → grammar.after (last w h ts) closing ≡ Ok (nothing w h ts)
takes_close w h ts = refl

-- and no other is
sides : (w h : ℕ) → side w && side h ≡ true → Sized w h
sides w h e = record { wide = (grind (arith, nat_tests), grind (arith, nat_tests)); high = (grind (arith, nat_tests), grind (arith, nat_tests)) }

pub record HeadTaken (l : List ℕ) (f : Expect) : Type 0 where
  pub w : ℕ
  pub h : ℕ
  pub sized : Sized w h
  pub line : l ≡ head_line w h
  pub next : f ≡ rows w h h []

pub head_taken : (l : List ℕ) (f : Expect) → grammar.after head l ≡ Ok f → HeadTaken l f
head_taken l f e = by (form_of l) (spells l) e
  where
    fits : (w h : ℕ) (b : Bool) → side w && side h ≡ b → l ≡ head_line w h → ◌≡◌ {A = Result Expect Fault} (cond b (Ok (rows w h h [])) (Err BoardSize)) (Ok f) → HeadTaken l f
    fits w h true s p q = let same : f ≡ rows w h h [] = cc in record { w = w; h = h; sized = sides w h s; line = p; next = same }
    fits w h false s p q = absurd (clash _ _ q)

    by : (x : Option Form) → Spells l x → after_form head x ≡ Ok f → HeadTaken l f
    by (Some (size w h)) p q = fits w h (side w && side h) refl p q
    by (Some (row xs)) p q = absurd (clash _ _ q)
    by (Some close) p q = absurd (clash _ _ q)
    by None p q = absurd (clash _ _ q)

pub record RowTaken (w h due : ℕ) (ts l : List ℕ) (f : Expect) : Type 0 where
  pub ns : List ℕ
  pub long : length ns ≡ w
  pub below : All (λ k. k < w * h) ns
  pub line : l ≡ row_line ns
  pub next : f ≡ after_tiles w h due (ts ++ ns)

module _ (w h : ℕ) (ts l : List ℕ) (f : Expect) where
  pub row_taken : (due : ℕ) → grammar.after (rows w h due ts) l ≡ Ok f → RowTaken w h due ts l f
  row_taken due e = by (form_of l) (spells l) e
    where
      fits : (xs : List ℕ) (o : Option (List ℕ)) → numbers_in (w * h) w xs ≡ o → l ≡ arguments_line (codes "row") xs
          → ok_or (option_map (λ r. after_tiles w h due (ts ++ r)) o) BadRow ≡ Ok f → RowTaken w h due ts l f
      fits xs (Some ns) s p q =
          let spelled = numbers_only (w * h) w xs ns s in
          let same : f ≡ after_tiles w h due (ts ++ ns) = cc in
          record {
            ns = ns;
            long = spelled.size;
            below = spelled.below;
            line = p ∙ ap (arguments_line (codes "row")) spelled.text;
            next = same;
          }
      fits xs None s p q = absurd (clash _ _ q)

      by : (x : Option Form) → Spells l x → after_form (rows w h due ts) x ≡ Ok f → RowTaken w h due ts l f
      by (Some (size v g)) p q = absurd (clash _ _ q)
      by (Some (row xs)) p q = fits xs (numbers_in (w * h) w xs) refl p q
      by (Some close) p q = absurd (clash _ _ q)
      by None p q = absurd (clash _ _ q)

  pub close_taken : grammar.after (last w h ts) l ≡ Ok f → (l ≡ closing) × (f ≡ nothing w h ts)
  close_taken e = by (form_of l) (spells l) e
    where
      by : (x : Option Form) → Spells l x → after_form (last w h ts) x ≡ Ok f → (l ≡ closing) × (f ≡ nothing w h ts)
      by (Some (size v g)) p q = absurd (clash _ _ q)
      by (Some (row xs)) p q = absurd (clash _ _ q)
      by (Some close) p q = let same : f ≡ nothing w h ts = cc in (p, same)
      by None p q = absurd (clash _ _ q)
