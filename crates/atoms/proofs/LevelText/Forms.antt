-- The form of each line of a level, and that a line of a form is the one that spells it. Assumes nothing.
use Rattle.std.proofs.Common.{◌≡◌, ℕ, ◌<◌, Bool, true, false, cond, List, ◌∷◌, ◌++◌, Some, None, codes, decimal, Option, refl, ap, ◌∙◌, lit<}
use Rattle.std.specs.Option.{option_map}
use Rattle.std.specs.Str.{bytes_eq}
use Rattle.text.specs.Pieces.{Keyword}
use Rattle.text.specs.Forms.{size_after, content_after, closing, size_line, content_line, Content}
use Rattle.text.proofs.FormLaws.{size_after_all, content_after_all}
use Rattle.text.proofs.BracketLaws.{line_has, size_has, content_has, row_word, form_reads}
use Rattle.atoms.specs.LevelText.Reading.{Form, size, row, want, close, keyword_form, form_of}

-- the keywords
pub atomix_word : Keyword (codes "atomix")
atomix_word = record { some = lit< tt; plainly = refl; unlike = refl }

want_word : Keyword (codes "want")
want_word = record { some = lit< tt; plainly = refl; unlike = refl }

abbrev pub head_line : ℕ → ℕ → List ℕ
head_line w h = size_line (codes "atomix") w h

-- the form of each line
pub form_head : (w h : ℕ) → w < 100 → h < 100 → form_of (head_line w h) ≡ Some (size w h)
form_head w h hw hh =
    form_reads (codes "atomix") atomix_word keyword_form close (32 ∷ (decimal w ++ (32 ∷ decimal h))) refl ∙ ap (option_map (λ s. size s.0 s.1)) (size_after_all w h hw hh)

pub form_row : (xs : List ℕ) → Content xs → form_of (content_line (codes "row") xs) ≡ Some (row xs)
form_row xs content =
    form_reads (codes "row") row_word keyword_form close (32 ∷ (xs ++ closing)) refl ∙ ap (option_map row) (content_after_all xs content)

pub form_want : (xs : List ℕ) → Content xs → form_of (content_line (codes "want") xs) ≡ Some (want xs)
form_want xs content =
    form_reads (codes "want") want_word keyword_form close (32 ∷ (xs ++ closing)) refl ∙ ap (option_map want) (content_after_all xs content)

-- a line of a form is the one that spells it
abbrev pub Spells : List ℕ → Option Form → Type 0
Spells l (Some (size w h)) = l ≡ head_line w h
Spells l (Some (row x)) = l ≡ content_line (codes "row") x
Spells l (Some (want x)) = l ≡ content_line (codes "want") x
Spells l (Some close) = l ≡ closing
Spells l None = Unit {0}

spells_none : (l : List ℕ) → Spells l None
spells_none l = tt

keyword_spells : (kw rest : List ℕ) → Spells (40 ∷ (kw ++ rest)) (keyword_form kw rest)
keyword_spells kw rest =
    by (bytes_eq kw (codes "atomix")) refl (bytes_eq kw (codes "row")) refl (bytes_eq kw (codes "want")) refl
  where
    by : (p : Bool) → bytes_eq kw (codes "atomix") ≡ p → (q : Bool) → bytes_eq kw (codes "row") ≡ q → (r : Bool) → bytes_eq kw (codes "want") ≡ r
        → Spells (40 ∷ (kw ++ rest)) (cond p (option_map (λ s. size s.0 s.1) (size_after rest)) (cond q (option_map row (content_after rest)) (cond r (option_map want (content_after rest)) None)))
    by true p q s r t = size_has Spells spells_none kw (codes "atomix") rest p size (λ w h. refl)
    by false p true s r t = content_has Spells spells_none kw (codes "row") rest s row (λ x. refl)
    by false p false s true t = content_has Spells spells_none kw (codes "want") rest t want (λ x. refl)
    by false p false s false t = tt

pub spells : (l : List ℕ) → Spells l (form_of l)
spells = line_has keyword_form close Spells keyword_spells refl spells_none
