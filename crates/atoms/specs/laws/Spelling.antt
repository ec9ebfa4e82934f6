-- The line of a move says that move, and is one line. Assumes nothing.
use Rattle.std.specs.Prelude.{◌≡◌, ℕ, ◌+◌, ◌<◌, ◌≤◌, Bool, true, cond, List, [], ◌∷◌, ◌++◌, length, Some, codes, decimal, refl}
use Rattle.std.proofs.Common.{ap, ◌∙◌, append_assoc, arith, lit≤}
use Rattle.std.specs.Char.{is_ascii_digit}
use Rattle.std.specs.List.{prefix_len}
use Rattle.std.proofs.lemmas.Fmt.{decimal_nonempty, digits_decimal, length-decimal-le}
use Rattle.std.proofs.lemmas.List.{length-append}
use Rattle.std.proofs.lemmas.Bool.Decides.{nat_tests}
use Rattle.grid.specs.declared.Direction.{Direction}
use Rattle.grid.specs.declared.Direction.TheVariants.{Up, Down, Left, Right}
use Rattle.grid.specs.Grid.{word_of}
use Rattle.text.specs.Lines.{in_line, OneLine}
use Rattle.text.specs.Pieces.{Keyword}
use Rattle.text.proofs.Lines.{digit_in_line}
use Rattle.text.proofs.Numbers.{own}
use Rattle.text.proofs.Whole.{Whole, whole_append, whole_digits}
use Rattle.text.specs.Forms.{◌then◌, number_in, inside, closing, Arguments}
use Rattle.text.proofs.FormWords.{number_reads}
use Rattle.text.proofs.FormLaws.{forms_hold}
use Rattle.ways.specs.Notations.{longest_line}
use Rattle.atoms.specs.declared.notation.AtomMove.{AtomMove}
use Rattle.atoms.specs.WrittenMoves.{move_of, short_move, direction_in, move_in, move_text}

-- the bytes after the keyword
abbrev said : AtomMove → List ℕ
said m = 32 ∷ (decimal m.from.row ++ (32 ∷ (decimal m.from.column ++ (32 ∷ word_of m.direction))))

-- the line as it is written, part by part
pub in_parts : (m : AtomMove) → move_text m ≡ codes "(move " ++ (decimal m.from.row ++ (codes " " ++ (decimal m.from.column ++ (codes " " ++ (word_of m.direction ++ codes ")")))))
in_parts m =
    let c = decimal m.from.column in
    let w = word_of m.direction in
    ap (λ x. codes "(move " ++ x) (append_assoc (decimal m.from.row) (32 ∷ (c ++ (32 ∷ w))) closing)
    ∙ ap (λ x. codes "(move " ++ (decimal m.from.row ++ (32 ∷ x))) (append_assoc c (32 ∷ w) closing)

-- the bytes of a move all pass a test that digits, blanks and words pass
module _ (p : ℕ → Bool) (digits : (c : ℕ) → is_ascii_digit c ≡ true → p c ≡ true) where
  whole_said : (m : AtomMove) → m.from.row < 100 → m.from.column < 100 → p 32 ≡ true → Whole p (word_of m.direction) → Whole p (said m)
  whole_said m high wide blank word =
      let row = whole_digits p digits (decimal m.from.row) (digits_decimal own m.from.row (omega arith)) in
      let column = whole_digits p digits (decimal m.from.column) (digits_decimal own m.from.column (omega arith)) in
      let one : Whole p (32 ∷ []) = ap (λ t. cond t (1 + 0) 0) blank in
      whole_append p (32 ∷ []) _ one
      (whole_append p (decimal m.from.row) _ row
      (whole_append p (32 ∷ []) _ one (whole_append p (decimal m.from.column) _ column (whole_append p (32 ∷ []) _ one word))))

word_inside : (d : Direction) → prefix_len inside (word_of d) ≡ length (word_of d)
word_inside Up = refl
word_inside Down = refl
word_inside Left = refl
word_inside Right = refl

word_line : (d : Direction) → OneLine (word_of d)
word_line Up = refl
word_line Down = refl
word_line Left = refl
word_line Right = refl

word_short : (d : Direction) → length (word_of d) ≤ 5
word_short Up = lit≤ tt
word_short Down = lit≤ tt
word_short Left = lit≤ tt
word_short Right = lit≤ tt

word_back : (d : Direction) → direction_in (32 ∷ word_of d) ≡ Some d
word_back Up = refl
word_back Down = refl
word_back Left = refl
word_back Right = refl

move : Keyword (codes "move")
move = record { some = lit≤ tt; plainly = refl; unlike = refl }

digit_inside : (c : ℕ) → is_ascii_digit c ≡ true → inside c ≡ true
digit_inside c h = grind (arith, nat_tests)

module _ (m : AtomMove) (high : m.from.row < 100) (wide : m.from.column < 100) where
  arguments : Arguments (said m)
  arguments =
      let digits = decimal_nonempty m.from.row (omega arith) in
      record {
        blank = refl;
        some = omega (arith, length-append (decimal m.from.row) (32 ∷ (decimal m.from.column ++ (32 ∷ word_of m.direction))));
        within = whole_said inside digit_inside m high wide refl (word_inside m.direction);
      }

  small : (r c : ℕ) (d : Direction) → r < 100 → c < 100 → short_move r c d ≡ Some (move_of r c d)
  small r c d p q = grind (arith, nat_tests)

  pub reads_back : move_in (move_text m) ≡ Some m
  reads_back =
      let r = m.from.row in
      let c = m.from.column in
      let d = m.direction in
      ap (λ o. o then number_in then (λ x. number_in x.1 then (λ y. direction_in y.1 then short_move x.0 y.0))) (forms_hold.arguments_all (codes "move") (said m) move arguments)
      ∙ ap (λ o. o then (λ x. number_in x.1 then (λ y. direction_in y.1 then short_move x.0 y.0))) (number_reads r (omega arith) (32 ∷ (decimal c ++ (32 ∷ word_of d))) refl)
      ∙ ap (λ o. o then (λ y. direction_in y.1 then short_move r y.0)) (number_reads c (omega arith) (32 ∷ word_of d) refl)
      ∙ ap (λ o. o then short_move r c) (word_back d)
      ∙ small r c d high wide

  pub one_line : OneLine (move_text m)
  one_line =
      whole_append in_line (codes "(move") (said m ++ closing) refl
      (whole_append in_line (said m) closing (whole_said in_line digit_in_line m high wide refl (word_line m.direction)) refl)

  pub short_line : length (move_text m) ≤ longest_line
  short_line =
      let row : length (decimal m.from.row) ≤ 2 = length-decimal-le 2 m.from.row (omega arith) (omega arith) (omega arith) in
      let column : length (decimal m.from.column) ≤ 2 = length-decimal-le 2 m.from.column (omega arith) (omega arith) (omega arith) in
      let word = word_short m.direction in
      simp length-append (omega arith)
