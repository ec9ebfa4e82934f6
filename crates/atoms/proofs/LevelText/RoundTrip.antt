-- A text is read as a level exactly where it is that level written out. Assumes nothing.
use Rattle.std.proofs.Common.{◌≡◌, ℕ, zero, suc, ◌+◌, ◌-◌, ◌*◌, ◌<◌, ◌≤◌, Bool, true, false, cond, ◌⊎◌, List, [], ◌∷◌, ◌++◌, length, take, drop, Some, Ok, Err, codes, decimal, Result, sym, refl, ap, ◌∙◌, subst, inl, inr, append_assoc, append-nil, mul-suc, arith}
use Rattle.std.specs.List.{All}
use Rattle.std.proofs.lemmas.List.Elements.{All-nil, All-cons, All-append}
use Rattle.std.proofs.lemmas.List.{length-append, length-take-le, length-drop, nil_from_length, take-append-drop, take_at, drop_at}
use Rattle.refusals.specs.declared.Refusal.{Refusal}
use Rattle.refusals.specs.declared.Fault.{Fault}
use Rattle.refusals.specs.declared.Fault.TheVariants.{BareEdge, AtomLabels}
use Rattle.text.specs.Lines.{join_lines}
use Rattle.text.proofs.Cases.{clash}
use Rattle.text.specs.LevelReading.{at_line}
use Rattle.text.proofs.LevelReading as reading
use Rattle.text.proofs.Texts.{Short, one_line, printed_by, short_closing}
use Rattle.text.specs.Forms.{closing, first_keyword}
use Rattle.text.proofs.BracketLaws.{first_keyword_reads}
use Rattle.pictures.specs.declared.cell.Cell.{Cell}
use Rattle.pictures.specs.Cells.{Lettered}
use Rattle.pictures.specs.Pictures.{Shape, shape_of}
use Rattle.pictures.proofs.Drawn.{lettered_take, lettered_drop}
use Rattle.molecules.specs.Atoms.{Unwalled, is_edged}
use Rattle.atoms.specs.declared.level.AtomLevel.{AtomLevel}
use Rattle.atoms.specs.Level.{Atoms, atoms_of, atoms, Valid}
use Rattle.atoms.specs.Making.{is_matched, level_of}
use Rattle.atoms.specs.laws.Levels.{Framed, level_valid}
use Rattle.atoms.proofs.Making.{made_valid, valid_made}
use Rattle.atoms.specs.LevelText.Writing.{drawn_line, drawn_lines, picture_lines, level_text}
use Rattle.atoms.specs.LevelText.Reading.{Expect, head, rows, first, wants, nothing, grammar, read_level, ReadsExactly}
use Rattle.atoms.proofs.LevelText.Forms.{head_line, atomix_word}
use Rattle.atoms.proofs.LevelText.Lines.{short_head, short_rows, length_rows}
use Rattle.atoms.proofs.LevelText.Rows.{with_drawn_row, Adds, Open, open_take, open_drop, framed_blank, framed_drawn_row}
use Rattle.atoms.proofs.LevelText.Taking.{Side, on_board, rows_left, head_taken, board_row_taken, first_want_taken, More, Closes, want_line_taken, takes_head, takes_row, takes_first, takes_want, takes_close}

-- the level that these lines end
abbrev ends : Expect → ℕ → List (List ℕ) → Result Atoms Refusal
ends = reading.ends grammar

ends_by : (e f : Expect) (n : ℕ) (l : List ℕ) (ls : List (List ℕ)) → grammar.after e l ≡ Ok f → ends e n (l ∷ ls) ≡ ends f (n + 1) ls
ends_by = reading.ends_by grammar

first_taken : (e : Expect) (n : ℕ) (l : List ℕ) (ls : List (List ℕ)) (t : Atoms) → ends e n (l ∷ ls) ≡ Ok t → reading.FirstTaken grammar e n l ls t
first_taken = reading.first_taken grammar

-- Only what is written out is read.

-- these lines make t of the picture s
record Draws (kw : List ℕ) (s : Shape) (ls : List (List ℕ)) (t : Shape) : Type 0 where
  count : ℕ
  cells : List Cell
  lines : ls ≡ drawn_lines kw count s.width cells
  is : t ≡ shape_of s.width (s.height + count) (s.cells ++ cells)

draws_none : (kw : List ℕ) (s : Shape) → Draws kw s [] s
draws_none kw s =
    let same : s.height ≡ s.height + 0 = omega arith in
    record {
      count = 0;
      cells = [];
      lines = refl;
      is = ap (λ h. shape_of s.width h s.cells) same ∙ ap (shape_of s.width (s.height + 0)) (sym (append-nil s.cells));
    }

-- a row before others
row_first : (kw : List ℕ) (k w : ℕ) (xs ys : List Cell) → length xs ≡ w → drawn_lines kw (suc k) w (xs ++ ys) ≡ drawn_line kw xs ∷ drawn_lines kw k w ys
row_first kw k w xs ys long =
    ap (λ x. drawn_line kw x ∷ drawn_lines kw k w (drop w (xs ++ ys))) (take_at xs ys w long)
    ∙ ap (λ y. drawn_line kw xs ∷ drawn_lines kw k w y) (drop_at xs ys w long)

-- after one row and then others the picture is the same as after all at once
with_drawn_row_all : (s : Shape) (k : ℕ) (xs ys : List Cell) → shape_of s.width (s.height + 1 + k) ((s.cells ++ xs) ++ ys) ≡ shape_of s.width (s.height + suc k) (s.cells ++ (xs ++ ys))
with_drawn_row_all s k xs ys =
    let same : s.height + 1 + k ≡ s.height + suc k = omega arith in
    ap (λ h. shape_of s.width h ((s.cells ++ xs) ++ ys)) same ∙ ap (shape_of s.width (s.height + suc k)) (append_assoc s.cells xs ys)

draws_more : (kw : List ℕ) (s u t : Shape) (l : List ℕ) (ls : List (List ℕ)) → Adds kw s l u → Draws kw u ls t → Draws kw s (l ∷ ls) t
draws_more kw s u t l ls adds rest = by (subst (λ v. Draws kw v ls t) adds.is rest)
  where
    by : Draws kw (with_drawn_row s adds.cells) ls t → Draws kw s (l ∷ ls) t
    by rest = record {
      count = suc rest.count;
      cells = adds.cells ++ rest.cells;
      lines =
          ap (λ m. m ∷ ls) adds.line ∙ ap (λ ms. drawn_line kw adds.cells ∷ ms) rest.lines
          ∙ sym (row_first kw rest.count s.width adds.cells rest.cells adds.wide);
      is = rest.is ∙ with_drawn_row_all s rest.count adds.cells rest.cells;
    }

-- all lines of a picture
draws_all : (kw : List ℕ) (w : ℕ) (ls : List (List ℕ)) (t : Shape) → Draws kw (shape_of w 0 []) ls t → ls ≡ picture_lines kw t
draws_all kw w ls t d =
    let same : d.count ≡ 0 + d.count = omega arith in
    d.lines ∙ ap (λ h. drawn_lines kw h w d.cells) same ∙ ap (picture_lines kw) (sym d.is)

framed_more : (kw : List ℕ) (s u : Shape) (l : List ℕ) → Adds kw s l u → Framed s → Framed u
framed_more kw s u l adds p = subst Framed (sym adds.is) (framed_drawn_row s adds.cells p adds.wide adds.room adds.lettered)

-- no line is left
only_nothing : (n : ℕ) (b m : Shape) (ls : List (List ℕ)) (t : Atoms) → ends (nothing b m) n ls ≡ Ok t → (ls ≡ []) × (level_of b m ≡ Ok t)
only_nothing n b m [] t is = (refl, reading.at_line_only (n - 1) (level_of b m) t is)
only_nothing n b m (l ∷ ls) t is = absurd (clash _ _ (first_taken (nothing b m) n l ls t is).first)

-- the rest of a molecule, and the closing bracket
record Molecule (b m : Shape) (ls : List (List ℕ)) (t : Atoms) : Type 0 where
  last : Shape
  drawn : List (List ℕ)
  draws : Draws (codes "want") m drawn last
  lines : ls ≡ drawn ++ (closing ∷ [])
  framed : Framed last
  unwalled : Unwalled last
  makes : level_of b last ≡ Ok t

only_wants : (n : ℕ) (b m : Shape) (ls : List (List ℕ)) (t : Atoms) → Framed m → Unwalled m → ends (wants b m) n ls ≡ Ok t → Molecule b m ls t
only_wants n b m [] t p free is = absurd (clash _ _ is)
only_wants n b m (l ∷ ls) t p free is = by (want_line_taken l one.state b m one.first) (λ u. only_wants (n + 1) b u ls t)
  where
    one : reading.FirstTaken grammar (wants b m) n l ls t
    one = first_taken (wants b m) n l ls t is

    by : More l one.state b m ⊎ Closes l one.state b m → ((u : Shape) → Framed u → Unwalled u → ends (wants b u) (n + 1) ls ≡ Ok t → Molecule b u ls t) → Molecule b m (l ∷ ls) t
    by (inl more) others =
        let rest = others more.last (framed_more (codes "want") m more.last l more.adds p) (more.open_too free) (ap (λ f. ends f (n + 1) ls) (sym more.is) ∙ one.rest) in
        record {
          last = rest.last;
          drawn = l ∷ rest.drawn;
          draws = draws_more (codes "want") m more.last rest.last l rest.drawn more.adds rest.draws;
          lines = ap (λ x. l ∷ x) rest.lines;
          framed = rest.framed;
          unwalled = rest.unwalled;
          makes = rest.makes;
        }
    by (inr closes) others =
        let rest = only_nothing (n + 1) b m ls t (ap (λ f. ends f (n + 1) ls) (sym closes.is) ∙ one.rest) in
        record {
          last = m;
          drawn = [];
          draws = draws_none (codes "want") m;
          lines = ap (λ x. x ∷ ls) closes.line ∙ ap (λ x. closing ∷ x) rest.0;
          framed = p;
          unwalled = free;
          makes = rest.1;
        }

-- a molecule from its first row on
record Whole (b : Shape) (ls : List (List ℕ)) (t : Atoms) : Type 0 where
  molecule : Shape
  lines : ls ≡ picture_lines (codes "want") molecule ++ (closing ∷ [])
  framed : Framed molecule
  unwalled : Unwalled molecule
  makes : level_of b molecule ≡ Ok t

only_first : (n : ℕ) (b : Shape) (ls : List (List ℕ)) (t : Atoms) → ends (first b) n ls ≡ Ok t → Whole b ls t
only_first n b [] t is = absurd (clash _ _ is)
only_first n b (l ∷ ls) t is =
    let one = first_taken (first b) n l ls t is in
    let start = first_want_taken l one.state b one.first in
    let w = start.0 in
    let none = shape_of w 0 [] in
    let read = only_wants n b none (l ∷ ls) t (framed_blank w start.1) (λ i. refl) (ends_by (wants b none) one.state n l ls start.2 ∙ one.rest) in
    record {
      molecule = read.last;
      lines = read.lines ∙ ap (λ x. x ++ (closing ∷ [])) (draws_all (codes "want") w read.drawn read.last read.draws);
      framed = read.framed;
      unwalled = read.unwalled;
      makes = read.makes;
    }

-- the rest of a board, with so many rows more after the next
record Board (b : Shape) (more : ℕ) (ls : List (List ℕ)) (t : Atoms) : Type 0 where
  last : Shape
  high : last.height ≡ b.height + suc more
  drawn : List (List ℕ)
  draws : Draws (codes "row") b drawn last
  framed : Framed last
  others : List (List ℕ)
  lines : ls ≡ drawn ++ others
  whole : Whole last others t

board_more : (b u : Shape) (more : ℕ) (l : List ℕ) (ls : List (List ℕ)) (t : Atoms) → Adds (codes "row") b l u → Board u more ls t → Board b (suc more) (l ∷ ls) t
board_more b u more l ls t adds rest = record {
  last = rest.last;
  high = rest.high ∙ ap (λ (s : Shape). s.height + suc more) adds.is ∙ omega arith;
  drawn = l ∷ rest.drawn;
  draws = draws_more (codes "row") b u rest.last l rest.drawn adds rest.draws;
  framed = rest.framed;
  others = rest.others;
  lines = ap (λ x. l ∷ x) rest.lines;
  whole = rest.whole;
}

only_rows : (n more : ℕ) (b : Shape) (ls : List (List ℕ)) (t : Atoms) → Framed b → ends (rows b more) n ls ≡ Ok t → Board b more ls t
only_rows n more b [] t p is = absurd (clash _ _ is)
only_rows n zero b (l ∷ ls) t p is =
    let one = first_taken (rows b 0) n l ls t is in
    let row = board_row_taken l one.state b 0 one.first in
    let u = row.0 in
    record {
      last = u;
      high = ap (λ (s : Shape). s.height) row.1.is;
      drawn = l ∷ [];
      draws = draws_more (codes "row") b u u l [] row.1 (draws_none (codes "row") u);
      framed = framed_more (codes "row") b u l row.1 p;
      others = ls;
      lines = refl;
      whole = only_first (n + 1) u ls t (ap (λ f. ends f (n + 1) ls) (sym row.2) ∙ one.rest);
    }
only_rows n (suc more) b (l ∷ ls) t p is =
    let one = first_taken (rows b (suc more)) n l ls t is in
    let row = board_row_taken l one.state b (suc more) one.first in
    let u = row.0 in
    board_more b u more l ls t row.1
    (only_rows (n + 1) more u ls t (framed_more (codes "row") b u l row.1 p) (ap (λ f. ends f (n + 1) ls) (sym (row.2 ∙ rows_left more u)) ∙ one.rest))

-- the lines of a level
abbrev level_lines : Shape → Shape → List (List ℕ)
level_lines b m = head_line b.width b.height ∷ (picture_lines (codes "row") b ++ (picture_lines (codes "want") m ++ (closing ∷ [])))

record Read (ls : List (List ℕ)) (t : Atoms) : Type 0 where
  board : Shape
  molecule : Shape
  lines : ls ≡ level_lines board molecule
  drawn : Framed board
  wanted : Framed molecule
  unwalled : Unwalled molecule
  makes : level_of board molecule ≡ Ok t

only_head : (n : ℕ) (ls : List (List ℕ)) (t : Atoms) → ends head n ls ≡ Ok t → Read ls t
only_head n [] t is = absurd (clash _ _ is)
only_head n (l ∷ ls) t is =
    let one = first_taken head n l ls t is in
    let start = head_taken l one.state one.first in
    let w = start.w in
    let h = start.h in
    let rest = only_rows (n + 1) (h - 1) (shape_of w 0 []) ls t (framed_blank w start.wide) (ap (λ f. ends f (n + 1) ls) (sym start.is) ∙ one.rest) in
    let b = rest.last in
    let m = rest.whole.molecule in
    let wide : w ≡ b.width = ap (λ (s : Shape). s.width) (sym rest.draws.is) in
    let high : h ≡ b.height = omega (arith, rest.high, start.high) in
    record {
      board = b;
      molecule = m;
      lines =
          ap (λ x. x ∷ ls) (start.line ∙ ap (λ k. head_line k h) wide ∙ ap (head_line b.width) high)
          ∙ ap (λ x. head_line b.width b.height ∷ x)
          (rest.lines ∙ ap (λ x. x ++ rest.others) (draws_all (codes "row") w rest.drawn b rest.draws) ∙ ap (λ x. picture_lines (codes "row") b ++ x) rest.whole.lines);
      drawn = rest.framed;
      wanted = rest.whole.framed;
      unwalled = rest.whole.unwalled;
      makes = rest.whole.makes;
    }

-- what is made has these pictures
made_is : (b m : Shape) (l : Atoms) → level_of b m ≡ Ok l → l ≡ atoms_of b m
made_is b m l e = by (is_edged m) (is_matched b m) e
  where
    by : (p q : Bool) → ◌≡◌ {A = Result Atoms Fault} (cond p (cond q (Ok (atoms_of b m)) (Err AtomLabels)) (Err BareEdge)) (Ok l) → l ≡ atoms_of b m
    by true true e = cc
    by true false e = absurd (clash _ _ e)
    by false q e = absurd (clash _ _ e)

read_only : (text : List ℕ) (l : Atoms) → read_level text ≡ Ok l → Valid l × (text ≡ level_text l)
read_only text l is =
    let cut = reading.lines_of grammar text l is in
    let read = only_head 1 cut.lines l cut.read in (
      made_valid read.board read.molecule read.drawn read.wanted read.unwalled l read.makes,
      cut.whole ∙ ap join_lines read.lines ∙ ap level_text (sym (made_is read.board read.molecule l read.makes)),
    )

-- What is written out is read.

-- Rows that are taken one after the other: with k to come the reader is in a state, and Good cells are taken.
module _ (kw : List ℕ) (State : ℕ → Shape → Expect) (Good : List Cell → Type 0)
    (good-take : (n : ℕ) (xs : List Cell) → Good xs → Good (take n xs))
    (good-drop : (n : ℕ) (xs : List Cell) → Good xs → Good (drop n xs))
    (takes : (k : ℕ) (s : Shape) (xs : List Cell) → 0 < s.width → length xs ≡ s.width → s.height < 16 → Good xs → grammar.after (State (suc k) s) (drawn_line kw xs) ≡ Ok (State k (with_drawn_row s xs))) where
  all_rows : (k n : ℕ) (s : Shape) (xs : List Cell) (others : List (List ℕ)) (t : Atoms) → 0 < s.width → length xs ≡ s.width * k → s.height + k ≤ 16 → Good xs → ((i : ℕ) → ends (State 0 (shape_of s.width (s.height + k) (s.cells ++ xs))) i others ≡ Ok t) → ends (State k s) n (drawn_lines kw k s.width xs ++ others) ≡ Ok t
  all_rows zero n s xs others t some long room good after =
      let none : xs ≡ [] = nil_from_length xs (omega arith) in
      let same : s.height ≡ s.height + 0 = omega arith in
      ap (λ ys. ends (State 0 (shape_of s.width s.height ys)) n others) (sym (ap (λ ys. s.cells ++ ys) none ∙ append-nil s.cells))
      ∙ ap (λ h. ends (State 0 (shape_of s.width h (s.cells ++ xs))) n others) same
      ∙ after n
  all_rows (suc k) n s xs others t some long room good after =
      let w = s.width in
      let front = take w xs in
      let back = drop w xs in
      let more = mul-suc w k in
      let wide : length front ≡ w = length-take-le w xs (omega arith) in
      let left : length back ≡ w * k = length-drop w xs ∙ omega arith in
      let same = with_drawn_row_all s k front back ∙ ap (λ ys. shape_of w (s.height + suc k) (s.cells ++ ys)) (take-append-drop w xs) in
      ends_by (State (suc k) s) (State k (with_drawn_row s front)) n (drawn_line kw front) (drawn_lines kw k w back ++ others) (takes k s front some wide (omega arith) (good-take w xs good))
      ∙ all_rows k (n + 1) (with_drawn_row s front) back others t some left (omega arith) (good-drop w xs good) (λ i. ap (λ u. ends (State 0 u) i others) same ∙ after i)

-- the cells of a molecule
abbrev Wanted : List Cell → Type 0
Wanted xs = Lettered xs × Open xs

wanted_take : (n : ℕ) (xs : List Cell) → Wanted xs → Wanted (take n xs)
wanted_take n xs good = (lettered_take n xs good.0, open_take n xs good.1)

wanted_drop : (n : ℕ) (xs : List Cell) → Wanted xs → Wanted (drop n xs)
wanted_drop n xs good = (lettered_drop n xs good.0, open_drop n xs good.1)

-- the first row of a molecule is taken as one more of a molecule with none
first_row : (n : ℕ) (b : Shape) (w : ℕ) (xs : List Cell) (others : List (List ℕ)) → Side w → length xs ≡ w → Wanted xs → ends (first b) n (drawn_line (codes "want") xs ∷ others) ≡ ends (wants b (shape_of w 0 [])) n (drawn_line (codes "want") xs ∷ others)
first_row n b w xs others side wide good =
    let l = drawn_line (codes "want") xs in
    let none = shape_of w 0 [] in
    let f = wants b (with_drawn_row none xs) in
    let takes = takes_want b none xs (omega (arith, side)) wide (omega arith) good.0 good.1 in
    ends_by (first b) f n l others (takes_first b w xs side wide good.0 good.1) ∙ sym (ends_by (wants b none) f n l others takes)

-- a valid level from its last line back to its first
module _ (b m : Shape) (valid : Valid (atoms_of b m)) where
  all_closed : (n : ℕ) → ends (wants b m) n (closing ∷ []) ≡ Ok (atoms_of b m)
  all_closed n =
      ends_by (wants b m) (nothing b m) n closing [] (takes_close b m) ∙ ap (at_line (n + 1 - 1)) (valid_made (atoms_of b m) valid)

  all_wants : (n : ℕ) → ends (wants b (shape_of m.width 0 [])) n (picture_lines (codes "want") m ++ (closing ∷ [])) ≡ Ok (atoms_of b m)
  all_wants n =
      let same : m.height ≡ 0 + m.height = omega arith in
      all_rows (codes "want") (λ k s. wants b s) Wanted wanted_take wanted_drop
      (λ k s xs some wide room good. takes_want b s xs some wide room good.0 good.1)
      m.height n (shape_of m.width 0 []) m.cells (closing ∷ []) (atoms_of b m)
      (omega (arith, valid.molecule.wide)) valid.molecule.whole (omega (arith, valid.molecule.high)) (valid.molecule.lettered, valid.unwalled)
      (λ i. ap (λ h. ends (wants b (shape_of m.width h m.cells)) i (closing ∷ [])) (sym same) ∙ all_closed i)

  all_first : (n : ℕ) → ends (first b) n (picture_lines (codes "want") m ++ (closing ∷ [])) ≡ Ok (atoms_of b m)
  all_first n =
      let w = m.width in
      let k = m.height - 1 in
      let high = valid.molecule.high in
      let one : m.height ≡ suc k = omega arith in
      let front = take w m.cells in
      let wide : length front ≡ w = length-take-le w m.cells (omega (arith, valid.molecule.whole, ap (λ h. w * h) one, mul-suc w k)) in
      let good = wanted_take w m.cells (valid.molecule.lettered, valid.unwalled) in
      let others = drawn_lines (codes "want") k w (drop w m.cells) ++ (closing ∷ []) in
      ap (λ h. ends (first b) n (drawn_lines (codes "want") h w m.cells ++ (closing ∷ []))) one
      ∙ first_row n b w front others valid.molecule.wide wide good
      ∙ ap (λ h. ends (wants b (shape_of w 0 [])) n (drawn_lines (codes "want") h w m.cells ++ (closing ∷ []))) (sym one)
      ∙ all_wants n

  all_board : (n : ℕ) → ends (on_board b.height (shape_of b.width 0 [])) n (picture_lines (codes "row") b ++ (picture_lines (codes "want") m ++ (closing ∷ []))) ≡ Ok (atoms_of b m)
  all_board n =
      let same : b.height ≡ 0 + b.height = omega arith in
      let others = picture_lines (codes "want") m ++ (closing ∷ []) in
      all_rows (codes "row") on_board Lettered lettered_take lettered_drop takes_row
      b.height n (shape_of b.width 0 []) b.cells others (atoms_of b m)
      (omega (arith, valid.board.wide)) valid.board.whole (omega (arith, valid.board.high)) valid.board.lettered
      (λ i. ap (λ h. ends (first (shape_of b.width h b.cells)) i others) (sym same) ∙ all_first i)

  all_head : ends head 1 (level_lines b m) ≡ Ok (atoms_of b m)
  all_head =
      let high = valid.board.high in
      let start = shape_of b.width 0 [] in
      let more : b.height ≡ suc (b.height - 1) = omega arith in
      let others = picture_lines (codes "row") b ++ (picture_lines (codes "want") m ++ (closing ∷ [])) in
      ends_by head (rows start (b.height - 1)) 1 (head_line b.width b.height) others (takes_head b.width b.height valid.board.wide valid.board.high)
      ∙ ap (λ e. ends e 2 others) (sym (ap (λ k. on_board k start) more ∙ rows_left (b.height - 1) start))
      ∙ all_board 2

  -- and its lines make a text
  short_lines : All Short (head_line b.width b.height ∷ ((picture_lines (codes "row") b ++ picture_lines (codes "want") m) ++ (closing ∷ [])))
  short_lines =
      let wide = valid.board.wide in
      let high = valid.board.high in
      let board = short_rows (codes "row") (printed_by (codes "row") refl) (omega arith) b.height b.width b.cells wide.1 valid.board.lettered in
      let molecule = short_rows (codes "want") (printed_by (codes "want") refl) (omega arith) m.height m.width m.cells valid.molecule.wide.1 valid.molecule.lettered in
      All-cons Short (head_line b.width b.height) ((picture_lines (codes "row") b ++ picture_lines (codes "want") m) ++ (closing ∷ [])) (short_head b.width b.height (omega arith) (omega arith))
      (All-append Short (picture_lines (codes "row") b ++ picture_lines (codes "want") m) (closing ∷ [])
      (All-append Short (picture_lines (codes "row") b) (picture_lines (codes "want") m) board molecule) (All-cons Short closing [] short_closing (All-nil Short)))

  lines_read : read_level (level_text (atoms_of b m)) ≡ Ok (atoms_of b m)
  lines_read =
      let board = picture_lines (codes "row") b in
      let molecule = picture_lines (codes "want") m in
      let same = ap (λ x. head_line b.width b.height ∷ x) (append_assoc board molecule (closing ∷ [])) in
      ap (λ x. read_level (join_lines x)) (sym same)
      ∙ reading.lines_read grammar (head_line b.width b.height ∷ (board ++ molecule)) closing (atoms_of b m) short_lines
      (omega (arith, length-append board molecule, length_rows (codes "row") b.height b.width b.cells, length_rows (codes "want") m.height m.width m.cells, valid.board.high, valid.molecule.high))
      (ap (ends head 1) same ∙ all_head)

pub reads_exactly : (text : List ℕ) → ReadsExactly text
reads_exactly text = record { only = read_only text; all = λ l valid. lines_read l.board l.molecule valid }

-- a level that is built is read back from its text
pub reads_back : (l : AtomLevel) → read_level (level_text (atoms l)) ≡ Ok (atoms l)
reads_back l = lines_read _ _ (level_valid l)

-- the keyword of a level's text
pub keyword_of_text : (l : Atoms) → Valid l → first_keyword (level_text l) ≡ Some (codes "atomix")
keyword_of_text l valid =
    let w = l.board.width in
    let h = l.board.height in
    let wide = valid.board.wide in
    let high = valid.board.high in
    let rows = picture_lines (codes "row") l.board ++ (picture_lines (codes "want") l.molecule ++ (closing ∷ [])) in
    first_keyword_reads (codes "atomix") atomix_word (32 ∷ (decimal w ++ (32 ∷ decimal h))) rows refl
    (one_line (head_line w h) (short_head w h (omega arith) (omega arith)))
