-- A text is read as a level exactly where it is that level written out. Assumes nothing.
use Rattle.std.proofs.Common.{◌≡◌, ℕ, zero, suc, ◌+◌, ◌-◌, ◌*◌, ◌^◌, ◌<◌, ◌≤◌, Bool, true, false, cond, eqb, List, [], ◌∷◌, ◌++◌, length, take, drop, Some, Ok, Err, codes, decimal, Result, sym, refl, ap, ◌∙◌, subst, append_assoc, append-nil, mul-suc, arith}
use Rattle.std.specs.List.{All}
use Rattle.std.proofs.lemmas.List.Elements.{All-nil, All-cons, All-append, All-take, All-drop, All-weaker}
use Rattle.std.proofs.lemmas.List.{length-append, length-take, length-take-le, length-drop, take-append-drop, take_at, take_all, drop_at}
use Rattle.std.proofs.lemmas.Bool.{cond-true, cond-false, ne_eqb}
use Rattle.refusals.specs.declared.Refusal.{Refusal}
use Rattle.refusals.specs.declared.Fault.TheVariants.{TileNumbers}
use Rattle.text.specs.Lines.{join_lines}
use Rattle.text.specs.Forms.{closing, first_keyword}
use Rattle.text.proofs.BracketLaws.{first_keyword_reads}
use Rattle.text.specs.LevelReading.{at_line}
use Rattle.text.proofs.LevelReading as reading
use Rattle.tiles.specs.Board.{position_of, first_cells}
use Rattle.tiles.specs.declared.level.TileLevel.{TileLevel}
use Rattle.tiles.specs.Level.{Tiles, tiles_of, tiles, Valid}
use Rattle.tiles.proofs.Board.{Small, few_cells, length_first_cells, position_of_lt, position_of_first_cells, first_cells_position_of}
use Rattle.tiles.specs.LevelText.Reading.{Expect, head, rows, last, nothing, each_once, level, grammar, read_level, after_tiles, ReadsExactly}
use Rattle.tiles.specs.LevelText.Writing.{row_line, row_lines, level_text}
use Rattle.text.proofs.Cases.{clash}
use Rattle.tiles.proofs.LevelText.Forms.{Sized, head_line, tiles_word, head_taken, RowTaken, row_taken, close_taken, takes_head, takes_row, takes_close, short_head, short_row}
use Rattle.tiles.proofs.LevelText.Judging.{valid_decides, all_below}
use Rattle.text.proofs.Texts.{Short, one_line, short_closing}

-- the level that these lines end
abbrev ends : Expect → ℕ → List (List ℕ) → Result Tiles Refusal
ends = reading.ends grammar

ends_by : (e f : Expect) (n : ℕ) (l : List ℕ) (ls : List (List ℕ)) → grammar.after e l ≡ Ok f → ends e n (l ∷ ls) ≡ ends f (n + 1) ls
ends_by = reading.ends_by grammar

first_taken : (e : Expect) (n : ℕ) (l : List ℕ) (ls : List (List ℕ)) (t : Tiles) → ends e n (l ∷ ls) ≡ Ok t → reading.FirstTaken grammar e n l ls t
first_taken = reading.first_taken grammar

-- Only what is written out is read.

-- the level that the tiles make
record Makes (w h : ℕ) (ts : List ℕ) (t : Tiles) : Type 0 where
  once : each_once (w * h) ts ≡ true
  is : t ≡ level w h ts

only_nothing : (w h n : ℕ) (ts : List ℕ) (ls : List (List ℕ)) (t : Tiles) → ends (nothing w h ts) n ls ≡ Ok t → (ls ≡ []) × Makes w h ts t
only_nothing w h n ts [] t is = (refl, by (each_once (w * h) ts) refl is)
  where
    by : (b : Bool) → each_once (w * h) ts ≡ b → at_line (n - 1) (cond b (Ok (level w h ts)) (Err TileNumbers)) ≡ Ok t → Makes w h ts t
    by true p q = let same : t ≡ level w h ts = cc in record { once = p; is = same }
    by false p q = absurd (clash _ _ q)
only_nothing w h n ts (l ∷ ls) t is = absurd (clash _ _ (first_taken (nothing w h ts) n l ls t is).first)

only_last : (w h n : ℕ) (ts : List ℕ) (ls : List (List ℕ)) (t : Tiles) → ends (last w h ts) n ls ≡ Ok t → (ls ≡ closing ∷ []) × Makes w h ts t
only_last w h n ts [] t is = absurd (clash _ _ is)
only_last w h n ts (l ∷ ls) t is =
    let first = first_taken (last w h ts) n l ls t is in
    let close = close_taken w h ts l first.state first.first in
    let rest = only_nothing w h (n + 1) ts ls t (ap (λ f. ends f (n + 1) ls) (sym close.1) ∙ first.rest) in
    (ap (λ m. m ∷ ls) close.0 ∙ ap (λ ms. closing ∷ ms) rest.0, rest.1)

-- the rows that are left, and the tiles on them
record Rows (w h left : ℕ) (ts : List ℕ) (ls : List (List ℕ)) (t : Tiles) : Type 0 where
  ns : List ℕ
  long : length ns ≡ w * left
  below : All (λ k. k < w * h) ns
  lines : ls ≡ row_lines left w ns ++ (closing ∷ [])
  makes : Makes w h (ts ++ ns) t

not_last : (left w h : ℕ) (us : List ℕ) → after_tiles w h (suc (suc left)) us ≡ rows w h (suc left) us
not_last left w h us =
    let less : suc (suc left) - 1 ≡ suc left = omega arith in
    cond-false (eqb (suc (suc left)) 1) _ _ (ne_eqb _ 1 (λ e. omega arith)) ∙ ap (λ k. rows w h k us) less

-- a row before others
row_first : (left w : ℕ) (ns ms : List ℕ) → length ns ≡ w → row_lines (suc left) w (ns ++ ms) ≡ row_line ns ∷ row_lines left w ms
row_first left w ns ms long =
    ap (λ x. row_line x ∷ row_lines left w (drop w (ns ++ ms))) (take_at ns ms w long)
    ∙ ap (λ x. row_line ns ∷ row_lines left w x) (drop_at ns ms w long)

rows_more : (w h left : ℕ) (ts l : List ℕ) (ls : List (List ℕ)) (t : Tiles) (f : Expect) → (row : RowTaken w h (suc left) ts l f) → Rows w h left (ts ++ row.ns) ls t → Rows w h (suc left) ts (l ∷ ls) t
rows_more w h left ts l ls t f row rest =
    let ns = row.ns in
    record {
      ns = ns ++ rest.ns;
      long = length-append ns rest.ns ∙ omega (arith, row.long, rest.long, mul-suc w left);
      below = All-append (λ k. k < w * h) ns rest.ns row.below rest.below;
      lines =
          ap (λ m. m ∷ ls) row.line
          ∙ ap (λ ms. row_line ns ∷ ms) rest.lines
          ∙ ap (λ ms. ms ++ (closing ∷ [])) (sym (row_first left w ns rest.ns row.long));
      makes = subst (λ us. Makes w h us t) (append_assoc ts ns rest.ns) rest.makes;
    }

only_rows : (left w h n : ℕ) (ts : List ℕ) (ls : List (List ℕ)) (t : Tiles) → ends (rows w h (suc left) ts) n ls ≡ Ok t → Rows w h (suc left) ts ls t
only_rows left w h n ts [] t is = absurd (clash _ _ is)
only_rows zero w h n ts (l ∷ ls) t is =
    let first = first_taken (rows w h 1 ts) n l ls t is in
    let row = row_taken w h ts l first.state 1 first.first in
    let us = ts ++ row.ns in
    let rest = only_last w h (n + 1) us ls t (ap (λ f. ends f (n + 1) ls) (sym row.next) ∙ first.rest) in
    rows_more w h 0 ts l ls t first.state row
    (record { ns = []; long = omega arith; below = All-nil (λ k. k < w * h); lines = rest.0; makes = subst (λ x. Makes w h x t) (sym (append-nil us)) rest.1 })
only_rows (suc left) w h n ts (l ∷ ls) t is =
    let first = first_taken (rows w h (suc (suc left)) ts) n l ls t is in
    let row = row_taken w h ts l first.state (suc (suc left)) first.first in
    let us = ts ++ row.ns in
    let rest = only_rows left w h (n + 1) us ls t (ap (λ f. ends f (n + 1) ls) (sym (row.next ∙ not_last left w h us)) ∙ first.rest) in
    rows_more w h (suc left) ts l ls t first.state row rest

-- the lines of a level with these tiles
abbrev level_lines : ℕ → ℕ → List ℕ → List (List ℕ)
level_lines w h us = head_line w h ∷ (row_lines h w us ++ (closing ∷ []))

-- tiles that were read
record Tiled (w h : ℕ) (us : List ℕ) : Type 0 where
  sized : Sized w h
  long : length us ≡ w * h
  below : All (λ k. k < w * h) us
  once : each_once (w * h) us ≡ true

record Read (ls : List (List ℕ)) (t : Tiles) : Type 0 where
  w : ℕ
  h : ℕ
  us : List ℕ
  tiled : Tiled w h us
  lines : ls ≡ level_lines w h us
  is : t ≡ level w h us

only_head : (n : ℕ) (ls : List (List ℕ)) (t : Tiles) → ends head n ls ≡ Ok t → Read ls t
only_head n [] t is = absurd (clash _ _ is)
only_head n (l ∷ ls) t is =
    let first = first_taken head n l ls t is in
    let start = head_taken l first.state first.first in
    let w = start.w in
    let h = start.h in
    let high = start.sized.high in
    let some : h ≡ suc (h - 1) = omega arith in
    let rest = only_rows (h - 1) w h (n + 1) [] ls t (ap (λ k. ends (rows w h k []) (n + 1) ls) (sym some) ∙ ap (λ f. ends f (n + 1) ls) (sym start.next) ∙ first.rest) in
    record {
      w = w;
      h = h;
      us = rest.ns;
      tiled = record {
        sized = start.sized;
        long = rest.long ∙ ap (λ k. w * k) (sym some);
        below = rest.below;
        once = rest.makes.once;
      };
      lines =
          ap (λ m. m ∷ ls) start.line
          ∙ ap (λ ms. head_line w h ∷ ms) rest.lines
          ∙ ap (λ k. head_line w h ∷ (row_lines k w rest.ns ++ (closing ∷ []))) (sym some);
      is = rest.makes.is;
    }

written : (w h : ℕ) (us : List ℕ) → Tiled w h us → Valid (level w h us) × (join_lines (level_lines w h us) ≡ level_text (level w h us))
written w h us tiled =
    let few = few_cells w h tiled.sized.wide.1 tiled.sized.high.1 in
    let small = All-weaker (λ k. k < w * h) Small (λ k below. omega arith) us tiled.below in
    let back : first_cells (w * h) (position_of us) ≡ us = ap (λ k. first_cells k (position_of us)) (sym tiled.long) ∙ first_cells_position_of us small in
    let fits : position_of us < 16 ^ (w * h) = omega (arith, position_of_lt us small, ap (λ k. 16 ^ k) tiled.long) in (
      (valid_decides w h (position_of us) tiled.sized.wide tiled.sized.high fits).0 (ap (each_once (w * h)) back ∙ tiled.once),
      ap (λ x. join_lines (level_lines w h x)) (sym back),
    )

read_only : (t : List ℕ) (l : Tiles) → read_level t ≡ Ok l → Valid l × (t ≡ level_text l)
read_only t l is =
    let cut = reading.lines_of grammar t l is in
    let read = only_head 1 cut.lines l cut.read in
    let done = written read.w read.h read.us read.tiled in (
      subst Valid (sym read.is) done.0,
      cut.whole ∙ ap join_lines read.lines ∙ done.1 ∙ ap level_text (sym read.is),
    )

-- What is written out is read.

module _ (w h : ℕ) (sized : Sized w h) where
  few : w * h ≤ 16
  few = few_cells w h sized.wide.1 sized.high.1

  some : 0 < w
  some = omega (arith, sized.wide)

  all_last : (n : ℕ) (ts : List ℕ) → each_once (w * h) ts ≡ true → ends (last w h ts) n (closing ∷ []) ≡ Ok (level w h ts)
  all_last n ts once = ends_by (last w h ts) (nothing w h ts) n closing [] (takes_close w h ts) ∙ ap (at_line (n + 1 - 1)) (cond-true (each_once (w * h) ts) _ _ once)

  all_rows : (left n : ℕ) (ts ns : List ℕ) → length ns ≡ w * suc left → All (λ k. k < w * h) ns → each_once (w * h) (ts ++ ns) ≡ true → ends (rows w h (suc left) ts) n (row_lines (suc left) w ns ++ (closing ∷ [])) ≡ Ok (level w h (ts ++ ns))
  all_rows zero n ts ns long below once =
      let size : length ns ≡ w = omega (arith, mul-suc w 0) in
      let whole : take w ns ≡ ns = take_all w ns (omega arith) in
      ap (λ x. ends (rows w h 1 ts) n (row_line x ∷ (closing ∷ []))) whole
      ∙ ends_by (rows w h 1 ts) (last w h (ts ++ ns)) n (row_line ns) (closing ∷ []) (takes_row w h 1 ts ns few some size below)
      ∙ all_last (n + 1) (ts ++ ns) once
  all_rows (suc left) n ts ns long below once =
      let front = take w ns in
      let back = drop w ns in
      let more = mul-suc w (suc left) in
      let size : length front ≡ w = length-take-le w ns (omega arith) in
      let left_over : length back ≡ w * suc left = length-drop w ns ∙ omega arith in
      let same : (ts ++ front) ++ back ≡ ts ++ ns = append_assoc ts front back ∙ ap (λ x. ts ++ x) (take-append-drop w ns) in
      ends_by (rows w h (suc (suc left)) ts) (rows w h (suc left) (ts ++ front)) n (row_line front) (row_lines (suc left) w back ++ (closing ∷ []))
      (takes_row w h (suc (suc left)) ts front few some size (All-take (λ k. k < w * h) w ns below) ∙ ap Ok (not_last left w h (ts ++ front)))
      ∙ all_rows left (n + 1) (ts ++ front) back left_over (All-drop (λ k. k < w * h) w ns below) (ap (each_once (w * h)) same ∙ once)
      ∙ ap (λ x. Ok (level w h x)) same

  all_head : (us : List ℕ) → Tiled w h us → ends head 1 (level_lines w h us) ≡ Ok (level w h us)
  all_head us tiled =
      let high = sized.high in
      let more : h ≡ suc (h - 1) = omega arith in
      ends_by head (rows w h h []) 1 (head_line w h) (row_lines h w us ++ (closing ∷ [])) (takes_head w h sized)
      ∙ ap (λ k. ends (rows w h k []) 2 (row_lines k w us ++ (closing ∷ []))) more
      ∙ all_rows (h - 1) 2 [] us (tiled.long ∙ ap (λ k. w * k) more) tiled.below tiled.once

  -- and they make a text
  short_rows : (left : ℕ) (ns : List ℕ) → All (λ k. k < w * h) ns → All Short (row_lines left w ns)
  short_rows zero ns below = All-nil Short
  short_rows (suc left) ns below =
      All-cons Short (row_line (take w ns)) (row_lines left w (drop w ns))
      (short_row (w * h) (take w ns) few (omega (arith, length-take w ns, sized.wide)) (All-take (λ k. k < w * h) w ns below))
      (short_rows left (drop w ns) (All-drop (λ k. k < w * h) w ns below))

  short_lines : (us : List ℕ) → Tiled w h us → All Short (level_lines w h us)
  short_lines us tiled =
      let wide = sized.wide in
      let high = sized.high in
      All-cons Short (head_line w h) (row_lines h w us ++ (closing ∷ [])) (short_head w h (omega arith) (omega arith))
      (All-append Short (row_lines h w us) (closing ∷ []) (short_rows h us tiled.below) (All-cons Short closing [] short_closing (All-nil Short)))

  length_rows : (left : ℕ) (ns : List ℕ) → length (row_lines left w ns) ≡ left
  length_rows zero ns = refl
  length_rows (suc left) ns = ap suc (length_rows left (drop w ns))

  lines_read : (us : List ℕ) → Tiled w h us → read_level (join_lines (level_lines w h us)) ≡ Ok (level w h us)
  lines_read us tiled =
      let few_lines : length (head_line w h ∷ row_lines h w us) ≤ 100 = omega (arith, length_rows h us, sized.high) in
      reading.lines_read grammar (head_line w h ∷ row_lines h w us) closing _ (short_lines us tiled) few_lines (all_head us tiled)

pub read_all : (l : Tiles) → Valid l → read_level (level_text l) ≡ Ok l
read_all l valid =
    let w = l.width in
    let h = l.height in
    let us = first_cells (w * h) l.start in
    let sized : Sized w h = record { wide = valid.wide; high = valid.high } in
    let fits = valid.numbered.1 in
    let tiled : Tiled w h us = record {
      sized = sized;
      long = length_first_cells (w * h) l.start;
      below = all_below (w * h) l.start valid.numbered;
      once = (valid_decides w h l.start valid.wide valid.high fits).1 valid;
    } in
    lines_read w h sized us tiled ∙ ap (λ p. Ok (tiles_of w h p)) (position_of_first_cells (w * h) l.start fits)

pub reads_exactly : (text : List ℕ) → ReadsExactly text
reads_exactly text = record { only = read_only text; all = read_all }

-- a level that is built is read back from its text
pub reads_back : (l : TileLevel) → read_level (level_text (tiles l)) ≡ Ok (tiles l)
reads_back l = read_all (tiles l) (record { wide = l.wide; high = l.high; numbered = l.numbered })

-- the keyword of a level's text
pub keyword_of_text : (l : Tiles) → Valid l → first_keyword (level_text l) ≡ Some (codes "tiles")
keyword_of_text l valid =
    let wide = valid.wide in
    let high = valid.high in
    let rows = row_lines l.height l.width (first_cells (l.width * l.height) l.start) ++ (closing ∷ []) in
    first_keyword_reads (codes "tiles") tiles_word (32 ∷ (decimal l.width ++ (32 ∷ decimal l.height))) rows refl
    (one_line (head_line l.width l.height) (short_head l.width l.height (omega arith) (omega arith)))
