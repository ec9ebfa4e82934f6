-- Walks over a map of walls where the partners are marked are the ways that an atom goes. Assumes nothing.
use Rattle.std.proofs.Common.{◌≡◌, ◌↔◌, ℕ, ◌*◌, ◌<◌, ◌≤◌, Bool, true, false, not, ◌||◌, eqb, List, [], ◌∷◌, ◌++◌, length, get_or, set, refl, sym, ap, ◌∙◌, ⊎_elim, mul-le-mul, arith}
use Rattle.std.specs.List.{list_any, Contains}
use Rattle.std.proofs.lemmas.List.{append-nil, length-set, get_or-set_same, get_or-set_other, get_or_default}
use Rattle.std.proofs.lemmas.Bool.{cases_eq, eq-eqb, ne_eqb}
use Rattle.pictures.specs.declared.cell.Cell.TheVariants.{Wall, Free}
use Rattle.pictures.specs.Pictures.{Shape}
use Rattle.molecules.specs.Atoms.{is_wall}
use Rattle.pattern_databases.specs.PartMoves.{partners, Stands, is_closed, Goes}
use Rattle.pattern_databases.specs.inside.Walking.{is_marked, ShowsWalls, marked, Walks, LandsExactly}
use Rattle.pattern_databases.proofs.Passing.{passes_same}

-- one cell more is marked
marked_set : (map : List ℕ) (cell k : ℕ) → k < length map
    → is_marked (set map cell 1) k ≡ (eqb k cell || is_marked map k)
marked_set map cell k there =
    ⊎_elim
    (λ same.
    ap (is_marked (set map cell 1)) same
    ∙ ap (λ n. not (eqb n 0)) (get_or-set_same map cell 1 0 (omega arith))
    ∙ sym (ap (λ e. e || is_marked map k) (eq-eqb k cell same)))
    (λ apart.
    ap (λ n. not (eqb n 0)) (get_or-set_other map cell k 1 0 apart)
    ∙ sym (ap (λ e. e || is_marked map k) (ne_eqb k cell apart)))
    (cases_eq k cell)

or_swap : (x y z : Bool) → (y || (x || z)) ≡ ((x || y) || z)
or_swap true true z = refl
or_swap true false z = refl
or_swap false y z = refl

-- just these cells are marked besides those of the map
marked_any : (cells map : List ℕ) (k : ℕ) → k < length map
    → is_marked (marked map cells) k ≡ (list_any (λ c. eqb k c) cells || is_marked map k)
marked_any [] map k there = refl
marked_any (cell ∷ cells) map k there =
    marked_any cells (set map cell 1) k (omega (arith, length-set map cell 1))
    ∙ ap (λ m. list_any (λ c. eqb k c) cells || m) (marked_set map cell k there)
    ∙ or_swap (eqb k cell) (list_any (λ c. eqb k c) cells) (is_marked map k)

-- The order in which a walk marks them: those before the atom, one at a time, and then those after it.

-- a cell of those before it
pub mark_one : (map m before others after : List ℕ) (cell : ℕ) → before ≡ cell ∷ others → m ≡ set map cell 1
    → marked m (others ++ after) ≡ marked map (before ++ after)
mark_one map m before others after cell front is =
    ap (λ n. marked n (others ++ after)) is ∙ sym (ap (λ cells. marked map (cells ++ after)) front)

-- those after it take the place of those before it, of which none is left
pub mark_after : (map before after : List ℕ) → length before ≡ 0
    → marked map (after ++ []) ≡ marked map (before ++ after)
mark_after map [] after none = ap (marked map) (append-nil after)
mark_after map (cell ∷ cells) after none = absurd (omega arith)

-- none is left
pub mark_none : (map before after : List ℕ) → length before ≡ 0 → length after ≡ 0 → map ≡ marked map (before ++ after)
mark_none map [] [] none no_more = refl
mark_none map [] (cell ∷ cells) none no_more = absurd (omega arith)
mark_none map (cell ∷ cells) after none no_more = absurd (omega arith)

-- a board at most 16 cells wide and high has at most 256 cells
pub cells_few : (w h : ℕ) → w ≤ 16 → h ≤ 16 → w * h ≤ 256
cells_few w h wide high = mul-le-mul wide high

module _
    (b : Shape) (map : List ℕ) (wide : b.width ≤ 16) (high : b.height ≤ 16)
    (sized : length b.cells ≡ b.width * b.height) (shows : ShowsWalls b map) where
  -- with the partners marked, the cells closed to the atom are marked
  closed_marked : (cells : List ℕ) (atom k : ℕ) → k < b.width * b.height
      → is_marked (marked map (partners cells atom)) k ≡ is_closed b cells atom k
  closed_marked cells atom k on =
      let few = cells_few b.width b.height wide high in
      marked_any (partners cells atom) map k (omega (arith, shows.long))
      ∙ ap (λ m. list_any (λ c. eqb k c) (partners cells atom) || m)
      (shows.shows k (omega arith) ∙ ap is_wall (get_or_default b.cells k Wall Free (omega arith)))

  -- so the atom goes where one walks, and the other way round
  walks_go : (cells : List ℕ) (atom to : ℕ)
      → Walks b.width b.height (marked map (partners cells atom)) (get_or cells atom 0) to → Goes b cells atom to
  walks_go cells atom to s = record {
    direction = s.direction;
    passed = s.passed;
    some = s.some;
    way = passes_same _ _ _ _ _ (closed_marked cells atom) _ _ _ s.way;
  }

  goes_walk : (cells : List ℕ) (atom to : ℕ) → Goes b cells atom to
      → Walks b.width b.height (marked map (partners cells atom)) (get_or cells atom 0) to
  goes_walk cells atom to g = record {
    direction = g.direction;
    passed = g.passed;
    some = g.some;
    way = passes_same _ _ _ _ _ (λ k on. sym (closed_marked cells atom k on)) _ _ _ g.way;
  }

-- the landings are the cells that the atom goes to
pub lands_goes : (b : Shape) (map cells : List ℕ) (atom : ℕ) (ls : List ℕ)
    → b.width ≤ 16 → b.height ≤ 16 → length b.cells ≡ b.width * b.height
    → ShowsWalls b map → Stands b (length cells) cells → atom < length cells
    → LandsExactly b.width b.height map cells atom ls
    → (to : ℕ) → Contains ls to ↔ Goes b cells atom to
lands_goes b map cells atom ls wide high sized shows stands there exactly to = (
  λ lands. walks_go b map wide high sized shows cells atom to ((exactly to).0 lands),
  λ g. (exactly to).1 (goes_walk b map wide high sized shows cells atom to g),
)
