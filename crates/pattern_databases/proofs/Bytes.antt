-- The byte of a placement, and the byte after one of its atoms went. Assumes nothing.
use Rattle.std.proofs.Common.{◌≡◌, ◌↔◌, ℕ, ◌+◌, ◌-◌, ◌*◌, ◌^◌, ◌<◌, ◌≤◌, List, length, get_or, set, sym, ap, ◌∙◌, subst, arith}
use Rattle.std.specs.List.{Contains}
use Rattle.std.proofs.lemmas.List.{length-set}
use Rattle.grid.specs.declared.Grid.{Grid}
use Rattle.pictures.specs.Pictures.{shape}
use Rattle.pictures.proofs.Shapes.{wide_at_most, high_at_most, length_cells}
use Rattle.atoms.specs.declared.level.AtomLevel.{AtomLevel}
use Rattle.atoms.specs.Level.{Atoms}
use Rattle.pattern_databases.specs.Floor.{free_count, free_number}
use Rattle.pattern_databases.specs.PartMoves.{Meet, Stands, Goes}
use Rattle.pattern_databases.specs.Layout.{placement_number}
use Rattle.pattern_databases.specs.inside.Walking.{ShowsWalls, LandsExactly}
use Rattle.pattern_databases.specs.inside.Blocks.{IsPart, ByteFor}
use Rattle.pattern_databases.proofs.Placements.{number_below}
use Rattle.pattern_databases.proofs.Moves.{move_of, after_stands}
use Rattle.pattern_databases.proofs.Walking.{lands_goes}
use Rattle.pattern_databases.proofs.Shares.{weight, share, share_within, number_moved, fewer_placements}

-- the landings of an atom are where it goes
pub landings_go : (level : AtomLevel) (grid : Grid) → grid ≡ level.board.grid → (map cells : List ℕ) (atom : ℕ)
    (landings : List ℕ) → ShowsWalls (shape level.board) map → Stands (shape level.board) (length cells) cells
    → atom < length cells → LandsExactly grid.width grid.height map cells atom landings
    → (to : ℕ) → Contains landings to ↔ Goes (shape level.board) cells atom to
landings_go level grid same map cells atom landings shows stands there exactly =
    let b = level.board in
    lands_goes (shape b) map cells atom landings (wide_at_most b) (high_at_most b) (length_cells b) shows stands there
    (subst (λ (g : Grid). LandsExactly g.width g.height map cells atom landings) same exactly)

module _ {l : Atoms} {part entries cells : List ℕ} {number : ℕ} (byte : ByteFor l part entries cells number) where
  -- all atoms of the placement stand on free cells
  pub all_stand : Stands l.board (length cells) cells
  all_stand = subst (λ size. Stands l.board size cells) (sym byte.stands.long) byte.stands

  -- the byte is one of the block's
  pub byte_there : number < length entries
  byte_there =
      let same = ap (λ size. free_count l.board ^ size) byte.stands.long in
      omega (arith, number_below l.board cells all_stand, same, byte.whole, byte.numbered)

  module _ (atom : ℕ) (there : atom < length part) where
    -- the atom is one of the placement's
    pub atom_there : atom < length cells
    atom_there = omega (arith, byte.stands.long)

    -- one step of it counts few numbers
    pub weight_small : IsPart l part → weight l.board cells atom ≤ 4294967296
    weight_small is_part =
        let free = byte.stands.free atom there in
        let fewer : length cells - 1 - atom ≤ length part = omega (arith, byte.stands.long) in
        omega (arith, is_part.small, fewer_placements l.board (get_or cells atom 0) free _ _ fewer)

    -- what it adds is a part of the number
    pub share_there : share l.board cells atom ≤ number
    share_there = omega (arith, share_within l.board cells atom atom_there, byte.numbered)

    module _ (sized : length l.board.cells ≡ l.board.width * l.board.height) (apart : Meet cells → ⊥)
        {to : ℕ} (goes : Goes l.board cells atom to) where
      -- the number of the placement after the atom went
      pub moved_number : number - share l.board cells atom + free_number l.board to * weight l.board cells atom
          ≡ placement_number l.board (set cells atom to)
      moved_number =
          ap (λ n. n - share l.board cells atom + free_number l.board to * weight l.board cells atom)
          (sym byte.numbered)
          ∙ number_moved l.board cells atom to atom_there

      -- its byte is one of the block's too
      pub moved_there : placement_number l.board (set cells atom to) < length entries
      moved_there =
          let move = move_of l.board all_stand apart atom_there goes in
          let same = ap (λ size. free_count l.board ^ size) (length-set cells atom to ∙ byte.stands.long) in
          omega (arith, number_below l.board (set cells atom to) (after_stands l.board sized move), same, byte.whole)
