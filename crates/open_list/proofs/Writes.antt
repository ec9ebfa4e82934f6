-- What a write of one number changes. Assumes nothing.
use Rattle.std.proofs.Common.{◌≡◌, ◌≢◌, ℕ, ◌+◌, ◌*◌, ◌<◌, ◌≤◌, List, length, set, get_or, sym, subst, ◌∙◌, arith}
use Rattle.std.proofs.lemmas.List.{length-set, get_or-set_same, get_or-set_other}
use Rattle.open_list.specs.inside.Layout.{depth_of, floor_of, slot_of, place_in}
use Rattle.open_list.specs.inside.Sifting.{Puts}

-- the numbers of a place were written, and no others
pub record Written (place capacity to_depth to_floor to_slot : ℕ) (old new : List ℕ) : Type 0 where
  pub long : length new ≡ length old
  pub heap : (j : ℕ) → place_in new capacity j ≡ place_in old capacity j
  pub depth : depth_of new place ≡ to_depth
  pub floor : floor_of new place ≡ to_floor
  pub slot : slot_of new place ≡ to_slot
  pub depths : (i : ℕ) → i ≢ place → depth_of new i ≡ depth_of old i
  pub floors : (i : ℕ) → i ≢ place → floor_of new i ≡ floor_of old i
  pub slots : (i : ℕ) → i ≢ place → slot_of new i ≡ slot_of old i

module _ (numbers : List ℕ) (at value : ℕ) where
  -- a number elsewhere stands
  elsewhere : (other : ℕ) → other ≢ at → get_or (set numbers at value) other 0 ≡ get_or numbers other 0
  elsewhere other ne = get_or-set_other numbers at other value 0 ne

module _ (capacity slot place : ℕ) (old : List ℕ) (room : 4 * capacity ≤ length old) (slot_in : slot < capacity) (place_small : place < capacity) where
  abbrev in_slot : List ℕ
  in_slot = set old (3 * capacity + slot) place

  pub put_done : Puts capacity slot place old (set (set old (3 * capacity + slot) place) (3 * place + 2) slot)
  unfolding depth_of floor_of slot_of place_in
  put_done = record {
    long = length-set in_slot (3 * place + 2) slot ∙ length-set old (3 * capacity + slot) place;
    there = elsewhere in_slot (3 * place + 2) slot (3 * capacity + slot) (λ q. omega arith) ∙ get_or-set_same old (3 * capacity + slot) place 0 (omega arith);
    slots = λ j ne. elsewhere in_slot (3 * place + 2) slot (3 * capacity + j) (λ q. omega arith) ∙ elsewhere old (3 * capacity + slot) place (3 * capacity + j) (λ q. ne (omega arith));
    linked = get_or-set_same in_slot (3 * place + 2) slot 0 (omega (arith, length-set old (3 * capacity + slot) place));
    places = λ i h ne. elsewhere in_slot (3 * place + 2) slot (3 * i + 2) (λ q. ne (omega arith)) ∙ elsewhere old (3 * capacity + slot) place (3 * i + 2) (λ q. omega arith);
    depths = λ i h. elsewhere in_slot (3 * place + 2) slot (3 * i) (λ q. omega arith) ∙ elsewhere old (3 * capacity + slot) place (3 * i) (λ q. omega arith);
    floors = λ i h. elsewhere in_slot (3 * place + 2) slot (3 * i + 1) (λ q. omega arith) ∙ elsewhere old (3 * capacity + slot) place (3 * i + 1) (λ q. omega arith);
  }

module _ (capacity place : ℕ) (old : List ℕ) (room : 4 * capacity ≤ length old) (place_small : place < capacity) where
  depth_set : (depth : ℕ) → Written place capacity depth (floor_of old place) (slot_of old place) old (set old (3 * place) depth)
  unfolding depth_of floor_of slot_of place_in
  depth_set depth =
      let stands : (k : ℕ) → k ≢ 3 * place → get_or (set old (3 * place) depth) k 0 ≡ get_or old k 0 = elsewhere old (3 * place) depth in
      record {
        long = length-set old (3 * place) depth;
        heap = λ j. stands (3 * capacity + j) (λ q. omega arith);
        depth = get_or-set_same old (3 * place) depth 0 (omega arith);
        floor = stands (3 * place + 1) (λ q. omega arith);
        slot = stands (3 * place + 2) (λ q. omega arith);
        depths = λ i ne. stands (3 * i) (λ q. ne (omega arith));
        floors = λ i ne. stands (3 * i + 1) (λ q. omega arith);
        slots = λ i ne. stands (3 * i + 2) (λ q. omega arith);
      }

  floor_set : (floor : ℕ) → Written place capacity (depth_of old place) floor (slot_of old place) old (set old (3 * place + 1) floor)
  unfolding depth_of floor_of slot_of place_in
  floor_set floor =
      let stands : (k : ℕ) → k ≢ 3 * place + 1 → get_or (set old (3 * place + 1) floor) k 0 ≡ get_or old k 0 = elsewhere old (3 * place + 1) floor in
      record {
        long = length-set old (3 * place + 1) floor;
        heap = λ j. stands (3 * capacity + j) (λ q. omega arith);
        depth = stands (3 * place) (λ q. omega arith);
        floor = get_or-set_same old (3 * place + 1) floor 0 (omega arith);
        slot = stands (3 * place + 2) (λ q. omega arith);
        depths = λ i ne. stands (3 * i) (λ q. omega arith);
        floors = λ i ne. stands (3 * i + 1) (λ q. ne (omega arith));
        slots = λ i ne. stands (3 * i + 2) (λ q. omega arith);
      }

  slot_set : (slot : ℕ) → Written place capacity (depth_of old place) (floor_of old place) slot old (set old (3 * place + 2) slot)
  unfolding depth_of floor_of slot_of place_in
  slot_set slot =
      let stands : (k : ℕ) → k ≢ 3 * place + 2 → get_or (set old (3 * place + 2) slot) k 0 ≡ get_or old k 0 = elsewhere old (3 * place + 2) slot in
      record {
        long = length-set old (3 * place + 2) slot;
        heap = λ j. stands (3 * capacity + j) (λ q. omega arith);
        depth = stands (3 * place) (λ q. omega arith);
        floor = stands (3 * place + 1) (λ q. omega arith);
        slot = get_or-set_same old (3 * place + 2) slot 0 (omega arith);
        depths = λ i ne. stands (3 * i) (λ q. omega arith);
        floors = λ i ne. stands (3 * i + 1) (λ q. omega arith);
        slots = λ i ne. stands (3 * i + 2) (λ q. ne (omega arith));
      }

  pub depth_written : (depth : ℕ) (new : List ℕ) → new ≡ set old (3 * place) depth → Written place capacity depth (floor_of old place) (slot_of old place) old new
  depth_written depth new is = subst (Written place capacity depth (floor_of old place) (slot_of old place) old) (sym is) (depth_set depth)

  pub floor_written : (floor : ℕ) (new : List ℕ) → new ≡ set old (3 * place + 1) floor → Written place capacity (depth_of old place) floor (slot_of old place) old new
  floor_written floor new is = subst (Written place capacity (depth_of old place) floor (slot_of old place) old) (sym is) (floor_set floor)

  pub slot_written : (slot : ℕ) (new : List ℕ) → new ≡ set old (3 * place + 2) slot → Written place capacity (depth_of old place) (floor_of old place) slot old new
  slot_written slot new is = subst (Written place capacity (depth_of old place) (floor_of old place) slot old) (sym is) (slot_set slot)

-- a depth and a lower bound
pub both_written : (place capacity depth floor slot other : ℕ) (old mid new : List ℕ) → Written place capacity depth other slot old mid → Written place capacity (depth_of mid place) floor (slot_of mid place) mid new → Written place capacity depth floor slot old new
both_written place capacity depth floor slot other old mid new one two = record {
  long = two.long ∙ one.long;
  heap = λ j. two.heap j ∙ one.heap j;
  depth = two.depth ∙ one.depth;
  floor = two.floor;
  slot = two.slot ∙ one.slot;
  depths = λ i ne. two.depths i ne ∙ one.depths i ne;
  floors = λ i ne. two.floors i ne ∙ one.floors i ne;
  slots = λ i ne. two.slots i ne ∙ one.slots i ne;
}
