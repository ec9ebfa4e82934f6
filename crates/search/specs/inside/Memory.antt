-- How the parts of a search lie in the lent memory. Assumes nothing.
use Rattle.std.specs.Prelude.{◌≡◌, ℕ, ◌+◌, ◌*◌, ◌≤◌, true, length}
use Rattle.search.specs.Contents.{Contents, numbers_of}

-- a link is the parent's place and the move, which is below 256
abbrev pub link_of : ℕ → ℕ → ℕ
link_of parent move = 256 * parent + move

module _ {P : Type 0} where
  -- How the parts fit together: this holds of every search, whatever puzzles it was handed.
  pub record PartsFit (c : Contents P) : Type 0 where
    pub keyed : length c.index.keys ≡ length c.open_list.entries
    pub used : length c.open_list.entries ≤ c.open_list.capacity
    pub even : c.index.capacity ≡ c.open_list.capacity
    pub deep : c.open_list.capacity ≤ length c.table
    pub linked : c.open_list.capacity ≤ length c.links
    pub few : c.open_list.capacity ≤ 1048576
    pub whole : numbers_of c ≡ 8 * length c.table → (length c.open_list.numbers ≡ 4 * length c.table) × (length c.index.numbers ≡ 3 * length c.table) × (length c.links ≡ length c.table)
    pub ready : c.opened ≡ true → c.open_list.capacity ≡ length c.table

  -- nothing but the nodes and what they are kept in changes, and no place is given up
  pub record ChangesNodesOnly (old new : Contents P) : Type 0 where
    pub table : length new.table ≡ length old.table
    pub numbers : numbers_of new ≡ numbers_of old
    pub capacity : new.open_list.capacity ≡ old.open_list.capacity
    pub longer : length old.open_list.entries ≤ length new.open_list.entries
    pub opened : new.opened ≡ old.opened
    pub verdict : new.verdict ≡ old.verdict
    pub steps : new.steps ≡ old.steps
