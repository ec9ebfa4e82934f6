-- What a layout tells of its level. Assumes nothing.
use Rattle.std.proofs.Common.{◌≡◌, ℕ, ◌+◌, ◌<◌, ◌≤◌, List, length, get_or, sym, ap, ◌∙◌, subst, arith}
use Rattle.atoms.specs.Level.{Atoms, atoms, count}
use Rattle.pattern_databases.specs.Floor.{free_count}
use Rattle.pattern_databases.specs.Parts.{part_of, part_count}
use Rattle.pattern_databases.specs.Layout.{places, first_blocks, block_length, place_length}
use Rattle.pattern_databases.specs.inside.Blocks.{IsPart}
use Rattle.pattern_databases.specs.declared.layout.Layout.{Layout}
use Rattle.pattern_databases.proofs.Sizes as sizes
use Rattle.pattern_databases.proofs.BookBlocks.{Next}

module _ (s : Layout) where
  -- its level
  abbrev pub level_of : Atoms
  level_of = atoms s.level.now

  free_few : free_count level_of.board ≤ 256
  free_few = omega (arith, s.few, s.counted)

  atoms_few : count level_of ≤ 16
  atoms_few = omega (arith, s.parts.few, s.parted)

  pub part_count_is : part_count s.parts.count ≡ part_count (count level_of)
  part_count_is = ap part_count s.parted

  pub part_is : (j : ℕ) → part_of s.parts.count j ≡ part_of (count level_of) j
  part_is j = ap (λ n. part_of n j) s.parted

  -- a part of the layout is one of the level
  pub is_part : (j : ℕ) → j < part_count s.parts.count → IsPart level_of (part_of s.parts.count j)
  is_part j h = subst (IsPart level_of) (sym (part_is j)) (sizes.is_part level_of free_few atoms_few j (omega (arith, part_count_is)))

  -- one more part
  pub first_blocks_more : (j : ℕ) → j < part_count s.parts.count
      → first_blocks level_of (j + 1) ≡ first_blocks level_of j + block_length level_of (part_of s.parts.count j)
  first_blocks_more j h =
      sizes.first_blocks_more level_of j (omega (arith, part_count_is))
      ∙ ap (λ part. first_blocks level_of j + block_length level_of part) (sym (part_is j))

  pub first_blocks_all : (j : ℕ) → part_count s.parts.count ≤ j → first_blocks level_of j ≡ place_length level_of
  first_blocks_all j h = sizes.first_blocks_all level_of j (omega (arith, part_count_is))

  -- the next block of a loop over goal places and parts
  pub next_of : {items part : List ℕ} {start size g j : ℕ} → items ≡ places level_of → g < length items → j < part_count s.parts.count
      → part ≡ part_of s.parts.count j → size ≡ block_length level_of part
      → Next level_of start (start + size) (get_or items g 0) g part j
  next_of {items} {part} {start} {size} {g} {j} all place_there part_there part_here size_is = record {
    place_there = omega (arith, ap length all);
    place_is = ap (λ xs. get_or xs g 0) all;
    part_there = omega (arith, part_count_is);
    part_is = part_here ∙ part_is j;
    ends = ap (λ n. start + n) size_is;
  }

  -- few bytes
  pub block_few : (j : ℕ) → block_length level_of (part_of s.parts.count j) ≤ 65536
  block_few j = subst (λ part. block_length level_of part ≤ 65536) (sym (part_is j)) (sizes.block_few level_of free_few j)

  pub blocks_few : (j : ℕ) → first_blocks level_of j ≤ 524288
  blocks_few = sizes.blocks_few level_of free_few atoms_few

  pub place_few : place_length level_of ≤ 524288
  place_few = omega (arith, blocks_few (part_count s.parts.count), first_blocks_all (part_count s.parts.count) (omega arith))

  pub places_few : length (places level_of) ≤ 256
  places_few = sizes.places_few level_of (sizes.few_cells s.level.now.board)
