-- The search's struct, seen as what it holds. Assumes nothing.
use Rattle.std.specs.Prelude.{◌≡◌}
use Rattle.search.specs.Contents.{Contents, numbers_of}
use Rattle.search.specs.inside.Memory.{PartsFit}
use Rattle.search.specs.declared.search.Search.TheInside.{Inside}

abbrev pub contents : {P : Type 0} → Inside P → Contents P
contents s = record {
  table = s.table.places.now;
  open_list = s.open_list;
  index = s.index;
  links = s.links.numbers.now;
  opened = s.opened;
  verdict = s.verdict;
  steps = s.steps;
}

pub record StructInvariant {P : Type 0} (s : Inside P) : Type 0 where
  pub fit : PartsFit (contents s)
  pub listed : s.numbers ≡ numbers_of (contents s)
