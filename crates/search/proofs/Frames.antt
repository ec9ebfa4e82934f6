-- What the parts of a step leave as it was. Assumes nothing.
use Rattle.std.proofs.Common.{refl, ◌∙◌, arith}
use Rattle.search.specs.Contents.{Contents}
use Rattle.search.specs.inside.Memory.{ChangesNodesOnly}

pub framed_same : {P : Type 0} (a : Contents P) → ChangesNodesOnly a a
framed_same {P} a = record { table = refl; numbers = refl; capacity = refl; longer = omega arith; opened = refl; verdict = refl; steps = refl }

pub framed_then : {P : Type 0} (a b c : Contents P) → ChangesNodesOnly a b → ChangesNodesOnly b c → ChangesNodesOnly a c
framed_then {P} a b c f g = record {
  table = g.table ∙ f.table;
  numbers = g.numbers ∙ f.numbers;
  capacity = g.capacity ∙ f.capacity;
  longer = (let one = f.longer in let two = g.longer in omega arith);
  opened = g.opened ∙ f.opened;
  verdict = g.verdict ∙ f.verdict;
  steps = g.steps ∙ f.steps;
}
