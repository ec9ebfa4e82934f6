use Rattle.std.proofs.Common.{◌≤◌, sym, ◌∙◌, rules, arith}
use Rattle.pictures.specs.Pictures.{shape}
use Rattle.molecules.specs.Molecules.{molecule_shape}
use Rattle.atoms.proofs.Making.{made_from, made_valid}
use Rattle.atoms.specs.laws.Levels.{framed}
use Rattle.atoms.proofs.Roll.{labels_filled}
use Rattle.atoms.proofs.level.AtomLevel.new.Goals as goal

pub invariant_of-result : goal.invariant_of-result
invariant_of-result c = record {
  counted = (c.count_atoms-atoms.ensures, search rules, search rules);
  edges = sym c.is_edged.ensures ∙ c.if-not-is_edged.false;
  matched = c.has_labels_of.ensures.decides.0 c.if-not-has_labels_of.false;
  labelled = labels_filled (shape c.args.board.now) _ _ c.count_atoms-atoms.ensures c.labels_of.ensures;
  started = c.start_of.ensures;
  walled = c.walls_of.ensures;
  placed = c.find.ensures.finds;
}

pub returns : goal.returns
returns c =
    let b = c.args.board.now in
    let m = c.args.molecule.now in
    let edges = sym c.is_edged.ensures ∙ c.if-not-is_edged.false in
    let some : 1 ≤ c.count_atoms-atoms.result = search rules in
    let few : c.count_atoms-atoms.result ≤ 16 = search rules in
    let same = sym c.has_labels_of.ensures.says ∙ c.if-not-has_labels_of.false in
    record {
      makes = sym (made_from (shape b) (molecule_shape m) edges (omega arith) (omega arith) same);
      valid = made_valid (shape b) (molecule_shape m) (framed b) (framed m.picture) m.unwalled;
    }

pub returns-then-not-contains-clause-valid : goal.returns-then-not-contains-clause-valid
returns-then-not-contains-clause-valid c = made_valid _ _ (framed c.args.board.now) (framed c.args.molecule.now.picture) c.args.molecule.now.unwalled
