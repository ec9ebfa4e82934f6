-- Pictures make valid levels, and every valid level is made. Assumes nothing.
use Rattle.std.proofs.Common.{◌≡◌, ℕ, ◌≤◌, Bool, true, false, cond, leb, Ok, Err, Result, refl, ◌∙◌, subst, arith}
use Rattle.std.proofs.lemmas.Bool.{cond-true, and_parts, and_from, leb-true, le-leb}
use Rattle.refusals.specs.declared.Fault.{Fault}
use Rattle.refusals.specs.declared.Fault.TheVariants.{BareEdge, AtomLabels}
use Rattle.pictures.specs.Pictures.{Shape}
use Rattle.molecules.specs.Atoms.{Unwalled, is_edged, atom_count, same_labels}
use Rattle.molecules.proofs.Edges.{edged_has_row}
use Rattle.molecules.proofs.Alike.{same_labels_lem, same_labels_from}
use Rattle.atoms.specs.Level.{Atoms, Valid, atoms_of}
use Rattle.atoms.specs.laws.Levels.{Framed, framed_drawn, atom_high}
use Rattle.atoms.specs.Making.{is_matched, level_of, MakesValid}

-- pictures whose atoms match, and a molecule with atoms on its edges, are valid
drawn_valid : (b m : Shape) → Framed b → Framed m → Unwalled m → is_edged m ≡ true → is_matched b m ≡ true → Valid (atoms_of b m)
drawn_valid b m fb fm unwalled edges match =
    let both = and_parts _ (same_labels b m) match in
    let counts = and_parts (leb 1 (atom_count b)) (leb (atom_count b) 16) both.0 in
    let some = leb-true 1 (atom_count b) counts.0 in
    record {
      board = framed_drawn b fb (atom_high b fb.whole some);
      molecule = framed_drawn m fm (edged_has_row m edges);
      unwalled = unwalled;
      edges = edges;
      some = some;
      few = leb-true (atom_count b) 16 counts.1;
      matched = same_labels_lem b m both.1 fb.lettered fm.lettered;
    }

-- a level is made only where both tests pass
made_parts : (b m : Shape) (l : Atoms) (e t : Bool) → ◌≡◌ {A = Result Atoms Fault} (cond e (cond t (Ok (atoms_of b m)) (Err AtomLabels)) (Err BareEdge)) (Ok l) → (e ≡ true) × (t ≡ true) × (atoms_of b m ≡ l)
made_parts b m l true true h = (refl, refl, cc)
made_parts b m l true false h = absurd (let z : ◌≡◌ {A = ℕ} 0 1 = cc in omega arith)
made_parts b m l false t h = absurd (let z : ◌≡◌ {A = ℕ} 0 1 = cc in omega arith)

-- what pictures make is valid
pub made_valid : (b m : Shape) → Framed b → Framed m → Unwalled m → MakesValid b m
made_valid b m fb fm unwalled l h =
    let p = made_parts b m l (is_edged m) (is_matched b m) h in
    subst Valid p.2 (drawn_valid b m fb fm unwalled p.0 p.1)

-- where both tests pass a level is made
pub made_from : (b m : Shape) → is_edged m ≡ true → 1 ≤ atom_count b → atom_count b ≤ 16 → same_labels b m ≡ true → level_of b m ≡ Ok (atoms_of b m)
made_from b m edges some few same =
    let count = and_from _ _ (le-leb 1 (atom_count b) some) (le-leb (atom_count b) 16 few) in
    cond-true _ _ _ edges ∙ cond-true _ _ _ (and_from _ _ count same)

-- what is valid is made
pub valid_made : (l : Atoms) → Valid l → level_of l.board l.molecule ≡ Ok l
valid_made l v =
    made_from l.board l.molecule v.edges v.some v.few (same_labels_from l.board l.molecule v.matched)
