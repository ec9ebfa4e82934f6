use Rattle.std.proofs.Common.{◌≡◌, ap, ◌∙◌}
use Rattle.grid.specs.declared.Grid.{Grid}
use Rattle.pictures.specs.Pictures.{shape}
use Rattle.molecules.specs.declared.molecule.Molecule.{Molecule}
use Rattle.atoms.specs.Level.{atoms_of, atoms}
use Rattle.atoms.specs.LevelText.Writing.{level_text}
use Rattle.text.proofs.Pens.{writes_as, leads_start, leads_more}
use Rattle.atoms.proofs.LevelText.Writing.{level_text_lem}
use Rattle.atoms.proofs.level_text.writer.LevelTextCompose.compose.Goals as goal

pub returns : goal.returns
returns c =
    let b = c.board-board.result.now in
    let m = c.picture-molecule.result.now in
    let level : atoms_of (shape b) (shape m) ≡ atoms c.args.self.now.0.now =
    ap (λ p. atoms_of (shape p) (shape m)) c.board-board.ensures
    ∙ ap (λ p. atoms_of (shape c.args.self.now.0.now.board) (shape p)) (c.picture-molecule.ensures ∙ ap (λ (x : Molecule). x.picture) c.molecule.ensures) in
    let g = c.grid-size.result in
    let text = level_text_lem (shape b) (shape m) g.width g.height (ap (λ (x : Grid). x.width) c.grid-size.ensures) (ap (λ (x : Grid). x.height) c.grid-size.ensures) in
    let bracket = leads_more (leads_start text) c.put.ensures.wrote in
    let keyword = leads_more (leads_more bracket c.put-2.ensures.wrote) c.put-3.ensures.wrote in
    let width = leads_more keyword c.put_decimal.ensures.wrote in
    let height = leads_more (leads_more width c.put-4.ensures.wrote) c.put_decimal-2.ensures.wrote in
    let board = leads_more (leads_more height c.put-5.ensures.wrote) c.compose_picture.ensures in
    let molecule = leads_more board c.compose_picture-2.ensures in
    writes_as (ap level_text level) (molecule _ c.put-6.ensures.wrote)
