-- What the reader in the code stands for: cited by private functions alone. Assumes nothing.
use Rattle.pictures.specs.Pictures.{shape}
use Rattle.molecules.specs.Molecules.{molecule_shape}
use Rattle.atoms.specs.declared.level_text.reader.Form as code
use Rattle.atoms.specs.declared.level_text.reader.Form.TheVariants as coded
use Rattle.atoms.specs.declared.level_text.reader.Reader.{Reader}
use Rattle.atoms.specs.declared.level_text.reader.Reader.TheVariants.{Head, Rows, FirstWant, Wants, End}
use Rattle.atoms.specs.LevelText.Reading.{Form, size, row, want, close, Expect, head, rows, first, wants, nothing}

-- a form with the bytes in place of a reference to them
abbrev pub form_value : code.Form → Form
form_value (coded.Size w h) = size w h
form_value (coded.Row x) = row x.now
form_value (coded.Want x) = want x.now
form_value coded.Close = close

-- what a reader expects next
abbrev pub view : Reader → Expect
view Head = head
view (Rows b more) = rows (shape b) more
view (FirstWant b) = first (shape b)
view (Wants b m) = wants (shape b) (molecule_shape m)
view (End b m) = nothing (shape b) (molecule_shape m)
