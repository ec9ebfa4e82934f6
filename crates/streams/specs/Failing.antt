-- What is known after a failure of a program's body. Assumes nothing.
use Rattle.std.specs.Prelude.{◌≡◌, ℕ, cond, List, Contains, codes}
use Rattle.std.specs.Str.{bytes_eq}
use Rattle.std.specs.Io.KnownBytes.{Keeps}
use Rattle.std.specs.declared.option.Option.{Option}

-- the name under which memory is said to be wanted
abbrev pub memory_name : List ℕ
memory_name = codes "the answer"

abbrev pub standard_input_name : List ℕ
standard_input_name = codes "standard input"

abbrev pub standard_output_name : List ℕ
standard_output_name = codes "standard output"

-- the name of what a path names: `-` stands for standard input
abbrev pub name_of : List ℕ → List ℕ
name_of path = cond (bytes_eq path (codes "-")) standard_input_name path

-- The name of what failed, of streams that are read and one that is written; and what the written one then holds.
pub data Fails (inputs : List (List ℕ)) (output : List ℕ) (old new : Option (List ℕ)) (name : List ℕ) : Type 0 where
  -- a stream that is read: nothing was written
  reading : Contains inputs name → Keeps old new → Fails inputs output old new name
  -- the stream that is written: it may hold any part of the answer
  writing : name ≡ output → Fails inputs output old new name
