-- A small graph as a puzzle: where its moves lead, and its bounds. Assumes nothing.
use Rattle.std.specs.Prelude.{ℕ, List, [], ◌∷◌, slice_get, Some, None, Option}
use denote.Enum.Bare.{sameb}
use Rattle.puzzle.specs.Meaning.{Meaning}
use Rattle.search_cases.specs.contracts.graph.Spot.{the_type}
use Rattle.search_cases.specs.declared.graph.Spot.{Spot}
use Rattle.search_cases.specs.declared.graph.Spot.TheVariants.{Gate, Path, Turn, Hill, Hall, Door, Room, Pit, Trap}

-- where the moves of a spot lead, by number
abbrev pub leads : Spot → List Spot
leads Gate = Pit ∷ Path ∷ Hill ∷ []
leads Path = Turn ∷ []
leads Turn = Hall ∷ []
leads Hill = Hall ∷ []
leads Hall = Door ∷ []
leads Door = Room ∷ []
leads Room = []
leads Pit = []
leads Trap = Pit ∷ []

abbrev pub bound : Spot → Option ℕ
bound Gate = Some 4
bound Path = Some 0
bound Turn = Some 0
bound Hill = Some 3
bound Hall = Some 0
bound Door = Some 0
bound Room = Some 0
bound Pit = None
bound Trap = Some 0

abbrev pub meaning : Spot → Meaning Spot
meaning start = record {
  game = record { start = start; count = 3; move = λ p n. slice_get (leads p) n; finished = λ p. sameb the_type p Room };
  lower_bound = bound;
  key = λ _. 0;
  same = sameb the_type;
}
