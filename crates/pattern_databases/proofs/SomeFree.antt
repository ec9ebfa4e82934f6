-- A level has a free cell: that of its first atom. Assumes nothing.
use Rattle.std.proofs.Common.{◌<◌, [], get_or, arith}
use Rattle.puzzle.specs.Game.{here}
use Rattle.atoms.specs.declared.level.AtomLevel.{AtomLevel}
use Rattle.atoms.specs.Level.{atoms, game}
use Rattle.atoms.specs.laws.Levels.{level_valid}
use Rattle.pattern_databases.specs.Floor.{free_count}
use Rattle.pattern_databases.specs.laws.Standing.{reached_free}
use Rattle.pattern_databases.proofs.Placements.{free_number_below}

pub some_free : (level : AtomLevel) → 0 < free_count (atoms level).board
some_free level =
    let l = atoms level in
    let valid = level_valid level in
    let first = reached_free l valid (game l).start ([], here) 0 valid.some in
    omega (arith, free_number_below l.board (get_or (game l).start.cells 0 0) first)
