-- The law is proved in `ArenaLaws`.
use Rattle.line_arena.proofs.Arenas.ArenaLaws.{crossings_of_floor}
use Rattle.line_arena.proofs.laws.crossings_of_floor.Goals as goal

pub returns : goal.returns
returns c = crossings_of_floor
