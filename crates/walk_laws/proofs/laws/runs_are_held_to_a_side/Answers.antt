-- A run of the tour lies within a leg, or a leg ends on it.
use Rattle.walk_laws.proofs.OnKeptLines.FirstWalks.{runs_held}
use Rattle.walk_laws.proofs.laws.runs_are_held_to_a_side.Goals as goal

pub returns : goal.returns
returns c = λ solids task t is_task first. runs_held solids task t is_task first
