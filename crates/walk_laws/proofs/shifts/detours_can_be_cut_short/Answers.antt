-- The run is part of a leg, and the straight way is clear.
use Rattle.walk_laws.proofs.OnKeptLines.ShiftedRuns.{cut_legal, cut_cost}
use Rattle.walk_laws.proofs.shifts.detours_can_be_cut_short.Goals as goal

pub returns-clause-legal : goal.returns-clause-legal
returns-clause-legal c = λ solids task t r is_task h e free. cut_legal solids task t r h e is_task free

pub returns-clause-cost : goal.returns-clause-cost
returns-clause-cost c = λ solids task t r h e. cut_cost solids task t r h e
