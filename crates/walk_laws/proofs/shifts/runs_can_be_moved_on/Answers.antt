-- The run is part of a leg, and clear one step on.
use Rattle.walk_laws.proofs.OnKeptLines.ShiftedRuns.{on_legal, on_cost, on_order}
use Rattle.walk_laws.proofs.shifts.runs_can_be_moved_on.Goals as goal

pub returns-clause-legal : goal.returns-clause-legal
returns-clause-legal c = λ solids task t r is_task h e free. on_legal solids task t r h e is_task free

pub returns-clause-cost : goal.returns-clause-cost
returns-clause-cost c = λ solids task t r h e. on_cost solids task t r h e

pub returns-clause-order : goal.returns-clause-order
returns-clause-order c = λ solids task t r h e. on_order solids task t r h e
