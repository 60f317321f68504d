-- The run is part of a leg, and clear one step back.
use Rattle.walk_laws.proofs.OnKeptLines.ShiftedRuns.{back_legal, back_cost, back_order}
use Rattle.walk_laws.proofs.shifts.runs_can_be_moved_back.Goals as goal

pub returns-clause-legal : goal.returns-clause-legal
returns-clause-legal c = λ solids task t r is_task h e free. back_legal solids task t r h e is_task free

pub returns-clause-cost : goal.returns-clause-cost
returns-clause-cost c = λ solids task t r h e. back_cost solids task t r h e

pub returns-clause-order : goal.returns-clause-order
returns-clause-order c = λ solids task t r h e. back_order solids task t r h e
