-- By what a phase keeps of its routes.
use Rattle.nudge_phases.proofs.EachPhase.AfterX.{x_ready, x_edges, both_may_move}
use Rattle.nudge_phases.proofs.phase_laws.phase_y_accepts.Goals as goal

pub returns : goal.returns
returns c = record { ready = x_ready; edges = x_edges; stay = both_may_move }
