-- By the first and the last stub.
use Rattle.nudge_phases.proofs.EachPhase.AfterX.{ports_of_walk}
use Rattle.nudge_phases.proofs.phase_laws.legal_walks_hold_ports.Goals as goal

pub returns : goal.returns
returns c = ports_of_walk
