-- By the clear runs between the ports.
use Rattle.nudge_phases.proofs.MovedRuns.Corners.{may_stay}
use Rattle.nudge_phases.proofs.phase_laws.legal_routes_may_stay.Goals as goal

pub returns : goal.returns
returns c = λ solids route way s e are ports legal. may_stay route route.edge are ports solids way legal.between
