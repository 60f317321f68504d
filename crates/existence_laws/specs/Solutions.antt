-- Bundles of runs have solutions.
use Rattle.separation_model.specs.declared.bundle.Bundle.{Bundle}
use Rattle.separation_model.specs.declared.bundle.Solution.{Solution}
use Rattle.separation_model.specs.Bundle.{IsBundle}
use Rattle.nudge_phases.specs.Phase.{IsSolutionOf}

-- the law: each bundle that calls accept has a solution
abbrev pub HaveSolutions : Type 0
HaveSolutions = (b : Bundle) → IsBundle b → (s : Solution) × IsSolutionOf b s
