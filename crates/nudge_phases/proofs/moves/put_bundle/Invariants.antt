-- The runs before `item` are put.
use Rattle.std.proofs.Common.{take}
use Rattle.std.specs.Prelude.{All}
use Rattle.nudge_phases.specs.Rising.{EdgesRise}
use Rattle.nudge_phases.specs.Steps.{CarriesOn, HasPlaceOf}
use Rattle.nudge_phases.proofs.moves.put_bundle.Given as goal

abbrev pub invariant-loop-item : goal.invariant-loop-item
invariant-loop-item l = record {
  edges : EdgesRise l.routes;
  there : All (HasPlaceOf l.routes) l.run_bundle.runs.items;
  carries : CarriesOn l.run_bundle l.solution (take l.item l.run_bundle.runs.items) l.initial.routes l.routes;
}
