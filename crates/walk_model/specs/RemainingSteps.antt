-- The steps of a line that are left. No public clause cites this module.
use Rattle.std.specs.Prelude.{◌≡◌, List, [], ◌++◌, replicate, All}
use Rattle.plane_geom.specs.declared.point.Dir.{Dir}
use Rattle.plane_geom.specs.Point.{PointIsOnSheet}
use Rattle.walk_model.specs.declared.steps.RemainingSteps.{RemainingSteps}
use Rattle.walk_model.specs.Line.{steps_through}

-- the stretch, and then the steps of the line
abbrev pub remaining_steps : RemainingSteps → List Dir
remaining_steps s = replicate s.stretch s.dir ++ steps_through s.at s.rest.now

-- the line is on the sheet, and the stretch is empty only where no step is left
pub record IsReady (s : RemainingSteps) : Type 0 where
  pub within : PointIsOnSheet s.at
  pub rest_within : All PointIsOnSheet s.rest.now
  pub front : s.stretch ≡ 0 → s.rest.now ≡ []
