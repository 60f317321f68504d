-- Shared paths, crossings and verdicts as C reads them.
use Rattle.std.specs.Prelude.{◌≡◌, ℕ, ℤ, pos, List, length, map, Option, None, Some, Result, Ok, Err}
use Rattle.plane_geom.specs.declared.point.Point.{Point}
use Rattle.segment_order.specs.declared.side.Side.{Side}
use Rattle.segment_order.specs.declared.side.Side.TheVariants.{Left, Right}
use Rattle.shared_paths.specs.declared.path.End.{End}
use Rattle.shared_paths.specs.declared.path.End.TheVariants.{Tie, Parts}
use Rattle.shared_paths.specs.declared.path.SharedPath.{SharedPath}
use Rattle.shared_paths.specs.Listed.{AreSharedPaths}
use Rattle.route_check.specs.declared.verdict.Breach.{Breach}
use Rattle.route_check.specs.declared.verdict.Breach.TheVariants.{Slanted, StartOff, EndOff, Hits, MissesVia}
use Rattle.scene_model.specs.declared.fault.SceneFault.{SceneFault}
use Rattle.scene_model.specs.Scene.{Scene}
use Rattle.route_session.specs.Shares.{raw_runs}
use Rattle.drawing.specs.Drawing.{DrawingState}
use Rattle.drawing.specs.Checks.{IsChecked, IsLineJudged}
use Rattle.reroute_c.specs.declared.checks.SharedInfo.{SharedInfo}
use Rattle.reroute_c.specs.declared.checks.Verdict.{Verdict}
use Rattle.reroute_c.specs.declared.fault.Fault.{Fault}
use Rattle.reroute_c.specs.declared.lines.Corner.{Corner}
use Rattle.reroute_c.specs.Codes.{edit_fault}
use Rattle.reroute_c.specs.Files.{overlaid}

-- a hand
abbrev pub side_code : Side → ℕ
side_code Left = 1
side_code Right = 2

-- the side of a path, 0 if it has none
abbrev pub some_side_code : Option Side → ℕ
some_side_code None = 0
some_side_code (Some side) = side_code side

-- an end of a path: 0 where both routes stop, or the hand on which the earlier one is
abbrev pub end_code : End → ℕ
end_code Tie = 0
end_code (Parts side) = side_code side

abbrev pub shared_info : SharedPath → SharedInfo
shared_info p = record {
  a = p.a;
  b = p.b;
  first = p.first;
  last = p.last;
  b_first = p.b_first;
  b_last = p.b_last;
  back = end_code p.back;
  ahead = end_code p.ahead;
  side = some_side_code p.side;
}

-- the shared paths of the present scene are written as far as there is room, and it is reported how many there are
abbrev pub IsSharedTo : DrawingState → List SharedInfo → List SharedInfo → ℕ → Type 0
IsSharedTo d old new count =
    (paths : List SharedPath) × AreSharedPaths (raw_runs d.session.book) paths × (new ≡ overlaid (map shared_info paths) old) × (count ≡ length paths)

-- a corner that C gives
abbrev pub point_of : Corner → Point
point_of c = record { x = c.x; y = c.y }

-- a rule that is broken, by its code; the segment or the checkpoint that breaks it, from 1, and the id of the box that is hit
abbrev pub broken : ℕ → ℕ → ℤ → Verdict
broken code place id = record { breach = code; place = place; hit = id; cost = 0 }

abbrev pub breach_info : Breach → Verdict
breach_info (Slanted segment) = broken 1 segment (pos 0)
breach_info StartOff = broken 2 0 (pos 0)
breach_info EndOff = broken 3 0 (pos 0)
breach_info (Hits segment id) = broken 4 segment id
breach_info (MissesVia place) = broken 5 place (pos 0)

-- the cost of a line that breaks none, or that rule
abbrev pub verdict_info : Result ℕ Breach → Verdict
verdict_info (Ok cost) = record { breach = 0; place = 0; hit = pos 0; cost = cost }
verdict_info (Err breach) = breach_info breach

-- the line is judged, and this is the verdict
abbrev pub IsVerdictOn : Scene → ℕ → List Corner → Verdict → Type 0
IsVerdictOn s connector corners info = (verdict : Result ℕ Breach) × IsLineJudged s connector (map point_of corners) verdict × (info ≡ verdict_info verdict)

-- the line is not judged, and this is reported
abbrev pub IsUnjudged : Scene → ℕ → List Corner → Fault → Type 0
IsUnjudged s connector corners fault = (why : SceneFault) × IsChecked s connector (map point_of corners) (Err why) × (fault ≡ edit_fault why)
