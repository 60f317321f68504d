-- Nudged lines have few points: each at most as many as its route.
use Rattle.std.proofs.Common.{◌≡◌, ℕ, zero, suc, ◌+◌, ◌<◌, ◌≤◌, Bool, true, false, Some, None, List, [], ◌∷◌, ◌++◌, length, ap, arith}
use Rattle.std.specs.Prelude.{if◌then◌else◌, replicate, slice_get, ◌==◌}
use Rattle.std.proofs.lemmas.List.Elements.{All-weaker}
use Rattle.std.proofs.lemmas.Option.{slice_get_within}
use Rattle.plane_geom.specs.declared.point.Point.{Point}
use Rattle.plane_geom.specs.declared.point.Dir.{Dir}
use Rattle.segment_order.specs.declared.run.Run.{Run}
use Rattle.segment_order.specs.Run.{runs_along}
use Rattle.walk_model.specs.declared.route.Answer.{Answer}
use Rattle.walk_model.specs.declared.route.Route.{Route}
use Rattle.walk_model.specs.declared.route.WrittenRoute.{WrittenRoute}
use Rattle.walk_model.specs.Cost.{runs, runs_after, turn}
use Rattle.walk_model.proofs.CornerByCorner.Shapes.{new_runs}
use Rattle.walk_laws.proofs.FewAndSmall.SmallWalks.{few_in_all}
use Rattle.nudge_phases.specs.LegalRuns.{steps_along, steps_of_run}
use Rattle.nudge_phases.proofs.RouteRuns.{all_read, some_read}
use Rattle.scene_model.specs.Answers.{AreAnswers}
use Rattle.scene_model.specs.Scene.{Scene}
use Rattle.scene_model.specs.Routing.{floor_of, task_of}
use Rattle.scene_model.specs.Valid.{IsValid}
use Rattle.scene_model.proofs.ForRouting.Floors.{floors_fit, floors_hold_tasks}
use Rattle.nudge_phases.specs.Nudged.{HasFewPoints, HaveFewPoints, IsNudgedScene}
use Rattle.nudge_phases.specs.Raw.{IsRawRoute, routed}
use Rattle.nudge_phases.proofs.Answered.{IsAnswered, answered, few_answered}
use Rattle.nudge_phases.proofs.Zips.{zip_count, zip_from, zip_read}

runs_after-le : (d : Dir) (ds : List Dir) → runs_after d ds ≤ runs ds
runs_after-le d [] = omega arith
runs_after-le d (e ∷ es) = by (turn d e == 0)
  where
    by : (b : Bool) → (if b then 0 else 1) + runs_after e es ≤ 1 + runs_after e es
    by true = omega arith
    by false = omega arith

-- a block of equal steps adds one run at most
one_more_run : (d : Dir) (n : ℕ) (ds : List Dir) → runs (replicate n d ++ ds) ≤ 1 + runs ds
one_more_run d zero ds = omega arith
one_more_run d (suc n) ds =
    let is = new_runs None d (suc n) ds (omega arith) (λ e. cc) in
    let less = runs_after-le d ds in
    omega (arith, is, less)

-- the walk along runs has at most as many
pub runs_along-le : (rs : List Run) → runs (steps_along rs) ≤ length rs
runs_along-le [] = omega arith
runs_along-le (r ∷ rs) =
    let more = one_more_run r.heading (steps_of_run r) (steps_along rs) in
    let rest = runs_along-le rs in
    omega (arith, more, rest)

pub length-runs_along : (edge place : ℕ) (points : List Point) → 0 < length points → length (runs_along edge place points) + 1 ≡ length points
length-runs_along edge place [] some = absurd (omega arith)
length-runs_along edge place (p ∷ []) some = omega arith
length-runs_along edge place (p ∷ q ∷ ps) some = let rest = length-runs_along edge (place + 1) (q ∷ ps) (omega arith) in omega (arith, rest)

-- a right route has few points
pub few_of_route : (s : Scene) (v : IsValid s) (p : ℕ × Route) → IsAnswered s p.0 p.1 → length p.1.points ≤ 3289603
few_of_route s v p a =
    let holds = floors_hold_tasks s a.edge v a.connector.has in
    let few = few_in_all (floor_of s) (task_of s a.edge) a.triple (floors_fit s v) holds.task.is_task holds.floor a.first in
    omega (arith, few, a.route_of.corners)

module _ (s : Scene) (answers : List Answer) (lines : List WrittenRoute) (v : IsValid s) (are : AreAnswers s answers) (is : IsNudgedScene s answers lines) where
  as_many : length (routed answers) ≡ length lines
  as_many =
      let a = zip_count (λ p r. IsRawRoute s p.0 p.1 r) (routed answers) is.raw is.are_raw in
      let b = is.nudged.count in let d = is.nudged.y.count in let e = is.nudged.x.count in omega (arith, a, b, d, e)

  -- a line has at most as many points as its route
  line_is_short : (k : ℕ) (p : ℕ × Route) (line : WrittenRoute) → slice_get (routed answers) k ≡ Some p → slice_get lines k ≡ Some line → length line.points ≤ length p.1.points
  line_is_short k p line at_p at_line =
      let nudged = is.nudged in
      let in_raw : k < length is.raw = (let h = slice_get_within (routed answers) k p at_p in let n = zip_count (λ p r. IsRawRoute s p.0 p.1 r) (routed answers) is.raw is.are_raw in omega (arith, h, n)) in
      let r = some_read is.raw k in_raw in
      let x = some_read nudged.after_x k (let n = nudged.x.count in omega (arith, in_raw, n)) in
      let y = some_read nudged.after_y k (let n = nudged.x.count in let m = nudged.y.count in omega (arith, in_raw, n, m)) in
      let raw = zip_read (λ p r. IsRawRoute s p.0 p.1 r) (routed answers) is.raw k p r.0 is.are_raw at_p r.1 in
      let corners = (nudged.written k y.0 line y.1 at_line).corners in
      let less = runs_along-le y.0.runs.items in
      let second = (nudged.y.moved k x.0 y.0 x.1 y.1).count in
      let first = (nudged.x.moved k r.0 x.0 r.1 x.1).count in
      let begun = ap (λ (rs : List Run). length rs) raw.runs in
      let answer = all_read (λ (q : ℕ × Route). IsAnswered s q.0 q.1) (routed answers) k p (answered s answers v are) at_p in
      let some : 0 < length p.1.points = (let c = answer.route_of.corners in omega (arith, c)) in
      let long = length-runs_along p.0 1 p.1.points some in
      omega (arith, corners, less, second, first, begun, long)

  pub few_points : HasFewPoints answers lines
  few_points = record {
    count = few_answered s answers v are;
    routes = All-weaker (λ (p : ℕ × Route). IsAnswered s p.0 p.1) (λ (p : ℕ × Route). length p.1.points ≤ 3289603) (few_of_route s v) (routed answers) (answered s answers v are);
    short = zip_from (λ (p : ℕ × Route) (l : WrittenRoute). length l.points ≤ length p.1.points) (routed answers) lines as_many line_is_short;
  }

pub have_few_points : HaveFewPoints
have_few_points s answers lines v are is = few_points s answers lines v are is
