-- Both phases accept the raw routes of right answers.
use Rattle.std.proofs.Common.{◌≡◌, ℕ, ◌*◌, ◌<◌, ◌≤◌, ◌^◌, ◌<ℤ◌, Some, List, [], ◌∷◌, map, length, sym, ap, subst, subst₂, ◌∙◌, arith}
use Rattle.std.specs.Prelude.{All, slice_get}
use Rattle.std.specs.List.{AllZip}
use Rattle.std.proofs.lemmas.List.{length-append, length-map}
use Rattle.std.proofs.lemmas.List.Elements.{All-cons, All-nil, All-head, All-tail}
use Rattle.std.proofs.lemmas.Option.{get_or_from_slice_get, same_Some}
use Rattle.plane_geom.specs.declared.point.Dir.{Dir}
use Rattle.plane_geom.specs.declared.point.Way.{Way}
use Rattle.plane_geom.specs.Floor.{IsFloor}
use Rattle.plane_geom.specs.Point.{PointIsOnSheet}
use Rattle.segment_order.specs.declared.run.Run.{Run}
use Rattle.segment_order.specs.Run.{AreCorners, AreRunsOf, runs_along}
use Rattle.segment_order.proofs.Runs.{are_runs}
use Rattle.separation_model.specs.Bundle.{most_items}
use Rattle.walk_model.specs.declared.route.Route.{Route}
use Rattle.walk_model.specs.declared.task.Choice.{Choice}
use Rattle.walk_model.specs.declared.task.Task.{Task}
use Rattle.walk_model.specs.Choice.{IsChoice}
use Rattle.walk_model.specs.Cost.{runs}
use Rattle.walk_model.specs.Legal.{IsLegal, IsTask}
use Rattle.walk_model.specs.Line.{IsOrthogonal}
use Rattle.walk_model.specs.Order.{IsLegalTriple}
use Rattle.walk_model.specs.Walk.{Walk}
use Rattle.walk_laws.proofs.FewAndSmall.SmallWalks.{few_each_way, orthogonal_route}
use Rattle.nudge_phases.specs.LegalRuns.{walk_along}
use Rattle.channel_bundles.specs.declared.route.PhaseRoute.{PhaseRoute}
use Rattle.channel_bundles.specs.Route.{of_way, runs_of_way}
use Rattle.nudge_phases.specs.Ready.{AreRaw, IsReady}
use Rattle.nudge_phases.proofs.EachPhase.AfterX.{ports_of_walk}
use Rattle.nudge_phases.proofs.BothPhases.RawRuns.{long_runs, walk_same}
use Rattle.nudge_phases.specs.Ready.{HasLegalWalk}
use Rattle.nudge_phases.specs.Rising.{EdgesRise}
use Rattle.nudge_phases.proofs.RouteRuns.{all_read, some_read}
use Rattle.scene_model.specs.declared.edge.Edge.{Edge}
use Rattle.scene_model.specs.Floors.{HoldsTask}
use Rattle.scene_model.specs.Scene.{Scene, edge_with}
use Rattle.scene_model.specs.Routing.{floor_of, solids, task_of}
use Rattle.scene_model.specs.Valid.{IsValid}
use Rattle.scene_model.proofs.Editing.Entries.{Pairs, pairs_to}
use Rattle.scene_model.proofs.ForRouting.Floors.{floors_fit, floors_hold_tasks}
use Rattle.nudge_phases.specs.Raw.{IsRawRoute}
use Rattle.nudge_phases.proofs.Answered.{Before, IsAnswered}
use Rattle.nudge_phases.proofs.Zips.{zip_count, zip_read}
use Rattle.nudge_phases.proofs.Turning.{IsTurning, are_corners, corners_differ, few_of_way, line_turns}

some_runs : (ds : List Dir) → 0 < length ds → 0 < runs ds
some_runs [] h = absurd (omega arith)
some_runs (d ∷ ds) h = omega arith

-- what is known of a raw route
pub record IsGoodRaw (s : Scene) (number : ℕ) (route : Route) (raw : PhaseRoute) : Type 0 where
  pub edge : raw.edge ≡ number
  pub connector : Edge
  pub known : edge_with s number ≡ Some connector
  pub ready : IsReady raw
  pub long : All (λ (r : Run). r.lo <ℤ r.hi) raw.runs.items
  pub legal : HasLegalWalk (solids s) raw
  pub is_start : slice_get (task_of s connector).starts route.start ≡ Some legal.start
  pub is_end : slice_get (task_of s connector).ends route.end ≡ Some legal.end
  pub via : raw.anchors.via.items ≡ (task_of s connector).via
  pub few : (way : Way) → length (of_way way raw.runs.items) ≤ 1644802

module _ (s : Scene) (v : IsValid s) (number : ℕ) (route : Route) (a : IsAnswered s number route) where
  abbrev task : Task
  task = task_of s a.edge

  holds : HoldsTask s a.edge
  holds = floors_hold_tasks s a.edge v a.connector.has

  is_floor : IsFloor (floor_of s)
  is_floor = floors_fit s v

  is_task : IsTask task
  is_task = holds.task.is_task

  legal_triple : IsLegalTriple (solids s) task a.triple
  legal_triple = a.first.legal

  abbrev walk : Walk
  walk = a.triple.walk

  orthogonal : IsOrthogonal route.points
  orthogonal = orthogonal_route (floor_of s) task a.triple is_floor is_task holds.floor a.first route a.route_of

  pub few_points : length route.points ≤ 2 ^ 32
  few_points = let few = orthogonal.corners.few in omega (arith, few)

  turning : IsTurning route.points
  turning = line_turns route.points walk a.route_of.draws a.route_of.corners

  is_start : IsChoice legal_triple.start
  is_start = all_read IsChoice task.starts a.triple.start legal_triple.start is_task.starts.each legal_triple.is_start

  is_end : IsChoice legal_triple.end
  is_end = all_read IsChoice task.ends a.triple.end legal_triple.end is_task.ends.each legal_triple.is_end

  some_points : 1 < length route.points
  some_points = let fit = legal_triple.legal.stubs_fit in let apart = is_start.apart in let some = some_runs walk.steps (omega (arith, fit, apart)) in let count = a.route_of.corners in omega (arith, some, count)

  corners_are : AreCorners route.points
  corners_are = are_corners route.points turning some_points orthogonal.corners.within orthogonal.straight

  pub raw_runs : AreRunsOf number (runs_along number 1 route.points)
  raw_runs = are_runs number route.points corners_are

  pub raw_long : All (λ (r : Run). r.lo <ℤ r.hi) (runs_along number 1 route.points)
  raw_long = long_runs number 1 route.points orthogonal.straight (corners_differ route.points turning)

  raw_walk : walk_along (runs_along number 1 route.points) ≡ walk
  raw_walk = walk_same number 1 route.points walk some_points a.route_of.draws

  -- the raw route of the answer is as the phases ask
  pub good_raw : (raw : PhaseRoute) → IsRawRoute s number route raw → IsGoodRaw s number route raw
  good_raw raw is =
      let edge_is : is.edge ≡ a.edge = same_Some is.edge a.edge (sym is.is_edge ∙ a.known) in
      let start_is : is.start ≡ legal_triple.start = same_Some is.start legal_triple.start
      (sym is.is_start ∙ ap (λ (e : Edge). slice_get (task_of s e).starts route.start) edge_is ∙ ap (slice_get task.starts) a.route_of.start ∙ legal_triple.is_start) in
      let end_is : is.end ≡ legal_triple.end = same_Some is.end legal_triple.end
      (sym is.is_end ∙ ap (λ (e : Edge). slice_get (task_of s e).ends route.end) edge_is ∙ ap (slice_get task.ends) a.route_of.end ∙ legal_triple.is_end) in
      let source : legal_triple.start.port ≡ raw.anchors.source_port = ap (λ (c : Choice). c.port) (sym start_is) ∙ sym is.source in
      let target : legal_triple.end.port ≡ raw.anchors.target_port = ap (λ (c : Choice). c.port) (sym end_is) ∙ sym is.target in
      let via_is : raw.anchors.via.items ≡ task.via = is.via ∙ ap (λ (e : Edge). e.via) edge_is in
      let weight_is : raw.weight ≡ a.edge.weight = is.weight ∙ ap (λ (e : Edge). e.weight) edge_is in
      let are : AreRunsOf raw.edge raw.runs.items = subst₂ AreRunsOf (sym is.of_edge) (sym is.runs) raw_runs in
      let long : All (λ (r : Run). r.lo <ℤ r.hi) raw.runs.items = subst (All (λ (r : Run). r.lo <ℤ r.hi)) (sym is.runs) raw_long in
      let walk_is : walk_along raw.runs.items ≡ walk = ap walk_along is.runs ∙ raw_walk in
      let legal : IsLegal (solids s) raw.anchors.via.items legal_triple.start (walk_along raw.runs.items) legal_triple.end =
      subst₂ (λ ps w. IsLegal (solids s) ps legal_triple.start w legal_triple.end) (sym via_is) (sym walk_is) legal_triple.legal in
      record {
        edge = is.of_edge;
        connector = a.edge;
        known = a.known;
        is_start = ap (slice_get task.starts) a.route_of.start ∙ legal_triple.is_start;
        is_end = ap (slice_get task.ends) a.route_of.end ∙ legal_triple.is_end;
        via = via_is;
        ready = record {
          phase = record {
            runs = are;
            via = subst (All PointIsOnSheet) (sym via_is) is_task.via;
            source = subst PointIsOnSheet source is_start.port;
            target = subst PointIsOnSheet target is_end.port;
            weight_low = let some = a.connector.edge.some_weight in omega (arith, some, weight_is);
            weight_high = let low = a.connector.edge.low_weight in omega (arith, low, weight_is);
          };
          ports = ports_of_walk (solids s) raw legal_triple.start legal_triple.end are is_start is_end long source target legal;
        };
        long = long;
        legal = record { start = legal_triple.start; end = legal_triple.end; is_start = is_start; is_end = is_end; source = source; target = target; legal = legal };
        few = λ way. let one = few_of_way way number route.points walk a.route_of.draws turning in
            let two = few_each_way (floor_of s) task a.triple is_floor is_task holds.floor a.first way in
            let same = ap (λ rs. length (of_way way rs)) is.runs in omega (arith, one, two, same);
      }

-- all raw routes
abbrev pub AreGood : Scene → List (ℕ × Route) → List PhaseRoute → Type 0
AreGood s pairs raw = AllZip (λ p r. IsGoodRaw s p.0 p.1 r) pairs raw

pub all_good : (s : Scene) (pairs : List (ℕ × Route)) (raw : List PhaseRoute) → IsValid s → All (λ (p : ℕ × Route). IsAnswered s p.0 p.1) pairs → AllZip (λ p r. IsRawRoute s p.0 p.1 r) pairs raw → AreGood s pairs raw
all_good s [] [] v are zip = tt
all_good s [] (r ∷ raw) v are zip = absurd zip
all_good s (p ∷ pairs) [] v are zip = absurd zip
all_good s (p ∷ pairs) (r ∷ raw) v are zip = (
  good_raw s v p.0 p.1 (All-head (λ (q : ℕ × Route). IsAnswered s q.0 q.1) p pairs are) r zip.0,
  all_good s pairs raw v (All-tail (λ (q : ℕ × Route). IsAnswered s q.0 q.1) p pairs are) zip.1,
)

each_good : (P : PhaseRoute → Type 0) (s : Scene) (pairs : List (ℕ × Route)) (raw : List PhaseRoute) → ((n : ℕ) (t : Route) (r : PhaseRoute) → IsGoodRaw s n t r → P r) → AreGood s pairs raw → All P raw
each_good P s [] [] from good = All-nil P
each_good P s [] (r ∷ raw) from good = absurd good
each_good P s (p ∷ pairs) [] from good = absurd good
each_good P s (p ∷ pairs) (r ∷ raw) from good = All-cons P r raw (from p.0 p.1 r good.0) (each_good P s pairs raw from good.1)

few_runs : (way : Way) (s : Scene) (pairs : List (ℕ × Route)) (raw : List PhaseRoute) → AreGood s pairs raw → length (runs_of_way way raw) ≤ 1644802 * length pairs
few_runs way s [] [] good = omega arith
few_runs way s [] (r ∷ raw) good = absurd good
few_runs way s (p ∷ pairs) [] good = absurd good
few_runs way s (p ∷ pairs) (r ∷ raw) good =
    let rest = few_runs way s pairs raw good.1 in
    let here = good.0.few way in
    omega (arith, rest, here, length-append (map (λ (t : Run). (let q : PhaseRoute × Run = (r, t) in q)) (of_way way r.runs.items)) (runs_of_way way raw), length-map {B = PhaseRoute × Run} (of_way way r.runs.items) (λ t. (r, t)))

module _ (s : Scene) (pairs : List (ℕ × Route)) (raw : List PhaseRoute) (good : AreGood s pairs raw) (rise : Pairs Before pairs) where
  pub edges_rise : EdgesRise raw
  edges_rise i j d h g =
      let count = zip_count (λ p r. IsGoodRaw s p.0 p.1 r) pairs raw good in
      let in_j : j < length pairs = omega (arith, g, count) in
      let in_i : i < length pairs = omega (arith, h, in_j) in
      let p = some_read pairs i in_i in
      let q = some_read pairs j in_j in
      let r = some_read raw i (omega (arith, h, g)) in
      let t = some_read raw j g in
      let a = (zip_read (λ p r. IsGoodRaw s p.0 p.1 r) pairs raw i p.0 r.0 good p.1 r.1).edge in
      let b = (zip_read (λ p r. IsGoodRaw s p.0 p.1 r) pairs raw j q.0 t.0 good q.1 t.1).edge in
      let l = pairs_to Before pairs rise i j p.0 h in_j in
      omega (
        arith,
        l,
        a,
        b,
        ap (λ (x : ℕ × Route). x.0) (get_or_from_slice_get pairs i p.0 p.0 p.1),
        ap (λ (x : ℕ × Route). x.0) (get_or_from_slice_get pairs j q.0 p.0 q.1),
        ap (λ (x : PhaseRoute). x.edge) (get_or_from_slice_get raw i r.0 d r.1),
        ap (λ (x : PhaseRoute). x.edge) (get_or_from_slice_get raw j t.0 d t.1),
      )

  pub are_raw : AreRaw raw
  are_raw = record {
    ready = each_good IsReady s pairs raw (λ n t r is. is.ready) good;
    edges = λ i j d h g same. (let l = edges_rise i j d h g in omega (arith, l, same));
    long = each_good (λ (r : PhaseRoute). All (λ (t : Run). t.lo <ℤ t.hi) r.runs.items) s pairs raw (λ n t r is. is.long) good;
  }

  pub all_legal : All (HasLegalWalk (solids s)) raw
  all_legal = each_good (HasLegalWalk (solids s)) s pairs raw (λ n t r is. is.legal) good

  pub few_enough : length pairs ≤ 512 → (way : Way) → length (runs_of_way way raw) ≤ most_items
  few_enough few way = let all = few_runs way s pairs raw good in omega (arith, all, few)
