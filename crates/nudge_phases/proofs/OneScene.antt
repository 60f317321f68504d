-- Right answers of a scene have one list of nudged lines at most.
use Rattle.std.proofs.Common.{◌≡◌, ◌≢◌, ℕ, ◌<◌, ℤ, List, length, sym, ap, subst, ◌∙◌, arith}
use Rattle.std.specs.Prelude.{AllPairs, slice_get}
use Rattle.std.proofs.lemmas.Option.{slice_get_within, same_Some}
use Rattle.plane_geom.specs.declared.point.Way.{Way}
use Rattle.plane_geom.specs.declared.point.Way.TheVariants.{Vertical}
use Rattle.plane_geom.specs.declared.rect.Solid.{Solid}
use Rattle.segment_order.specs.Run.{run_at}
use Rattle.separation_model.specs.declared.bundle.Solution.{Solution}
use Rattle.separation_model.specs.Bundle.{int_at}
use Rattle.walk_model.specs.declared.route.Answer.{Answer}
use Rattle.walk_model.specs.declared.route.Route.{Route}
use Rattle.walk_model.specs.declared.task.Choice.{Choice}
use Rattle.scene_model.specs.declared.edge.Edge.{Edge}
use Rattle.scene_model.specs.Routing.{solids, task_of}
use Rattle.scene_model.specs.Scene.{Scene}
use Rattle.channel_bundles.specs.declared.channel.RunBundle.{RunBundle}
use Rattle.channel_bundles.specs.declared.route.PhaseRoute.{PhaseRoute}
use Rattle.nudge_phases.proofs.RoutesAlike.{AreRoutesAlike, IsRouteAlike}
use Rattle.nudge_phases.specs.Moved.{IsMoved, IsPutAt, moved_run}
use Rattle.nudge_phases.specs.Phase.{IsPhase}
use Rattle.nudge_phases.proofs.BothPhases.OneNudged.{one_nudged}
use Rattle.nudge_phases.proofs.OneOfEach.RouteTwins.{bundles_alike}
use Rattle.nudge_phases.proofs.RouteRuns.{some_read}
use Rattle.nudge_phases.specs.Nudged.{HaveOneNudged}
use Rattle.nudge_phases.specs.Raw.{AreRawRoutes, IsRawRoute, routed}
use Rattle.nudge_phases.proofs.SceneLines.{raw_are, raw_few, raw_legal}
use Rattle.nudge_phases.proofs.Zips.{zip_count, zip_read}

-- raw routes of one answer are alike
raw_alike : (s : Scene) (number : ℕ) (route : Route) (a b : PhaseRoute) → IsRawRoute s number route a → IsRawRoute s number route b → IsRouteAlike a b
raw_alike s number route a b one two =
    let edge_is : one.edge ≡ two.edge = same_Some one.edge two.edge (sym one.is_edge ∙ two.is_edge) in
    let start_is : one.start ≡ two.start = same_Some one.start two.start
    (sym one.is_start ∙ ap (λ (e : Edge). slice_get (task_of s e).starts route.start) edge_is ∙ two.is_start) in
    let end_is : one.end ≡ two.end = same_Some one.end two.end
    (sym one.is_end ∙ ap (λ (e : Edge). slice_get (task_of s e).ends route.end) edge_is ∙ two.is_end) in
    record {
      edge = one.of_edge ∙ sym two.of_edge;
      weight = one.weight ∙ ap (λ (e : Edge). e.weight) edge_is ∙ sym two.weight;
      runs = one.runs ∙ sym two.runs;
      source = one.source ∙ ap (λ (c : Choice). c.port) start_is ∙ sym two.source;
      target = one.target ∙ ap (λ (c : Choice). c.port) end_is ∙ sym two.target;
      via = one.via ∙ ap (λ (e : Edge). e.via) edge_is ∙ sym two.via;
    }

raws_alike : (s : Scene) (answers : List Answer) (raw others : List PhaseRoute) → AreRawRoutes s answers raw → AreRawRoutes s answers others → AreRoutesAlike raw others
raws_alike s answers raw others one two =
    let R = λ (p : ℕ × Route) (r : PhaseRoute). IsRawRoute s p.0 p.1 r in
    let count = zip_count R (routed answers) raw one in
    record {
      count = sym count ∙ zip_count R (routed answers) others two;
      each = λ k a b at_a at_b.
          let p = some_read (routed answers) k (let h = slice_get_within raw k a at_a in omega (arith, h, count)) in
          raw_alike s p.0.0 p.0.1 a b (zip_read R (routed answers) raw k p.0 a one p.1 at_a) (zip_read R (routed answers) others k p.0 b two p.1 at_b);
    }

-- a route moves as one that is alike
moved_alike : (way : Way) (found : List RunBundle) (solutions : List Solution) (a b after : PhaseRoute) → IsRouteAlike a b → IsMoved way found solutions a after → IsMoved way found solutions b after
moved_alike way found solutions a b after same is = record {
  ats = is.ats;
  put = subst (λ rs. (k : ℕ) → k < length rs → (run_at rs k).way ≡ way → IsPutAt found solutions (run_at rs k) (int_at is.ats k)) same.runs is.put;
  count = is.count ∙ ap length same.runs;
  runs = subst (λ rs. (k : ℕ) → k < length rs → run_at after.runs.items k ≡ moved_run way rs is.ats k) same.runs is.runs;
  edge = is.edge ∙ same.edge;
  weight = is.weight ∙ same.weight;
  source = is.source ∙ same.source;
  target = is.target ∙ same.target;
  via = is.via ∙ same.via;
}

-- a phase of routes is one of routes that are alike
phase_alike : (solids : List Solid) (before others : List PhaseRoute) (way : Way) (nudge : ℤ) (after : List PhaseRoute) → AreRoutesAlike before others →
    AllPairs (λ (r s : PhaseRoute). r.edge ≢ s.edge) before → IsPhase solids before way nudge after → IsPhase solids others way nudge after
phase_alike solids before others way nudge after alike edges is = record {
  found = is.found;
  solutions = is.solutions;
  bundles = bundles_alike solids before others alike edges way nudge is.found is.bundles;
  solved = is.solved;
  each = is.each;
  count = is.count ∙ alike.count;
  moved = λ k r s at_r at_s.
      let twin = some_read before k (let h = slice_get_within others k r at_r in let count = alike.count in omega (arith, h, count)) in
      moved_alike way is.found is.solutions twin.0 r s (alike.each k twin.0 r twin.1 at_r) (is.moved k twin.0 s twin.1 at_s);
}

pub one_nudged_scene : HaveOneNudged
one_nudged_scene s answers lines others v are one two =
    let alike = raws_alike s answers two.raw one.raw two.are_raw one.are_raw in
    let other = two.nudged in
    let nudge = s.settings.nudge in
    one_nudged (solids s) one.raw nudge lines others one.nudged
    (record {
      after_x = other.after_x;
      after_y = other.after_y;
      x = phase_alike (solids s) two.raw one.raw Vertical nudge other.after_x alike (raw_are s answers v are two.raw two.are_raw).edges other.x;
      y = other.y;
      count = other.count;
      written = other.written;
    })
    (record { raw = raw_are s answers v are one.raw one.are_raw; legal = raw_legal s answers v are one.raw one.are_raw; few = raw_few s answers v are one.raw one.are_raw })
    (record { low = v.settings.nudge; high = v.settings.low_nudge })
