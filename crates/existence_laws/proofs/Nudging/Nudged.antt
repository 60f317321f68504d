-- Right answers of a scene have nudged lines: raw routes, both phases, and the line along each route.
use Rattle.std.proofs.Common.{ℕ, ◌+◌, ◌≤◌, ◌^◌, ℤ, List, [], ◌∷◌, length, get_or, slice_get, refl, sym, ap, ◌∙◌, arith}
use Rattle.std.specs.Prelude.{All}
use Rattle.std.proofs.lemmas.Int.{ints}
use Rattle.std.proofs.lemmas.List.Elements.{recursion_from_All}
use Rattle.plane_geom.specs.declared.point.Point.{Point}
use Rattle.plane_geom.specs.declared.point.Way.TheVariants.{Vertical, Horizontal}
use Rattle.plane_geom.specs.declared.rect.Solid.{Solid}
use Rattle.segment_order.specs.Run.{runs_along}
use Rattle.walk_model.specs.declared.route.Answer.{Answer}
use Rattle.walk_model.specs.declared.route.Route.{Route}
use Rattle.walk_model.specs.declared.route.WrittenRoute.{WrittenRoute}
use Rattle.walk_model.proofs.Ranking.SomeRoute.{some_route}
use Rattle.scene_model.specs.Scene.{Scene}
use Rattle.scene_model.specs.Valid.{IsValid}
use Rattle.scene_model.specs.Answers.{AreAnswers}
use Rattle.scene_model.specs.Routing.{solids, task_of}
use Rattle.channel_bundles.specs.declared.route.PhaseRoute.{PhaseRoute}
use Rattle.channel_bundles.specs.Links.{IsNudge}
use Rattle.nudge_phases.specs.LegalRuns.{walk_along}
use Rattle.nudge_phases.specs.Lines.{IsNudged, IsWrittenLine}
use Rattle.nudge_phases.specs.Ready.{AreRaw, HasLegalWalk, HaveFewRuns}
use Rattle.nudge_phases.proofs.EachPhase.Solvable.{as_many}
use Rattle.nudge_phases.proofs.BetweenPhases.{raw_may_move, x_may_move, x_ready_all}
use Rattle.nudge_phases.specs.Raw.{AreRawRoutes, IsRawRoute, routed}
use Rattle.nudge_phases.proofs.Answered.{IsAnswered, answered}
use Rattle.nudge_phases.proofs.RawReady.{few_points}
use Rattle.nudge_phases.proofs.SceneLines.{raw_are, raw_few, raw_legal}
use Rattle.nudge_phases.proofs.Zips.{zip_count, zip_read}
use Rattle.existence_laws.specs.Nudged.{HaveNudgedLines}
use Rattle.existence_laws.proofs.Answering.Answered.{partners}
use Rattle.channel_bundles.proofs.Whole.{vec_of}
use Rattle.existence_laws.proofs.Nudging.Phases.{some_phase}

-- a line has fewer runs than points
few_along : (number place : ℕ) (points : List Point) → length (runs_along number place points) ≤ length points
few_along number place [] = omega arith
few_along number place (p ∷ []) = omega arith
few_along number place (p ∷ q ∷ ps) = omega (arith, few_along number (place + 1) (q ∷ ps))

raw_route : (s : Scene) → IsValid s → (number : ℕ) (route : Route) → IsAnswered s number route → (raw : PhaseRoute) × IsRawRoute s number route raw
raw_route s valid number route a =
    let edge = a.edge in
    let legal = a.first.legal in
    let few : length (runs_along number 1 route.points) ≤ 2 ^ 32 = omega (arith, few_along number 1 route.points, few_points s valid number route a) in
    let few_via = a.connector.edge.few_via in (
      record {
        edge = number;
        runs = vec_of (runs_along number 1 route.points) (omega (arith, few));
        anchors = record { source_port = legal.start.port; target_port = legal.end.port; via = vec_of edge.via (omega (arith, few_via)) };
        weight = edge.weight;
      },
      record {
        edge = edge;
        is_edge = a.known;
        start = legal.start;
        is_start = ap (slice_get (task_of s edge).starts) a.route_of.start ∙ legal.is_start;
        end = legal.end;
        is_end = ap (slice_get (task_of s edge).ends) a.route_of.end ∙ legal.is_end;
        of_edge = refl;
        runs = refl;
        source = refl;
        target = refl;
        via = refl;
        weight = refl;
      },
    )

raw_routes : (s : Scene) (answers : List Answer) → IsValid s → AreAnswers s answers → (raw : List PhaseRoute) × AreRawRoutes s answers raw
raw_routes s answers valid are = partners (λ p r. IsRawRoute s p.0 p.1 r) (routed answers)
    (recursion_from_All (λ (p : ℕ × Route). (r : PhaseRoute) × IsRawRoute s p.0 p.1 r) (routed answers)
    (λ k d h. (let p = get_or (routed answers) k d in raw_route s valid p.0 p.1 (answered s answers valid are k d h))))

-- each walk has a line with the fewest corners
written_line : (route : PhaseRoute) → (line : WrittenRoute) × IsWrittenLine route line
written_line route =
    let walk = walk_along route.runs.items in
    let line = some_route (record { starts = []; ends = []; via = []; penalty = 0 }) (record { start = 0; walk = walk; end = 0 }) in
    (record { edge = route.edge; points = line.0.points }, record { edge = refl; draws = line.1.draws; corners = line.1.corners })

both_phases : (solids : List Solid) (raw : List PhaseRoute) (nudge : ℤ) → AreRaw raw → All (HasLegalWalk solids) raw → HaveFewRuns raw → IsNudge nudge →
    (lines : List WrittenRoute) × IsNudged solids raw nudge lines
both_phases solids raw nudge are legal few is_nudge =
    let x = some_phase solids raw Vertical nudge (λ k d h. (are.ready k d h).phase) (raw_may_move solids raw nudge are legal) (few Vertical) is_nudge in
    let same = as_many solids raw Vertical nudge x.0 x.1 Horizontal in
    let most = few Horizontal in
    let ready = x_ready_all solids raw nudge are legal x.0 x.1 in
    let y = some_phase solids x.0 Horizontal nudge (λ k d h. (ready k d h).phase) (x_may_move solids raw nudge are legal x.0 x.1) (omega (arith, same, most)) is_nudge in
    let lines = partners IsWrittenLine y.0 (recursion_from_All (λ r. (l : WrittenRoute) × IsWrittenLine r l) y.0 (λ k d h. written_line (get_or y.0 k d))) in (
      lines.0,
      record {
        after_x = x.0;
        after_y = y.0;
        x = x.1;
        y = y.1;
        count = sym (zip_count IsWrittenLine y.0 lines.0 lines.1);
        written = λ k route line e f. zip_read IsWrittenLine y.0 lines.0 k route line lines.1 e f;
      },
    )

pub some_nudged_lines : HaveNudgedLines
some_nudged_lines s answers valid are =
    let raw = raw_routes s answers valid are in
    let settings = valid.settings in
    let nudged = both_phases (solids s) raw.0 s.settings.nudge (raw_are s answers valid are raw.0 raw.1) (raw_legal s answers valid are raw.0 raw.1) (raw_few s answers valid are raw.0 raw.1)
    (record { low = settings.nudge; high = omega (arith, ints, settings.low_nudge) }) in
    (nudged.0, record { raw = raw.0; are_raw = raw.1; nudged = nudged.1 })
