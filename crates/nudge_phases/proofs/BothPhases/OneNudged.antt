-- Both phases have one result.
use Rattle.std.proofs.Common.{◌≡◌, ◌+◌, ◌<◌, ℤ, List, length, get_or, inl, inr, refl, sym, subst, ◌∙◌, arith}
use Rattle.std.specs.Prelude.{All}
use Rattle.std.proofs.lemmas.List.{same_lists}
use Rattle.std.proofs.lemmas.List.Elements.{All-weaker}
use Rattle.std.proofs.lemmas.Option.{slice_get-get_or, slice_get_cases, same_Some}
use Rattle.plane_geom.specs.declared.point.Way.TheVariants.{Vertical, Horizontal}
use Rattle.plane_geom.specs.declared.rect.Solid.{Solid}
use Rattle.separation_model.specs.Bundle.{IsBundle}
use Rattle.walk_model.specs.declared.route.WrittenRoute.{WrittenRoute}
use Rattle.walk_model.specs.Line.{Draws}
use Rattle.walk_model.specs.Cost.{runs}
use Rattle.walk_model.proofs.Ranking.OneAnswer.{points_are}
use Rattle.channel_bundles.specs.declared.route.PhaseRoute.{PhaseRoute}
use Rattle.channel_bundles.specs.declared.channel.RunBundle.{RunBundle}
use Rattle.channel_bundles.specs.Route.{IsPhaseRoute}
use Rattle.channel_bundles.specs.Limits.{MayMove}
use Rattle.channel_bundles.specs.Links.{IsNudge}
use Rattle.nudge_phases.specs.LegalRuns.{walk_along}
use Rattle.nudge_phases.proofs.RoutesAlike.{AreRoutesAlike, IsRouteAlike}
use Rattle.nudge_phases.specs.Lines.{IsNudged, IsWrittenLine}
use Rattle.nudge_phases.specs.Ready.{AreRaw, AreWalked, IsReady}
use Rattle.nudge_phases.proofs.OneOfEach.OneResult.{one_phase}
use Rattle.nudge_phases.proofs.EachPhase.AfterX.{both_may_move, x_ready, x_edges}
use Rattle.nudge_phases.proofs.EachPhase.Solvable.{few_after, solvable}

-- a list of routes is like itself
like_itself : (routes : List PhaseRoute) → AreRoutesAlike routes routes
like_itself routes = record {
  count = refl;
  each = λ k r s at_r at_s. subst (IsRouteAlike r) (same_Some r s (sym at_r ∙ at_s))
      (record { edge = refl; weight = refl; runs = refl; source = refl; target = refl; via = refl });
}

-- routes that are alike have one written line
one_line : (a b : PhaseRoute) (line other : WrittenRoute) → IsRouteAlike a b → IsWrittenLine a line → IsWrittenLine b other → line ≡ other
one_line a b line other same one two =
    let w = walk_along a.runs.items in
    let draws : Draws other.points w = subst (λ rs. Draws other.points (walk_along rs)) (sym same.runs) two.draws in
    let count : length other.points ≡ runs w.steps + 1 = subst (λ rs. length other.points ≡ runs (walk_along rs).steps + 1) (sym same.runs) two.corners in
    let edge : line.edge ≡ other.edge = one.edge ∙ same.edge ∙ sym two.edge in
    let points : line.points ≡ other.points = points_are line.points w one.draws one.corners ∙ sym (points_are other.points w draws count) in
    λ i. record { edge = edge i; points = points i }

module _ (solids : List Solid) (raw : List PhaseRoute) (nudge : ℤ) (lines others : List WrittenRoute)
    (one : IsNudged solids raw nudge lines) (two : IsNudged solids raw nudge others) (are_raw : AreRaw raw)
    (solvable_x : All (λ (b : RunBundle). IsBundle b.bundle) one.x.found) (solvable_y : All (λ (b : RunBundle). IsBundle b.bundle) one.y.found) where
  good : (routes : List PhaseRoute) → All IsReady routes → All IsPhaseRoute routes
  good routes = All-weaker IsReady IsPhaseRoute (λ r is. is.phase) routes

  same_x : AreRoutesAlike one.after_x two.after_x
  same_x = one_phase solids raw raw (like_itself raw) Vertical nudge one.after_x two.after_x one.x two.x (good raw are_raw.ready) are_raw.edges solvable_x

  same_y : AreRoutesAlike one.after_y two.after_y
  same_y =
      one_phase solids one.after_x two.after_x same_x Horizontal nudge one.after_y two.after_y one.y two.y
      (good one.after_x (x_ready solids raw nudge one.after_x one.x are_raw)) (x_edges solids raw nudge one.after_x one.x are_raw) solvable_y

  -- the lines are the same
  pub same_lines : lines ≡ others
  same_lines =
      let count : length lines ≡ length others = one.count ∙ same_y.count ∙ sym two.count in
      same_lists lines others count
      (λ k d h.
      let h_y : k < length one.after_y = omega (arith, h, one.count) in
      let h_z : k < length two.after_y = omega (arith, h_y, same_y.count) in
      let h_o : k < length others = omega (arith, h, count) in
      elim (slice_get_cases one.after_y k).1 as (λ _. get_or lines k d ≡ get_or others k d) [
        | inl (r, within, here, same) ↦ one_line r (get_or two.after_y k r) (get_or lines k d) (get_or others k d)
            (same_y.each k r (get_or two.after_y k r) here (slice_get-get_or two.after_y k r h_z))
            (one.written k r (get_or lines k d) here (slice_get-get_or lines k d h))
            (two.written k (get_or two.after_y k r) (get_or others k d) (slice_get-get_or two.after_y k r h_z) (slice_get-get_or others k d h_o))
        | inr (past, none) ↦ absurd (omega (arith, past, h_y))
      ])

-- so both results of walked routes are one
module _ (solids : List Solid) (raw : List PhaseRoute) (nudge : ℤ) (lines others : List WrittenRoute)
    (one : IsNudged solids raw nudge lines) (two : IsNudged solids raw nudge others) (walked : AreWalked solids raw) (is_nudge : IsNudge nudge) where
  ready : All IsReady one.after_x
  ready = x_ready solids raw nudge one.after_x one.x walked.raw

  may_move_x : All (MayMove solids Vertical) raw
  may_move_x k d h =
      let route = get_or raw k d in
      let y = get_or one.after_x k d in
      let walk = walked.legal k d h in
      (both_may_move solids raw nudge one.after_x one.x walked.raw k route y (slice_get-get_or raw k d h) (slice_get-get_or one.after_x k d (omega (arith, h, one.x.count)))
      walk.start walk.end walk.is_start walk.is_end walk.source walk.target walk.legal).0

  may_move_y : All (MayMove solids Horizontal) one.after_x
  may_move_y k d h =
      let h_raw : k < length raw = omega (arith, h, one.x.count) in
      let route = get_or raw k d in
      let y = get_or one.after_x k d in
      let walk = walked.legal k d h_raw in
      (both_may_move solids raw nudge one.after_x one.x walked.raw k route y (slice_get-get_or raw k d h_raw) (slice_get-get_or one.after_x k d h)
      walk.start walk.end walk.is_start walk.is_end walk.source walk.target walk.legal).1

  pub one_nudged : lines ≡ others
  one_nudged =
      let phase_routes = All-weaker IsReady IsPhaseRoute (λ r is. is.phase) in
      same_lines solids raw nudge lines others one two walked.raw
      (solvable solids raw Vertical nudge one.x.found one.x.bundles (phase_routes raw walked.raw.ready) may_move_x (walked.few Vertical) is_nudge)
      (solvable solids one.after_x Horizontal nudge one.y.found one.y.bundles (phase_routes one.after_x ready) may_move_y
      (few_after solids raw Vertical nudge one.after_x one.x walked.few Horizontal) is_nudge)
