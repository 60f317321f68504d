-- Each written line is a legal walk.
use Rattle.std.proofs.Common.{◌≡◌, ◌≢◌, ◌<◌, ℤ, ◌<ℤ◌, Some, List, length, get_or, inl, inr, sym, ap, subst, ◌∙◌, arith}
use Rattle.std.specs.Prelude.{slice_get, All, AllPairs}
use Rattle.std.proofs.lemmas.Bool.{cases_lt}
use Rattle.std.proofs.lemmas.List.Elements.{All-get_or, All-weaker}
use Rattle.std.proofs.lemmas.Option.{slice_get_within, slice_get-get_or, get_or_from_slice_get}
use Rattle.plane_geom.specs.declared.point.Way.TheVariants.{Vertical, Horizontal}
use Rattle.plane_geom.specs.declared.rect.Solid.{Solid}
use Rattle.segment_order.specs.declared.run.Run.{Run}
use Rattle.walk_model.specs.declared.route.WrittenRoute.{WrittenRoute}
use Rattle.walk_model.specs.Legal.{IsLegal}
use Rattle.walk_laws.proofs.Replacing.Tours.{tour_from_legal}
use Rattle.channel_bundles.specs.declared.route.PhaseRoute.{PhaseRoute}
use Rattle.nudge_phases.specs.LegalRuns.{IsLegalAlong, walk_along}
use Rattle.nudge_phases.specs.Lines.{IsNudged, KeepsLegal}
use Rattle.channel_bundles.specs.Route.{IsPhaseRoute}
use Rattle.nudge_phases.specs.Apart.{KeepsApart}
use Rattle.nudge_phases.specs.Ready.{AreRaw, IsReady}
use Rattle.nudge_phases.proofs.Lengths.{HaveLength}
use Rattle.nudge_phases.proofs.AlongRuns.FromTheWalk.{from_walk}
use Rattle.nudge_phases.proofs.AlongRuns.ToTheWalk.{legal_walk}
use Rattle.nudge_phases.proofs.EachPhase.AfterX.{horizontal, x_ready, x_edges, x_vertical}
use Rattle.nudge_phases.proofs.EachPhase.PhaseKept.{keeps_apart, phase_ready, phase_legal, phase_short}

module _ (solids : List Solid) (raw : List PhaseRoute) (nudge : ℤ) (lines : List WrittenRoute) (nudged : IsNudged solids raw nudge lines) (are_raw : AreRaw raw) where
  flat : All (λ (r : PhaseRoute). HaveLength Horizontal r.runs.items) raw
  flat = horizontal solids raw nudge nudged.after_x nudged.x are_raw

  ready : All IsReady nudged.after_x
  ready = x_ready solids raw nudge nudged.after_x nudged.x are_raw

  edges : AllPairs (λ (r s : PhaseRoute). r.edge ≢ s.edge) nudged.after_x
  edges = x_edges solids raw nudge nudged.after_x nudged.x are_raw

  upright : All (λ (r : PhaseRoute). HaveLength Vertical r.runs.items) nudged.after_x
  upright = x_vertical solids raw nudge nudged.after_x nudged.x are_raw

  -- both phases keep their separations
  pub nudged_is_apart : KeepsApart nudged.x × KeepsApart nudged.y
  nudged_is_apart = (
    keeps_apart solids raw Vertical nudge nudged.after_x nudged.x (All-weaker IsReady IsPhaseRoute (λ t one. one.phase) raw are_raw.ready) are_raw.edges,
    keeps_apart solids nudged.after_x Horizontal nudge nudged.after_y nudged.y (All-weaker IsReady IsPhaseRoute (λ t one. one.phase) nudged.after_x ready) edges,
  )

  -- each written line draws a legal walk
  pub nudged_is_legal : KeepsLegal solids raw lines
  nudged_is_legal k route line at_route at_line s e hs he from to legal =
      let k_raw = slice_get_within raw k route at_route in
      let k_x : k < length nudged.after_x = omega (arith, k_raw, nudged.x.count) in
      let k_y : k < length nudged.after_y = omega (arith, k_x, nudged.y.count) in
      let x = get_or nudged.after_x k route in
      let y = get_or nudged.after_y k route in
      let at_x : slice_get nudged.after_x k ≡ Some x = slice_get-get_or nudged.after_x k route k_x in
      let at_y : slice_get nudged.after_y k ≡ Some y = slice_get-get_or nudged.after_y k route k_y in
      let to_x = nudged.x.moved k route x at_route at_x in
      let to_y = nudged.y.moved k x y at_x at_y in
      let written = nudged.written k y line at_y at_line in
      let via = route.anchors.via.items in
      let one = subst IsReady (get_or_from_slice_get raw k route route at_route) (All-get_or IsReady raw k route k_raw are_raw.ready) in (
        walk_along y.runs.items,
        written.draws,
        elim (cases_lt (length route.runs.items) 3) as (λ _. IsLegal solids via s (walk_along y.runs.items) e) [
          | inl short ↦ (let first = phase_short solids raw Vertical nudge nudged.after_x nudged.x are_raw.ready are_raw.edges flat k route x at_route at_x (omega arith) in
              let second = phase_short solids nudged.after_x Horizontal nudge nudged.after_y nudged.y ready edges upright k x y at_x at_y (omega (arith, ap length first)) in
              subst (λ runs. IsLegal solids via s (walk_along runs) e) (sym (second ∙ first)) legal)
          | inr many ↦ (let all_long = subst (λ (r : PhaseRoute). All (λ (t : Run). t.lo <ℤ t.hi) r.runs.items) (get_or_from_slice_get raw k route route at_route) (are_raw.long k route k_raw) in
              let along = from_walk solids via s route.runs.items e route.edge one.phase.runs hs he many all_long legal in
              let along_x = phase_legal solids raw Vertical nudge nudged.after_x nudged.x are_raw.ready are_raw.edges flat k route x at_route at_x s e from to along in
              let along_y = phase_legal solids nudged.after_x Horizontal nudge nudged.after_y nudged.y ready edges upright k x y at_x at_y s e (from ∙ sym to_x.source) (to ∙ sym to_x.target) along_x in
              let along_via = subst (λ cs. IsLegalAlong solids cs s y.runs.items e) (to_y.via ∙ to_x.via) along_y in
              let y_ready = phase_ready solids nudged.after_x Horizontal nudge nudged.after_y nudged.y ready edges upright in
              let y_one = All-get_or IsReady nudged.after_y k route k_y y_ready in
              let tour = (tour_from_legal solids via s (walk_along route.runs.items) e hs he legal).1 in
              legal_walk solids via s y.runs.items e y.edge y_one.phase.runs hs he along_via tour.start_stub tour.end_stub)
        ],
      )
