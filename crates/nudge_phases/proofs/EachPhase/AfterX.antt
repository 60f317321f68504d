-- The result of phase x as the input of phase y.
use Rattle.std.proofs.Common.{◌≡◌, ◌≢◌, ℕ, ◌<◌, ◌-◌, ℤ, ◌<ℤ◌, Some, List, length, inl, inr, ap, subst, arith}
use Rattle.std.specs.Prelude.{slice_get, All, AllPairs}
use Rattle.std.proofs.lemmas.Bool.{cases_lt}
use Rattle.std.proofs.lemmas.Int.{ints}
use Rattle.std.proofs.lemmas.List.Elements.{All-get_or}
use Rattle.std.proofs.lemmas.Option.{slice_get_within, get_or_from_slice_get}
use Rattle.plane_geom.specs.declared.point.Way.TheVariants.{Vertical, Horizontal}
use Rattle.plane_geom.specs.declared.rect.Solid.{Solid}
use Rattle.plane_geom.specs.Floor.{Holds}
use Rattle.segment_order.specs.declared.run.Run.{Run}
use Rattle.segment_order.specs.Run.{AreRunsOf, run_at, no_run, line_of_run}
use Rattle.walk_model.specs.declared.task.Choice.{Choice}
use Rattle.walk_model.specs.Choice.{IsChoice}
use Rattle.walk_model.specs.Legal.{IsLegal}
use Rattle.channel_bundles.specs.declared.route.PhaseRoute.{PhaseRoute}
use Rattle.nudge_phases.specs.LegalRuns.{walk_along, steps_of_run}
use Rattle.nudge_phases.specs.Phase.{IsPhase}
use Rattle.nudge_phases.specs.Ready.{AreRaw, HoldsPorts, IsReady}
use Rattle.nudge_phases.proofs.Lengths.{HaveLength}
use Rattle.channel_bundles.specs.Limits.{MayMove}
use Rattle.nudge_phases.proofs.MovedRuns.Corners.{may_stay, short_may_stay}
use Rattle.nudge_phases.proofs.AlongRuns.FromTheWalk.{from_walk, source_held, target_held}
use Rattle.nudge_phases.proofs.EachPhase.PhaseKept.{phase_ready, phase_edges, phase_long, phase_legal, phase_short}

some_steps : (r : Run) → r.lo <ℤ r.hi → 0 < steps_of_run r
some_steps r h = omega (arith, ints, h)

module _ (solids : List Solid) (raw : List PhaseRoute) (nudge : ℤ) (after : List PhaseRoute) (x : IsPhase solids raw Vertical nudge after) (are_raw : AreRaw raw) where
  pub vertical : All (λ (r : PhaseRoute). HaveLength Vertical r.runs.items) raw
  vertical k d h i e g own = are_raw.long k d h i e g

  pub horizontal : All (λ (r : PhaseRoute). HaveLength Horizontal r.runs.items) raw
  horizontal k d h i e g own = are_raw.long k d h i e g

  pub x_ready : All IsReady after
  x_ready = phase_ready solids raw Vertical nudge after x are_raw.ready are_raw.edges horizontal

  pub x_edges : AllPairs (λ (r s : PhaseRoute). r.edge ≢ s.edge) after
  x_edges = phase_edges solids raw Vertical nudge after x are_raw.ready are_raw.edges horizontal

  pub x_vertical : All (λ (r : PhaseRoute). HaveLength Vertical r.runs.items) after
  x_vertical = phase_long solids raw Vertical nudge after x are_raw.ready are_raw.edges horizontal vertical

  -- both phases get routes whose movable runs may stay at their coordinates
  pub both_may_move : (k : ℕ) (route y : PhaseRoute) → slice_get raw k ≡ Some route → slice_get after k ≡ Some y → (s e : Choice) → IsChoice s → IsChoice e → s.port ≡ route.anchors.source_port → e.port ≡ route.anchors.target_port →
      IsLegal solids route.anchors.via.items s (walk_along route.runs.items) e → MayMove solids Vertical route × MayMove solids Horizontal y
  both_may_move k route y at_route at_y s e hs he from to legal =
      let k_raw = slice_get_within raw k route at_route in
      let one = subst IsReady (get_or_from_slice_get raw k route route at_route) (All-get_or IsReady raw k route k_raw are_raw.ready) in
      let y_one = subst IsReady (get_or_from_slice_get after k y y at_y) (All-get_or IsReady after k y (slice_get_within after k y at_y) x_ready) in
      elim (cases_lt (length route.runs.items) 3) as (λ _. MayMove solids Vertical route × MayMove solids Horizontal y) [
        | inl short ↦ (let same = phase_short solids raw Vertical nudge after x are_raw.ready are_raw.edges horizontal k route y at_route at_y (omega arith) in (
          short_may_stay route route.edge one.phase.runs one.ports solids Vertical (omega arith),
          short_may_stay y y.edge y_one.phase.runs y_one.ports solids Horizontal (omega (arith, ap length same)),
        ))
        | inr many ↦ (let all_long = subst (λ (r : PhaseRoute). All (λ (t : Run). t.lo <ℤ t.hi) r.runs.items) (get_or_from_slice_get raw k route route at_route) (are_raw.long k route k_raw) in
            let along = from_walk solids route.anchors.via.items s route.runs.items e route.edge one.phase.runs hs he many all_long legal in
            let along_x = phase_legal solids raw Vertical nudge after x are_raw.ready are_raw.edges horizontal k route y at_route at_y s e from to along in (
              may_stay route route.edge one.phase.runs one.ports solids Vertical along.between,
              may_stay y y.edge y_one.phase.runs y_one.ports solids Horizontal along_x.between,
            ))
      ]

-- the ports of a legal walk lie on its first and on its last run
pub ports_of_walk : (solids : List Solid) (route : PhaseRoute) (s e : Choice) → AreRunsOf route.edge route.runs.items → IsChoice s → IsChoice e → All (λ (r : Run). r.lo <ℤ r.hi) route.runs.items →
    s.port ≡ route.anchors.source_port → e.port ≡ route.anchors.target_port → IsLegal solids route.anchors.via.items s (walk_along route.runs.items) e → HoldsPorts route
ports_of_walk solids route s e are hs he long from to legal =
    let rs = route.runs.items in
    let via = route.anchors.via.items in
    let steps : (k : ℕ) → k < length rs → 0 < steps_of_run (run_at rs k) = λ k h. some_steps (run_at rs k) (long k no_run h) in
    record {
      source = subst (Holds (line_of_run (run_at rs 0))) from (source_held solids via s rs e route.edge are hs he are.some steps legal);
      target = subst (Holds (line_of_run (run_at rs (length rs - 1)))) to (target_held solids via s rs e route.edge are hs he are.some steps legal);
    }
