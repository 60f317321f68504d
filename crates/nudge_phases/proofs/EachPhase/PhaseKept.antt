-- What a phase keeps of its routes.
use Rattle.std.proofs.Common.{◌≡◌, ◌≢◌, ℕ, ◌+◌, ◌-◌, ◌<◌, ◌≤◌, ℤ, ◌<ℤ◌, Some, List, length, get_or, sym, ap, subst, ◌∙◌, arith}
use Rattle.std.specs.Prelude.{slice_get, Contains, All, AllPairs}
use Rattle.std.proofs.lemmas.List.{ext_get_or, get_or_default}
use Rattle.std.proofs.lemmas.List.Elements.{All-contains, All-get_or, All-weaker}
use Rattle.std.proofs.lemmas.Option.{slice_get_within, slice_get-get_or, get_or_from_slice_get}
use Rattle.plane_geom.specs.declared.point.Way.{Way}
use Rattle.plane_geom.specs.declared.rect.Solid.{Solid}
use Rattle.plane_geom.specs.Point.{PointIsOnSheet}
use Rattle.plane_geom.specs.Floor.{Holds}
use Rattle.separation_model.specs.declared.bundle.Solution.{Solution}
use Rattle.segment_order.specs.declared.run.Run.{Run}
use Rattle.segment_order.specs.Run.{AreRunsOf, run_at, line_of_run, no_run}
use Rattle.walk_model.specs.declared.task.Choice.{Choice}
use Rattle.channel_bundles.specs.declared.route.PhaseRoute.{PhaseRoute}
use Rattle.channel_bundles.specs.declared.channel.RunBundle.{RunBundle}
use Rattle.channel_bundles.specs.Route.{IsPhaseRoute}
use Rattle.channel_bundles.specs.Limits.{MayMove}
use Rattle.nudge_phases.specs.Moved.{IsMoved, moved_run}
use Rattle.nudge_phases.specs.Phase.{IsPhase}
use Rattle.nudge_phases.specs.LegalRuns.{IsLegalAlong}
use Rattle.nudge_phases.specs.Ready.{IsReady}
use Rattle.nudge_phases.proofs.Lengths.{HaveLength}
use Rattle.nudge_phases.proofs.MovedRuns.Ends.{turned}
use Rattle.nudge_phases.proofs.MovedRuns.Corners.{IsSettled, moved_runs, keeps_source, keeps_target, keeps_length, keeps_legal_along, new_way, short_stays, may_stay}
use Rattle.nudge_phases.specs.Apart.{KeepsApart}
use Rattle.nudge_phases.proofs.EachPhase.FromPhase.{is_settled, all_apart}

-- a route that has moved
module _ (solids : List Solid) (way : Way) (found : List RunBundle) (solutions : List Solution) (before after : PhaseRoute) (ready : IsReady before) (moved : IsMoved way found solutions before after) (settled : IsSettled solids way before moved.ats) where
  are : AreRunsOf before.edge before.runs.items
  are = ready.phase.runs

  pub stays_ready : IsReady after
  stays_ready =
      let n = length before.runs.items in
      let first : 0 < n = are.some in
      let last : n - 1 + 1 ≡ n = omega (arith, first) in
      let at_last : run_at after.runs.items (length after.runs.items - 1) ≡ moved_run way before.runs.items moved.ats (n - 1) = ap (λ m. run_at after.runs.items (m - 1)) moved.count ∙ moved.runs (n - 1) (omega (arith, first)) in
      record {
        phase = record {
          runs = subst (λ edge. AreRunsOf edge after.runs.items) (sym moved.edge) (moved_runs before before.edge are ready.ports solids way moved.ats settled after.runs.items moved.count moved.runs);
          via = subst (All PointIsOnSheet) (sym moved.via) ready.phase.via;
          source = subst PointIsOnSheet (sym moved.source) ready.phase.source;
          target = subst PointIsOnSheet (sym moved.target) ready.phase.target;
          weight_low = omega (arith, moved.weight, ready.phase.weight_low);
          weight_high = omega (arith, moved.weight, ready.phase.weight_high);
        };
        ports = record {
          source = subst (λ (r : Run). Holds (line_of_run r) after.anchors.source_port) (sym (moved.runs 0 first))
              (subst (Holds (line_of_run (moved_run way before.runs.items moved.ats 0))) (sym moved.source) (keeps_source before before.edge are ready.ports solids way moved.ats settled first));
          target = subst (λ (r : Run). Holds (line_of_run r) after.anchors.target_port) (sym at_last)
              (subst (Holds (line_of_run (moved_run way before.runs.items moved.ats (n - 1)))) (sym moved.target) (keeps_target before before.edge are ready.ports solids way moved.ats settled (n - 1) last));
        };
      }

  pub stays_long : HaveLength way before.runs.items → HaveLength way after.runs.items
  stays_long long k d h own =
      let in_before : k < length before.runs.items = omega (arith, moved.count) in
      let at_k : get_or after.runs.items k d ≡ moved_run way before.runs.items moved.ats k = get_or_default after.runs.items k d no_run h ∙ moved.runs k in_before in
      let own_before : (run_at before.runs.items k).way ≡ way = sym (new_way before before.edge are ready.ports solids way moved.ats settled k) ∙ ap (λ (r : Run). r.way) (sym at_k) ∙ own in
      subst (λ (r : Run). r.lo <ℤ r.hi) (sym at_k)
      (keeps_length before before.edge are ready.ports solids way moved.ats settled k in_before own_before (long k no_run in_before own_before))

  pub stays_legal : (s e : Choice) → s.port ≡ before.anchors.source_port → e.port ≡ before.anchors.target_port → IsLegalAlong solids before.anchors.via.items s before.runs.items e → IsLegalAlong solids after.anchors.via.items s after.runs.items e
  stays_legal s e from to legal =
      subst (λ via. IsLegalAlong solids via s after.runs.items e) (sym moved.via)
      (keeps_legal_along before before.edge are ready.ports solids way moved.ats settled after.runs.items moved.count moved.runs s e from to legal)

  pub stays_short : length before.runs.items ≤ 2 → after.runs.items ≡ before.runs.items
  stays_short few = ext_get_or no_run after.runs.items before.runs.items moved.count
      (λ k h. moved.runs k (omega (arith, h, moved.count)) ∙ short_stays before before.edge are ready.ports solids way moved.ats settled k (omega (arith, h, moved.count)) few)

-- a phase, route by route
module _ (solids : List Solid) (before : List PhaseRoute) (way : Way) (nudge : ℤ) (after : List PhaseRoute) (p : IsPhase solids before way nudge after)
    (ready : All IsReady before) (edges : AllPairs (λ (r s : PhaseRoute). r.edge ≢ s.edge) before) (long : All (λ (r : PhaseRoute). HaveLength (turned way) r.runs.items) before) where
  pub phase_settled : (k : ℕ) (r s : PhaseRoute) (at_r : slice_get before k ≡ Some r) (at_s : slice_get after k ≡ Some s) → IsSettled solids way r (p.moved k r s at_r at_s).ats
  phase_settled k r s at_r at_s =
      let moved = p.moved k r s at_r at_s in
      let has : Contains before r = (k, slice_get_within before k r at_r, get_or_from_slice_get before k r r at_r) in
      is_settled solids before way nudge p.found p.solutions p.bundles p.each
      (All-weaker IsReady IsPhaseRoute (λ t one. one.phase) before ready) edges
      r moved.ats has (All-contains IsReady before r ready has).ports (All-contains (λ (t : PhaseRoute). HaveLength (turned way) t.runs.items) before r long has) moved.put

  ready_at : (k : ℕ) (r : PhaseRoute) → slice_get before k ≡ Some r → IsReady r
  ready_at k r at_r = subst IsReady (get_or_from_slice_get before k r r at_r) (All-get_or IsReady before k r (slice_get_within before k r at_r) ready)

  pub phase_ready : All IsReady after
  phase_ready k d h =
      let r = get_or before k d in
      let s = get_or after k d in
      let at_r : slice_get before k ≡ Some r = slice_get-get_or before k d (omega (arith, p.count)) in
      let at_s : slice_get after k ≡ Some s = slice_get-get_or after k d h in
      stays_ready solids way p.found p.solutions r s (ready_at k r at_r) (p.moved k r s at_r at_s) (phase_settled k r s at_r at_s)

  pub phase_edges : AllPairs (λ (r s : PhaseRoute). r.edge ≢ s.edge) after
  phase_edges i j d h g e =
      let edge_at : (k : ℕ) → k < length after → (get_or after k d).edge ≡ (get_or before k d).edge = λ k in_list.
      (p.moved k (get_or before k d) (get_or after k d) (slice_get-get_or before k d (omega (arith, p.count))) (slice_get-get_or after k d in_list)).edge in
      edges i j d h (omega (arith, p.count)) (sym (edge_at i (omega arith)) ∙ e ∙ edge_at j g)

  pub phase_long : All (λ (r : PhaseRoute). HaveLength way r.runs.items) before → All (λ (r : PhaseRoute). HaveLength way r.runs.items) after
  phase_long own k d h =
      let r = get_or before k d in
      let s = get_or after k d in
      let k_in : k < length before = omega (arith, p.count) in
      let at_r : slice_get before k ≡ Some r = slice_get-get_or before k d k_in in
      let at_s : slice_get after k ≡ Some s = slice_get-get_or after k d h in
      stays_long solids way p.found p.solutions r s (ready_at k r at_r) (p.moved k r s at_r at_s) (phase_settled k r s at_r at_s) (own k d k_in)

  pub phase_legal : (k : ℕ) (r t : PhaseRoute) → slice_get before k ≡ Some r → slice_get after k ≡ Some t → (s e : Choice) → s.port ≡ r.anchors.source_port → e.port ≡ r.anchors.target_port →
      IsLegalAlong solids r.anchors.via.items s r.runs.items e → IsLegalAlong solids t.anchors.via.items s t.runs.items e
  phase_legal k r t at_r at_t s e from to legal = stays_legal solids way p.found p.solutions r t (ready_at k r at_r) (p.moved k r t at_r at_t) (phase_settled k r t at_r at_t) s e from to legal

  pub phase_short : (k : ℕ) (r t : PhaseRoute) → slice_get before k ≡ Some r → slice_get after k ≡ Some t → length r.runs.items ≤ 2 → t.runs.items ≡ r.runs.items
  phase_short k r t at_r at_t few = stays_short solids way p.found p.solutions r t (ready_at k r at_r) (p.moved k r t at_r at_t) (phase_settled k r t at_r at_t) few

  -- the other phase accepts the routes of the result
  pub phase_may_move : (k : ℕ) (r : PhaseRoute) (other : Way) → slice_get after k ≡ Some r → (s e : Choice) → IsLegalAlong solids r.anchors.via.items s r.runs.items e → MayMove solids other r
  phase_may_move k r other at_r s e legal =
      let one = subst IsReady (get_or_from_slice_get after k r r at_r) (All-get_or IsReady after k r (slice_get_within after k r at_r) phase_ready) in
      may_stay r r.edge one.phase.runs one.ports solids other legal.between

-- a phase meets every separation
pub keeps_apart : (solids : List Solid) (before : List PhaseRoute) (way : Way) (nudge : ℤ) (after : List PhaseRoute) (p : IsPhase solids before way nudge after) →
    All IsPhaseRoute before → AllPairs (λ (r s : PhaseRoute). r.edge ≢ s.edge) before → KeepsApart p
keeps_apart solids before way nudge after p good edges i j a b y z = all_apart solids before way nudge p.found p.solutions p.bundles p.each good edges i j a b y z
