-- The steps of a phase are the phase, and its result is accepted by the next one.
use Rattle.std.proofs.Common.{◌≡◌, ◌≢◌, ℕ, ◌+◌, ◌-◌, ◌<◌, ℤ, pos, ◌<ℤ◌, Some, List, length, get_or, inl, inr, sym, ap, subst, ◌∙◌, arith, if◌then◌else◌, true≢false}
use Rattle.std.specs.Prelude.{slice_get, All, AllPairs}
use Rattle.std.proofs.lemmas.Bool.{cases_Bool, cases_lt}
use Rattle.std.proofs.lemmas.List.{get_or-map}
use Rattle.std.proofs.lemmas.Option.{slice_get_within, slice_get_past, slice_get-get_or}
use Rattle.plane_geom.specs.declared.point.Way.{Way}
use Rattle.plane_geom.specs.declared.point.Way.TheVariants.{Vertical, Horizontal}
use Rattle.plane_geom.specs.declared.rect.Solid.{Solid}
use Rattle.plane_geom.specs.Along.{along}
use Rattle.segment_order.specs.declared.run.Run.{Run}
use Rattle.segment_order.specs.Run.{run_at, no_run, start_of_run, end_of_run}
use Rattle.separation_model.specs.declared.bundle.Solution.{Solution}
use Rattle.separation_model.specs.Bundle.{int_at}
use Rattle.channel_bundles.specs.declared.route.PhaseRoute.{PhaseRoute}
use Rattle.channel_bundles.specs.declared.channel.RunBundle.{RunBundle}
use Rattle.channel_bundles.specs.Route.{is_way}
use Rattle.channel_bundles.specs.Limits.{MayMove}
use Rattle.channel_bundles.specs.Bundles.{AreBundles}
use Rattle.channel_bundles.proofs.Placing.{is_own}
use Rattle.channel_bundles.proofs.Trees.{cases_below}
use Rattle.nudge_phases.specs.Moved.{IsMoved, IsPutAt, corner, moved_run, runs_way, stretch}
use Rattle.nudge_phases.specs.Phase.{IsPhase}
use Rattle.nudge_phases.specs.Ready.{AreRaw, IsReady}
use Rattle.nudge_phases.proofs.EachPhase.AfterX.{both_may_move, x_edges, x_ready, x_vertical}
use Rattle.nudge_phases.proofs.MovedRuns.Corners.{may_stay, short_may_stay}
use Rattle.nudge_phases.proofs.EachPhase.PhaseKept.{phase_ready}
use Rattle.nudge_phases.proofs.AlongRuns.FromTheWalk.{from_walk}
use Rattle.nudge_phases.specs.Ready.{HasLegalWalk}
use Rattle.nudge_phases.specs.Rising.{EdgesRise}
use Rattle.nudge_phases.specs.Steps.{AreEach, AreSolutionsOf, HasFollowed, IsPut, coordinates}
use Rattle.nudge_phases.proofs.RouteRuns.{all_read, run_is, some_read, still_rise}

abbrev at_z : Run → ℤ → Run
at_z r z = record r { at = z }

-- lists of runs that are alike in their ways
same_ways : (way : Way) (xs ys : List Run) (n : ℕ) → length xs ≡ length ys → ((k : ℕ) → k < length ys → (run_at xs k).way ≡ (run_at ys k).way) → runs_way way (slice_get xs n) ≡ runs_way way (slice_get ys n)
same_ways way xs ys n count same = cases_below {P = runs_way way (slice_get xs n) ≡ runs_way way (slice_get ys n)} n (length ys)
    (λ l. let r = some_read xs n (omega (arith, l, count)) in
    let s = some_read ys n l in
    ap (runs_way way) r.1
    ∙ ap (λ w. is_way w way) (ap (λ (q : Run). q.way) (sym (run_is xs n r.0 r.1)) ∙ same n l ∙ ap (λ (q : Run). q.way) (run_is ys n s.0 s.1))
    ∙ sym (ap (runs_way way) s.1))
    (λ l. ap (runs_way way) (slice_get_past xs n (omega (arith, l, count)) ∙ sym (slice_get_past ys n l)))

module _ (way : Way) (found : List RunBundle) (solutions : List Solution) (before between after : PhaseRoute) (put : IsPut way found solutions before between) (followed : HasFollowed way between after) where
  abbrev old : List Run
  old = before.runs.items

  abbrev mid : List Run
  mid = between.runs.items

  abbrev ats : List ℤ
  ats = coordinates mid

  mid_way : (k : ℕ) → k < length old → (run_at mid k).way ≡ (run_at old k).way
  mid_way k h = ap (λ (q : Run). q.way) (put.runs k h)

  at_is : (k : ℕ) → k < length old → int_at ats k ≡ (run_at mid k).at
  at_is k h = get_or-map (λ (q : Run). q.at) mid k no_run (pos 0) (omega (arith, h, put.count))

  -- moved from where it was put, a run is moved from where it stood
  same_moved : (k : ℕ) → k < length old → moved_run way mid ats k ≡ moved_run way old ats k
  same_moved k h =
      let r = run_at mid k in
      let s = run_at old k in
      elim (cases_Bool (is_way s.way way)) as (λ _. moved_run way mid ats k ≡ moved_run way old ats k) [
        | inl own ↦
            let mine = ap (λ w. is_way w way) (mid_way k h) ∙ own in
            ap (λ b. if b then at_z r (int_at ats k) else stretch r.heading r (corner way mid ats (k - 1) (along r.way (start_of_run r))) (corner way mid ats (k + 1) (along r.way (end_of_run r)))) mine
            ∙ ap (λ q. at_z q (int_at ats k)) (put.runs k h)
            ∙ sym (ap (λ b. if b then at_z s (int_at ats k) else stretch s.heading s (corner way old ats (k - 1) (along s.way (start_of_run s))) (corner way old ats (k + 1) (along s.way (end_of_run s)))) own)
        | inr other ↦
            let ne : s.way ≢ way = λ e. true≢false (sym (is_own s.way way e) ∙ other) in
            let same : r ≡ s = put.runs k h ∙ ap (at_z s) (put.others k h ne) in
            ap (λ q. if is_way q.way way then at_z q (int_at ats k) else stretch q.heading q (corner way mid ats (k - 1) (along q.way (start_of_run q))) (corner way mid ats (k + 1) (along q.way (end_of_run q)))) same
            ∙ ap (λ b. if is_way s.way way then at_z s (int_at ats k) else stretch s.heading s (if b then int_at ats (k - 1) else along s.way (start_of_run s)) (corner way mid ats (k + 1) (along s.way (end_of_run s)))) (same_ways way mid old (k - 1) put.count mid_way)
            ∙ ap (λ b. if is_way s.way way then at_z s (int_at ats k) else stretch s.heading s (corner way old ats (k - 1) (along s.way (start_of_run s))) (if b then int_at ats (k + 1) else along s.way (end_of_run s))) (same_ways way mid old (k + 1) put.count mid_way)
      ]

  pub moved : IsMoved way found solutions before after
  moved = record {
    ats = ats;
    put = λ k h own. subst (IsPutAt found solutions (run_at old k)) (sym (at_is k h)) (put.own k h own);
    count = followed.runs.count ∙ put.count;
    runs = λ k h. followed.runs.runs k (omega (arith, h, put.count)) ∙ same_moved k h;
    edge = followed.same.edge ∙ put.same.edge;
    weight = followed.same.weight ∙ put.same.weight;
    source = ap (λ a. a.source_port) (followed.same.anchors ∙ put.same.anchors);
    target = ap (λ a. a.target_port) (followed.same.anchors ∙ put.same.anchors);
    via = ap (λ a. a.via.items) (followed.same.anchors ∙ put.same.anchors);
  }

pub is_phase : (solids : List Solid) (before between after : List PhaseRoute) (way : Way) (nudge : ℤ) (found : List RunBundle) (solutions : List Solution) → AreBundles solids before way nudge found →
    AreSolutionsOf found solutions → AreEach (IsPut way found solutions) before between → AreEach (HasFollowed way) between after → IsPhase solids before way nudge after
is_phase solids before between after way nudge found solutions bundles solved puts follows = record {
  found = found;
  solutions = solutions;
  bundles = bundles;
  solved = solved.count;
  each = solved.each;
  count = follows.count ∙ puts.count;
  moved = λ k r s at_r at_s.
      let q = some_read between k (omega (arith, slice_get_within before k r at_r, puts.count)) in
      moved way found solutions r q.0 s (puts.each k r q.0 at_r q.1) (follows.each k q.0 s q.1 at_s);
}

module _ (solids : List Solid) (before : List PhaseRoute) (way : Way) (nudge : ℤ) (after : List PhaseRoute) (phase : IsPhase solids before way nudge after) where
  -- a phase keeps the order of the edges
  pub phase_rises : EdgesRise before → EdgesRise after
  phase_rises rise = still_rise before after phase.count (λ k r s e f. (phase.moved k r s e f).edge) rise

-- edges that rise differ
pub rising_differ : (routes : List PhaseRoute) → EdgesRise routes → AllPairs (λ (r s : PhaseRoute). r.edge ≢ s.edge) routes
rising_differ routes rise i j d h g same = omega (arith, rise i j d h g, same)

-- what holds of one route before a phase and after it holds of all
pub all_after : (P : PhaseRoute → Type 0) (before after : List PhaseRoute) → length after ≡ length before → ((k : ℕ) (r s : PhaseRoute) → slice_get before k ≡ Some r → slice_get after k ≡ Some s → P s) → All P after
all_after P before after count each k d h =
    let r = some_read before k (omega (arith, h, count)) in
    each k r.0 (get_or after k d) r.1 (slice_get-get_or after k d h)

-- a raw route with a legal walk may stand where it stands
pub may_stand : (solids : List Solid) (way : Way) (route : PhaseRoute) → IsReady route → All (λ (t : Run). t.lo <ℤ t.hi) route.runs.items → HasLegalWalk solids route → MayMove solids way route
may_stand solids way route is long has =
    let runs = route.runs.items in
    elim (cases_lt (length runs) 3) as (λ _. MayMove solids way route) [
      | inl short ↦ short_may_stay route route.edge is.phase.runs is.ports solids way (omega arith)
      | inr many ↦ may_stay route route.edge is.phase.runs is.ports solids way
          (from_walk solids route.anchors.via.items has.start runs has.end route.edge is.phase.runs has.is_start has.is_end many long has.legal).between
    ]

module _ (solids : List Solid) (raw : List PhaseRoute) (nudge : ℤ) (are_raw : AreRaw raw) (legal : All (HasLegalWalk solids) raw) where
  pub raw_may_move : All (MayMove solids Vertical) raw
  raw_may_move k d h = may_stand solids Vertical (get_or raw k d) (are_raw.ready k d h) (are_raw.long k d h) (legal k d h)

  module _ (after_x : List PhaseRoute) (x : IsPhase solids raw Vertical nudge after_x) where
    pub x_ready_all : All IsReady after_x
    x_ready_all = x_ready solids raw nudge after_x x are_raw

    pub x_may_move : All (MayMove solids Horizontal) after_x
    x_may_move = all_after (MayMove solids Horizontal) raw after_x x.count
        (λ k r s at_r at_s. let has = all_read (HasLegalWalk solids) raw k r legal at_r in
        (both_may_move solids raw nudge after_x x are_raw k r s at_r at_s has.start has.end has.is_start has.is_end has.source has.target has.legal).1)

    pub y_ready_all : (after_y : List PhaseRoute) → IsPhase solids after_x Horizontal nudge after_y → All IsReady after_y
    y_ready_all after_y y = phase_ready solids after_x Horizontal nudge after_y y x_ready_all (x_edges solids raw nudge after_x x are_raw) (x_vertical solids raw nudge after_x x are_raw)
