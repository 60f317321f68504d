-- A run of the other way is drawn from corner to corner.
use Rattle.std.proofs.Common.{◌≡◌, ◌+◌, ◌-◌, false, get_or, sym, ap, ◌∙◌, rules, w64, FitsSigned, if◌then◌else◌}
use Rattle.std.specs.Prelude.{slice_get}
use Rattle.std.proofs.lemmas.Int.{to_z-of_z}
use Rattle.segment_order.specs.declared.run.Run.{Run}
use Rattle.segment_order.specs.Run.{start_of_run, end_of_run}
use Rattle.plane_geom.specs.Along.{along}
use Rattle.nudge_phases.specs.Moved.{stretch}
use Rattle.channel_bundles.specs.Route.{is_way}
use Rattle.nudge_phases.specs.Steps.{corner_at}
use Rattle.nudge_phases.proofs.Following.{drawn, moved_is}
use Rattle.nudge_phases.proofs.RouteRuns.{past_run, same_read}
use Rattle.nudge_phases.proofs.moves.followed.Goals as goal

pub returns : goal.returns
returns c =
    let from_fits : FitsSigned w64 c.along.result = search rules in
    let to_fits : FitsSigned w64 c.along-2.result = search rules in
    let drawn_from : FitsSigned w64 c.corner-from.result = search rules in
    let drawn_to : FitsSigned w64 c.corner-to.result = search rules in
    let runs = c.args.runs.now in
    let k = c.args.k in
    let way = c.args.way in
    let p = get_or runs k past_run in
    let other : is_way p.way way ≡ false = sym c.is_of_way.ensures ∙ c.if-is_of_way.false in
    let from : c.corner-from.result ≡ corner_at way (slice_get runs (k - 1)) (along p.way (start_of_run p)) =
    (simp to_z-of_z at c.corner-from.ensures) ∙ ap (λ n. corner_at way (slice_get runs n) c.along.result) c.saturating_sub.ensures
    ∙ ap (corner_at way (slice_get runs (k - 1))) (c.along.ensures ∙ ap (along p.way) c.start.ensures) in
    let to : c.corner-to.result ≡ corner_at way (slice_get runs (k + 1)) (along p.way (end_of_run p)) =
    (simp to_z-of_z at c.corner-to.ensures) ∙ ap (corner_at way (slice_get runs (k + 1))) (c.along-2.ensures ∙ ap (along p.way) c.end.ensures) in
    let drawn_is : c.stretched.result ≡ stretch p.heading p (corner_at way (slice_get runs (k - 1)) (along p.way (start_of_run p))) (corner_at way (slice_get runs (k + 1)) (along p.way (end_of_run p))) =
    (simp to_z-of_z at c.stretched.ensures) ∙ ap (λ z. stretch p.heading p z c.corner-to.result) from ∙ ap (λ z. stretch p.heading p (corner_at way (slice_get runs (k - 1)) (along p.way (start_of_run p))) z) to in
    drawn_is
    ∙ sym (ap (λ b. if b then p else stretch p.heading p (corner_at way (slice_get runs (k - 1)) (along p.way (start_of_run p))) (corner_at way (slice_get runs (k + 1)) (along p.way (end_of_run p)))) other)
    ∙ ap (λ (q : Run). drawn way q (slice_get runs (k - 1)) (slice_get runs (k + 1))) (same_read runs k c.requires)
    ∙ sym (moved_is way runs k c.requires)
