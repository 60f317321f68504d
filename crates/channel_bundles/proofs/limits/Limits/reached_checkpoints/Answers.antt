-- One checkpoint after another is reached, where it lies on the run.
use Rattle.std.proofs.Common.{◌↔◌, get_or, subst, arith, w64, FitsSigned, rules}
use Rattle.std.proofs.lemmas.Int.{to_z-of_z}
use Rattle.std.proofs.lemmas.List.Elements.{All-contains, Contains-get_or}
use Rattle.plane_geom.specs.declared.point.Point.{Point}
use Rattle.plane_geom.specs.Along.{across}
use Rattle.plane_geom.specs.Floor.{Holds}
use Rattle.segment_order.specs.Run.{line_of_run}
use Rattle.channel_bundles.specs.Limits.{IsReached}
use Rattle.channel_bundles.proofs.Ranges.{more}
use Rattle.channel_bundles.proofs.limits.Limits.reached_checkpoints.Goals as goal

pub loop-p-init : goal.loop-p-init
loop-p-init c = λ z. (λ f. (f, λ k d h. absurd (omega arith)), λ both. both.0)

same : {T H R S : Type 0} → (T ↔ H) → (R ↔ S) → (T → R) ↔ (H → S)
same {T} {H} {R} {S} test is = (λ f h. is.0 (f (test.1 h)), λ f t. is.1 (f (test.0 t)))

pub loop-p-preserved : goal.loop-p-preserved
loop-p-preserved c =
    let run = c.args.run.now in
    let fits : FitsSigned w64 c.across.result = search rules in
    let reached = simp to_z-of_z at c.reached_if-limits.ensures in
    λ z. more (λ (p : Point). Holds (line_of_run run) p → IsReached c.args.dir (across c.args.way p) z) c.args.via.now c.loop-p.p-index _ c.loop-p-test.true (reached z) (c.loop-p.invariant z)
    (same c.holds.ensures (subst (λ n. IsReached c.args.dir c.across.result z ↔ IsReached c.args.dir n z) c.across.ensures (λ h. h, λ h. h)))

pub returns : goal.returns
returns c =
    let whole = c.loop-p-test.false in
    let run = c.args.run.now in
    let via = c.args.via.now in
    λ z. (
      λ f. let both = (c.loop-p.invariant z).0 f in (both.0, λ p has holds. All-contains (λ (q : Point). Holds (line_of_run run) q → IsReached c.args.dir (across c.args.way q) z) via p (λ k d h. both.1 k d (omega arith)) has holds),
      λ both. (c.loop-p.invariant z).1 (both.0, λ k d h holds. both.1 (get_or via k d) (Contains-get_or via k d (omega arith)) holds),
    )
