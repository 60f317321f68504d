-- The point is on the whole line of the run's end, and the exit gives what is ahead where it counts.
use Rattle.std.proofs.Common.{◌≡◌, ℤ, Option, None, Some, sym, ap, subst, ◌∙◌, rules, to_z, w64, FitsSigned}
use Rattle.std.specs.Prelude.{IfSome}
use Rattle.std.proofs.lemmas.Int.{to_z-of_z}
use Rattle.plane_geom.specs.Along.{across, reach, way_of}
use Rattle.move_model.specs.declared.ahead.Ahead.{Ahead}
use Rattle.exit_rows.specs.Exits.{CountsAt, ahead_at, counted_at}
use Rattle.exit_rows.specs.declared.exit.Kept.{Kept}
use Rattle.exit_spread.proofs.Spreading.Counted.{counted}
use Rattle.exit_spread.proofs.run.Run.ahead_behind.Goals as goal

both : (o : Option Ahead) (e : Kept) (z : ℤ) (A : Type 0) → A → IfSome o (λ v. CountsAt e z × (v ≡ ahead_at e z)) → IfSome o (λ v. CountsAt e z × A × (v ≡ ahead_at e z))
both None e z A a h = tt
both (Some v) e z A a h = (h.0, a, h.1)

pub returns-clause-some : goal.returns-clause-some
returns-clause-some c =
    let r = c.args.self.now in
    let at = c.args.at in
    let a_fits : FitsSigned w64 c.across.result = search rules in
    let b_fits : FitsSigned w64 c.across-2.result = search rules in
    let z_fits : FitsSigned w64 c.reach.result = search rules in
    let same : across (way_of r.heading) at ≡ across (way_of r.heading) r.end =
    sym (c.across.ensures ∙ ap (λ w. across w at) c.way.ensures)
    ∙ sym (to_z-of_z w64 c.across.result a_fits) ∙ ap (to_z w64) c.if-across.false ∙ to_z-of_z w64 c.across-2.result b_fits
    ∙ c.across-2.ensures ∙ ap (λ w. across w r.end) c.way-2.ensures in
    let z = reach r.heading at in
    let is : c.counted_at.result ≡ counted_at r.kept z =
    c.counted_at.ensures ∙ ap (counted_at r.kept) (to_z-of_z w64 c.reach.result z_fits ∙ c.reach.ensures.value) in
    both c.counted_at.result r.kept z _ same
    (subst (λ o. IfSome o (λ v. CountsAt r.kept z × (v ≡ ahead_at r.kept z))) (sym is) (counted r.kept z))
