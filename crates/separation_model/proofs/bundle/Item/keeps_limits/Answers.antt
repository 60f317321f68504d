-- The goals of `Item::keeps_limits` that the check leaves.
use Rattle.std.proofs.Common.{pos, ◌*ℤ◌, arith, rules, sym, ap, refl, ◌∙◌, FitsSigned}
use Rattle.std.specs.Int.{w64, w128}
use Rattle.std.proofs.lemmas.Int.{ints, to_z-of_z}
use Rattle.std.proofs.lemmas.Bool.{false≢true}
use Rattle.separation_model.proofs.Verifying.Conditions.{limits_from, low_from, high_from, met_back}
use Rattle.separation_model.proofs.bundle.Item.keeps_limits.Goals as goal

pub returns-then-is_met : goal.returns-then-is_met
returns-then-is_met c =
    let item = c.args.self.now in
    let den = c.args.den in
    let lo_fits : FitsSigned w64 item.lo = omega (arith, ints, c.requires.item.lo.low, c.requires.item.lo.high) in
    let hi_fits : FitsSigned w64 item.hi = omega (arith, ints, c.requires.item.hi.low, c.requires.item.hi.high) in
    let first_fits : FitsSigned w128 c.numerator_over.result = search rules in
    let last_fits : FitsSigned w128 c.numerator_over-then-is_met.result = search rules in
    let first_is = to_z-of_z w128 c.numerator_over.result first_fits ∙ c.numerator_over.ensures ∙ ap (λ x. x *ℤ pos den) (to_z-of_z w64 item.lo lo_fits) in
    let last_is = to_z-of_z w128 c.numerator_over-then-is_met.result last_fits ∙ c.numerator_over-then-is_met.ensures ∙ ap (λ x. x *ℤ pos den) (to_z-of_z w64 item.hi hi_fits) in
    let place_is = to_z-of_z w128 c.args.place c.ranges.place in
    let low = met_back (item.lo *ℤ pos den) c.args.place c.args.low _ _ _ first_is place_is (to_z-of_z w128 c.args.low c.ranges.low) in
    let high = met_back c.args.place (item.hi *ℤ pos den) c.args.high _ _ _ place_is last_is (to_z-of_z w128 c.args.high c.ranges.high) in (
      λ t. limits_from item den c.args.place c.args.low c.args.high c.requires.item c.ranges.den.fits c.requires.den (low.0 (c.if-is_met.ensures.0 refl)) (high.0 (c.is_met-then-is_met.ensures.0 t)),
      λ k. c.is_met-then-is_met.ensures.1 (high.1 (high_from item den c.args.place c.args.low c.args.high k)),
    )

pub returns-else-is_met : goal.returns-else-is_met
returns-else-is_met c =
    let item = c.args.self.now in
    let den = c.args.den in
    let lo_fits : FitsSigned w64 item.lo = omega (arith, ints, c.requires.item.lo.low, c.requires.item.lo.high) in
    let first_fits : FitsSigned w128 c.numerator_over.result = search rules in
    let first_is = to_z-of_z w128 c.numerator_over.result first_fits ∙ c.numerator_over.ensures ∙ ap (λ x. x *ℤ pos den) (to_z-of_z w64 item.lo lo_fits) in
    let low = met_back (item.lo *ℤ pos den) c.args.place c.args.low _ _ _ first_is (to_z-of_z w128 c.args.place c.ranges.place) (to_z-of_z w128 c.args.low c.ranges.low) in (
      λ t. absurd (false≢true (sym c.if-is_met.false ∙ t)),
      λ k. c.is_met.ensures.1 (low.1 (low_from item den c.args.place c.args.low c.args.high k)),
    )
