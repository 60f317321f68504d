-- The goals of `Fraction::ratio` that the check leaves.
use Rattle.std.proofs.Common.{◌≡◌, pos, ◌+ℤ◌, ◌*ℤ◌, FitsSigned, arith, unsigned_abs, ap, sym, ◌∙◌}
use Rattle.std.proofs.lemmas.Int.{ints, to_z-of_z}
use Rattle.std.specs.Int.{int_div_euclid, int_rem_euclid}
use mir.Syntax.{w128}
use Rattle.separation_solve.proofs.LightFractions.Fractions.{whole_bound}
use Rattle.separation_model.proofs.Rounding.{euclid}
use Rattle.separation_solve.proofs.fraction.Fraction.ratio.Goals as goal

pub mixed-requires-clause-within : goal.mixed-requires-clause-within
mixed-requires-clause-within c =
    let top : FitsSigned w128 c.args.num = c.ranges.num in
    let den : FitsSigned w128 (pos c.args.den) = omega (arith, ints, c.ranges.den) in
    let whole : FitsSigned w128 (int_div_euclid c.args.num (pos c.args.den)) = omega (arith, ints, whole_bound c.args.num c.args.den c.requires.positive c.requires.within) in
    rw (c.div_euclid-whole.ensures, c.from.ensures) (simp to_z-of_z (whole_bound c.args.num c.args.den c.requires.positive c.requires.within))

pub returns-clause-value : goal.returns-clause-value
returns-clause-value c =
    let top : FitsSigned w128 c.args.num = c.ranges.num in
    let den : FitsSigned w128 (pos c.args.den) = omega (arith, ints, c.ranges.den) in
    let quotient : FitsSigned w128 (int_div_euclid c.args.num (pos c.args.den)) = omega (arith, ints, whole_bound c.args.num c.args.den c.requires.positive c.requires.within) in
    let whole_is : c.div_euclid-whole.result ≡ int_div_euclid c.args.num (pos c.args.den) = c.div_euclid-whole.ensures ∙ rw (c.from.ensures) (simp to_z-of_z) in
    let rest_is : c.rem_euclid-rest.result ≡ int_rem_euclid c.args.num (pos c.args.den) = c.rem_euclid-rest.ensures.value ∙ rw (c.from-2.ensures) (simp to_z-of_z) in
    let whole : FitsSigned w128 c.div_euclid-whole.result = record { sfits = c.div_euclid-whole.type_inv } in
    let rest : FitsSigned w128 c.rem_euclid-rest.result = record { sfits = c.rem_euclid-rest.type_inv } in
    let same : pos (unsigned_abs c.rem_euclid-rest.result) ≡ c.rem_euclid-rest.result = omega (arith, ints, c.rem_euclid-rest.ensures.lower_bound) in
    let sum : (c.div_euclid-whole.result *ℤ pos c.args.den) +ℤ pos (unsigned_abs c.rem_euclid-rest.result) ≡ c.args.num =
    ap (λ z. (z *ℤ pos c.args.den) +ℤ pos (unsigned_abs c.rem_euclid-rest.result)) whole_is
    ∙ ap (λ z. (int_div_euclid c.args.num (pos c.args.den) *ℤ pos c.args.den) +ℤ z) (same ∙ rest_is)
    ∙ sym (euclid c.args.num c.args.den c.requires.positive) in
    (simp to_z-of_z at c.mixed.ensures.value) ∙ ap (λ z. z *ℤ pos c.mixed.result.den) sum
