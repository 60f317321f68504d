-- What is read is what the function gives.
use Rattle.std.proofs.Common.{◌≡◌, Ok, ap, ◌∙◌, arith, rules, w64}
use Rattle.std.proofs.lemmas.Int.{to_z-of_z}
use mir.Val.{SFits}
use Rattle.fixed_milli.specs.Numeral.{number_of}
use Rattle.fixed_milli.specs.Milli.{magnitude, thousandths, with_sign}
use Rattle.fixed_milli.proofs.Computing.{none_computed, great_computed, value_computed}
use Rattle.fixed_milli.proofs.milli.read_milli.Goals as goal

pub returns-in_default-clause-computed : goal.returns-in_default-clause-computed
returns-in_default-clause-computed c = none_computed _ c.in_default.ensures

pub returns-then-size-gt-MOST-clause-computed : goal.returns-then-size-gt-MOST-clause-computed
returns-then-size-gt-MOST-clause-computed c =
    great_computed _ (number_of c.in-Some.number) c.in-Some.ensures (omega (arith, c.thousandths-size.ensures, c.if-size-gt-MOST.true))

pub returns-clause-computed : goal.returns-clause-computed
returns-clause-computed c =
    let number = number_of c.in-Some.number in
    let size : c.thousandths-size.result ≡ magnitude number = omega (arith, c.thousandths-size.ensures, c.if-size-gt-MOST.false) in
    let value : c.with_sign.result ≡ thousandths number = c.with_sign.ensures ∙ ap (with_sign number.negative) size in
    let fits : SFits w64 c.with_sign.result = search rules in
    ap Ok (to_z-of_z w64 _ fits ∙ value)
    ∙ value_computed _ number c.in-Some.ensures (omega (arith, c.thousandths-size.ensures, c.if-size-gt-MOST.false))
