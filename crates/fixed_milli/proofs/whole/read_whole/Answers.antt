-- A whole number is read from the splits of its bytes.
use Rattle.std.proofs.Common.{◌≡◌, ◌<◌, Some, length, sym, ap, ◌∙◌, arith, rules, w64}
use Rattle.std.specs.Str.Parse.{digits_value}
use Rattle.std.proofs.lemmas.Bool.Decides.{nat_tests}
use Rattle.std.proofs.lemmas.Int.{to_z-of_z}
use mir.Val.{SFits}
use Rattle.fixed_milli.specs.Milli.{with_sign}
use Rattle.fixed_milli.proofs.Wholes.{few_digits, whole_read}
use Rattle.fixed_milli.proofs.whole.read_whole.Goals as goal

pub with_sign-requires : goal.with_sign-requires
with_sign-requires c =
    let small = few_digits c.split_digits.result.0.now c.args.most c.split_digits.ensures.all_digits c.if-digits-most.false c.requires in
    omega (arith, small, c.with_digits.ensures)

pub returns : goal.returns
returns c =
    let digits = c.split_digits.result.0.now in
    let small = few_digits digits c.args.most c.split_digits.ensures.all_digits c.if-digits-most.false c.requires in
    let size : c.with_digits.result ≡ digits_value 10 digits = omega (arith, small, c.with_digits.ensures) in
    let some : 0 < length digits = grind (arith, nat_tests, c.if-is_empty.ensures) in
    let none : length c.split_digits.result.1.now ≡ 0 = grind (arith, nat_tests, c.if-not-is_empty.ensures) in
    let fits : SFits w64 c.with_sign.result = search rules in
    ap Some (to_z-of_z w64 _ fits ∙ c.with_sign.ensures ∙ ap (with_sign c.split_sign-negative.result.0) size)
    ∙ sym (whole_read _ _ _ _ _ _ c.split_sign-negative.ensures c.split_digits.ensures some c.if-digits-most.false none)
