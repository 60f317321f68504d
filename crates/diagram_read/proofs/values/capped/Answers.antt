-- One more digit, and the cap holds.
use Rattle.std.proofs.Common.{◌≡◌, ℕ, ◌-◌, true, get_or, sym, ap, ◌∙◌, arith}
use Rattle.std.specs.Prelude.{◌&&◌}
use Rattle.std.specs.Char.{is_ascii_digit, digit_value}
use Rattle.std.proofs.lemmas.Bool.Decides.{nat_tests}
use Rattle.std.proofs.lemmas.Int.Digits.{digits_value_more}
use Rattle.std.proofs.lemmas.List.Folds.{list_all_more}
use Rattle.diagram_read.proofs.values.capped.Goals as goal

-- the value of a digit is its distance from the first digit
digit_by_code : (b : ℕ) → is_ascii_digit b ≡ true → digit_value b ≡ b - 48
digit_by_code b h = grind (arith, nat_tests)

pub loop-digit-preserved : goal.loop-digit-preserved
loop-digit-preserved c =
    let digits = c.args.digits.now in
    let here = c.loop-digit.digit-index in
    let within = c.loop-digit-test.true in
    let digit : is_ascii_digit (get_or digits here 0) ≡ true = sym c.is_ascii_digit.ensures.value ∙ c.if-not-is_ascii_digit.false in
    let more = digits_value_more 10 digits here within in
    let is = digit_by_code (get_or digits here 0) digit in
    let number = c.loop-digit.invariant.0 in (
      omega (arith, more, is, number, c.min-number.ensures, c.from.ensures),
      list_all_more is_ascii_digit digits here 0 within ∙ ap (λ b. b && is_ascii_digit (get_or digits here 0)) c.loop-digit.invariant.1 ∙ digit,
    )
