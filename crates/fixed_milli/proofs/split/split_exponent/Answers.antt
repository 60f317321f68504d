-- An exponent is found exactly where there is one.
use Rattle.std.proofs.Common.{◌≡◌, ◌⊎◌, ◌<◌, length, arith, inl, inr, sym, subst}
use Rattle.std.proofs.lemmas.Bool.Decides.{nat_tests}
use Rattle.fixed_milli.specs.Number.{IsExponent}
use Rattle.fixed_milli.proofs.Splitting.{exponent_of, no_power}
use Rattle.fixed_milli.proofs.split.split_exponent.Goals as goal
use Rattle.fixed_milli.proofs.split.split_exponent.Goals.{then-is_empty-via-then-is_empty, then-is_empty-via-else-is_empty+then-not-is_empty, else-mark-ne101-via-then-mark-ne101+else-mark-ne69, else-mark-ne101-via-else-mark-ne101}

pub returns-then-is_empty : goal.returns-then-is_empty
returns-then-is_empty c =
    let digits = c.split_digits.result.0.now in
    let end = c.split_digits.result.1.now in
    let not : (length digits ≡ 0) ⊎ (0 < length end) = elim c.then-is_empty.branch [
      | then-is_empty-via-then-is_empty w ↦ inl (grind (arith, nat_tests, w.if-is_empty.ensures))
      | then-is_empty-via-else-is_empty+then-not-is_empty w ↦ inr (grind (arith, nat_tests, w.if-not-is_empty.ensures))
    ] in
    λ shrinks power is. no_power _ _ _ _ _ _ c.split_sign-negative.ensures c.split_digits.ensures not shrinks power
    (subst (λ bytes. IsExponent bytes shrinks power) c.in-Some.ensures.cases.0 is)

pub returns : goal.returns
returns c =
    let mark = c.in-Some.mark.now in
    let is_mark : (mark ≡ 101) ⊎ (mark ≡ 69) = elim c.else-mark-ne101.branch [
      | else-mark-ne101-via-then-mark-ne101+else-mark-ne69 w ↦ inr w.if-mark-ne69.false
      | else-mark-ne101-via-else-mark-ne101 w ↦ inl w.if-mark-ne101.false
    ] in
    let some : 0 < length c.split_digits.result.0.now = grind (arith, nat_tests, c.if-is_empty.ensures) in
    let none : length c.split_digits.result.1.now ≡ 0 = grind (arith, nat_tests, c.if-not-is_empty.ensures) in
    subst (λ bytes. IsExponent bytes c.split_sign-negative.result.0 c.split_digits.result.0.now) (sym c.in-Some.ensures.cases.0)
    (exponent_of _ _ _ _ _ _ is_mark c.split_sign-negative.ensures c.split_digits.ensures some none)
