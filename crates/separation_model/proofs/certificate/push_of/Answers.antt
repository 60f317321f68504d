-- What has been summed and what is left are together the sum over all rules.
use Rattle.std.proofs.Common.{◌≡◌, ◌+◌, ◌^◌, ◌<◌, true, false, ℤ, pos, ◌+ℤ◌, ◌≤ℤ◌, ◌<ℤ◌, arith, ap, sym, subst, ◌∙◌, FitsSigned, to_z, of_z}
use Rattle.std.specs.Int.{w128}
use lib.Signed.{lt_z}
use Rattle.std.proofs.lemmas.Int.{ints, to_z-of_z}
use Rattle.separation_model.specs.Bundle.{no_rule}
use Rattle.separation_model.specs.Checked.{IsMultiplier}
use Rattle.separation_model.specs.declared.bundle.Rule.{Rule}
use Rattle.separation_model.proofs.Verifying.Conditions.{sum_at-drop, sum_at-drop_sign, here_is, part, other_part, more_fits, one_fits, one_read, more_low}
use Rattle.separation_model.proofs.certificate.push_of.Goals as goal

-- the code's sum of both
both_fit : (x y a b m n : ℤ) → x ≡ a +ℤ m → y ≡ b +ℤ n → pos 0 ≤ℤ a → pos 0 ≤ℤ b → (a +ℤ b) ≤ℤ pos (2 ^ 126) → IsMultiplier m → IsMultiplier n → FitsSigned w128 (x +ℤ y)
both_fit x y a b m n e f low high small ok also = omega (arith, ints, ok.sign, ok.small, also.sign, also.small)

both_is : (x y a b m n : ℤ) → x ≡ a +ℤ m → y ≡ b +ℤ n → pos 0 ≤ℤ a → pos 0 ≤ℤ b → (a +ℤ b) ≤ℤ pos (2 ^ 126) → IsMultiplier m → IsMultiplier n →
    to_z w128 (of_z w128 x) +ℤ to_z w128 (of_z w128 y) ≡ x +ℤ y
both_is x y a b m n e f low high small ok also =
    let left : FitsSigned w128 x = subst (FitsSigned w128) (sym e) (more_fits a m low (part a b high small) ok) in
    let right : FitsSigned w128 y = subst (FitsSigned w128) (sym f) (more_fits b n high (other_part a b low small) also) in
    ap (λ v. v +ℤ to_z w128 (of_z w128 y)) (to_z-of_z w128 x left) ∙ ap (λ v. x +ℤ v) (to_z-of_z w128 y right)

both_read : (x y a b m n : ℤ) → x ≡ a +ℤ m → y ≡ b +ℤ n → pos 0 ≤ℤ a → pos 0 ≤ℤ b → (a +ℤ b) ≤ℤ pos (2 ^ 126) → IsMultiplier m → IsMultiplier n →
    to_z w128 (of_z w128 (to_z w128 (of_z w128 x) +ℤ to_z w128 (of_z w128 y))) ≡ x +ℤ y
both_read x y a b m n e f low high small ok also =
    ap (λ v. to_z w128 (of_z w128 v)) (both_is x y a b m n e f low high small ok also) ∙ to_z-of_z w128 (x +ℤ y) (both_fit x y a b m n e f low high small ok also)

above : (t s : ℤ) → t ≡ s → lt_z (pos (2 ^ 126)) t ≡ true → pos (2 ^ 126) <ℤ s
above t s e h = omega (arith, ints)

not_above : (t s : ℤ) → t ≡ s → lt_z (pos (2 ^ 126)) t ≡ false → s ≤ℤ pos (2 ^ 126)
not_above t s e h = omega (arith, ints)

-- a sum with one multiplier more, and what is left
more : (x a m first before rest total : ℤ) → x ≡ a +ℤ m → m ≡ first → before ≡ first +ℤ rest → a +ℤ before ≡ total → x +ℤ rest ≡ total
more x a m first before rest total e f g h = omega (arith, ints)

exceeded : (x y left_rest right_rest left right : ℤ) → x +ℤ left_rest ≡ left → y +ℤ right_rest ≡ right → pos 0 ≤ℤ left_rest → pos 0 ≤ℤ right_rest → pos (2 ^ 126) <ℤ (x +ℤ y) → pos (2 ^ 126) <ℤ (left +ℤ right)
exceeded x y left_rest right_rest left right e f g h k = omega (arith, ints)

-- a multiplier as it is read
stored : (m : ℤ) → IsMultiplier m → IsMultiplier (to_z w128 (of_z w128 m))
stored m h =
    let fits : FitsSigned w128 m = omega (arith, ints, h.sign, h.small) in
    subst IsMultiplier (sym (to_z-of_z w128 m fits)) h

pub multiplier_at-requires : goal.multiplier_at-requires
multiplier_at-requires c = stored _ (c.requires.multipliers c.loop-j.j (pos 0) (subst (λ n. c.loop-j.j < n) (sym c.requires.same) c.loop-j-test.true))

pub multiplier_at-requires-in-loop-j : goal.multiplier_at-requires-in-loop-j
multiplier_at-requires-in-loop-j c = stored _ (c.requires.multipliers c.loop-j.j (pos 0) (subst (λ n. c.loop-j.j < n) (sym c.requires.same) c.loop-j-test.true))

pub overflow_add-push : goal.overflow_add-push
overflow_add-push c =
    let now = c.loop-j.invariant in
    one_fits _ _ now.left_low (part _ _ now.right_low now.small) c.multiplier_at.ensures.multiplier

pub overflow_add-push-in-loop-j : goal.overflow_add-push-in-loop-j
overflow_add-push-in-loop-j c =
    let now = c.loop-j.invariant in
    one_fits _ _ now.right_low (other_part _ _ now.left_low now.small) c.multiplier_at-in-loop-j.ensures.multiplier

pub overflow_add-push-in-loop-j-2 : goal.overflow_add-push-in-loop-j-2
overflow_add-push-in-loop-j-2 c =
    let now = c.loop-j.invariant in
    let left = c.multiplier_at.ensures.multiplier in
    let right = c.multiplier_at-in-loop-j.ensures.multiplier in
    let x_is = one_read _ _ now.left_low (part _ _ now.right_low now.small) left in
    let y_is = one_read _ _ now.right_low (other_part _ _ now.left_low now.small) right in
    subst (FitsSigned w128) (sym (both_is _ _ _ _ _ _ x_is y_is now.left_low now.right_low now.small left right))
    (both_fit _ _ _ _ _ _ x_is y_is now.left_low now.right_low now.small left right)

pub returns-then-push-gt-MOST_TOGETHER : goal.returns-then-push-gt-MOST_TOGETHER
returns-then-push-gt-MOST_TOGETHER c =
    let now = c.loop-j.invariant in
    let left = c.multiplier_at.ensures.multiplier in
    let right = c.multiplier_at-in-loop-j.ensures.multiplier in
    let at = c.requires.multipliers c.loop-j.j (pos 0) (subst (λ n. c.loop-j.j < n) (sym c.requires.same) c.loop-j-test.true) in
    let rs = c.args.rules.now in
    let ms = c.args.multipliers.now in
    let j = c.loop-j.j in
    let to_right = sum_at-drop (λ (r : Rule). r.right) c.args.item rs ms j no_rule c.loop-j-test.true c.requires.same in
    let to_left = sum_at-drop (λ (r : Rule). r.left) c.args.item rs ms j no_rule c.loop-j-test.true c.requires.same in
    let x_is = one_read _ _ now.left_low (part _ _ now.right_low now.small) left in
    let y_is = one_read _ _ now.right_low (other_part _ _ now.left_low now.small) right in
    exceeded _ _ _ _ _ _
    (more _ _ _ _ _ _ _ x_is (here_is _ c.args.item _ c.multiplier_at.result at c.multiplier_at.ensures.value) to_right now.left)
    (more _ _ _ _ _ _ _ y_is (here_is _ c.args.item _ c.multiplier_at-in-loop-j.result at c.multiplier_at-in-loop-j.ensures.value) to_left now.right)
    (sum_at-drop_sign (λ (r : Rule). r.right) c.args.item rs ms (j + 1) c.requires.multipliers)
    (sum_at-drop_sign (λ (r : Rule). r.left) c.args.item rs ms (j + 1) c.requires.multipliers)
    (above _ _ (both_read _ _ _ _ _ _ x_is y_is now.left_low now.right_low now.small left right) c.if-push-gt-MOST_TOGETHER.true)

pub loop-j-preserved : goal.loop-j-preserved
loop-j-preserved c =
    let now = c.loop-j.invariant in
    let left = c.multiplier_at.ensures.multiplier in
    let right = c.multiplier_at-in-loop-j.ensures.multiplier in
    let at = c.requires.multipliers c.loop-j.j (pos 0) (subst (λ n. c.loop-j.j < n) (sym c.requires.same) c.loop-j-test.true) in
    let rs = c.args.rules.now in
    let ms = c.args.multipliers.now in
    let j = c.loop-j.j in
    let to_right = sum_at-drop (λ (r : Rule). r.right) c.args.item rs ms j no_rule c.loop-j-test.true c.requires.same in
    let to_left = sum_at-drop (λ (r : Rule). r.left) c.args.item rs ms j no_rule c.loop-j-test.true c.requires.same in
    let x_is = one_read _ _ now.left_low (part _ _ now.right_low now.small) left in
    let y_is = one_read _ _ now.right_low (other_part _ _ now.left_low now.small) right in
    record {
      left = more _ _ _ _ _ _ _ x_is (here_is _ c.args.item _ c.multiplier_at.result at c.multiplier_at.ensures.value) to_right now.left;
      right = more _ _ _ _ _ _ _ y_is (here_is _ c.args.item _ c.multiplier_at-in-loop-j.result at c.multiplier_at-in-loop-j.ensures.value) to_left now.right;
      left_low = more_low _ _ _ x_is now.left_low left;
      right_low = more_low _ _ _ y_is now.right_low right;
      small = not_above _ _ (both_read _ _ _ _ _ _ x_is y_is now.left_low now.right_low now.small left right) c.if-push-gt-MOST_TOGETHER.false;
    }
