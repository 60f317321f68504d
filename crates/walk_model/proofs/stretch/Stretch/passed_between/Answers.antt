-- Each checkpoint is taken at its number, or none of those left is.
use Rattle.std.proofs.Common.{◌≡◌, Some, sym, ◌∙◌, arith}
use Rattle.walk_model.proofs.Checkpoints.Along.{so_far_more, so_far_stop}
use Rattle.walk_model.proofs.stretch.Stretch.passed_between.Goals as goal

pub returns-in_default-clause-most : goal.returns-in_default-clause-most
returns-in_default-clause-most c =
    so_far_stop _ _ _ _ _ _ _ c.number_of.result c.loop-passed-test.true c.number_of.ensures
    (λ k found low high. cc c.in_default.is) c.loop-passed.invariant

pub returns-then-number-place-clause-most : goal.returns-then-number-place-clause-most
returns-then-number-place-clause-most c =
    so_far_stop _ _ _ _ _ _ _ c.number_of.result c.loop-passed-test.true c.number_of.ensures
    (λ k found low high.
    let same : Some k ≡ Some c.in-Some.number = sym found ∙ c.in-Some.is in
    let equal : k ≡ c.in-Some.number = cc in
    absurd (omega (arith, equal, c.then-number-place.either)))
    c.loop-passed.invariant

pub loop-passed-preserved : goal.loop-passed-preserved
loop-passed-preserved c =
    so_far_more _ _ _ _ _ _ _ _ c.number_of.result c.loop-passed-test.true c.number_of.ensures
    c.in-Some.is (omega arith) (omega arith) c.loop-passed.invariant
