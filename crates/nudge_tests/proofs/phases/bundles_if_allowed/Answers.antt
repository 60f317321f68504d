-- What was looked at is what `bundles` and `few_bundles` ask for.
use Rattle.std.proofs.Common.{rules}
use Rattle.std.specs.Prelude.{IsTrue}
use Rattle.nudge_tests.proofs.phases.bundles_if_allowed.Goals as goal

pub bundles-requires-clause-movable : goal.bundles-requires-clause-movable
bundles-requires-clause-movable g c =
    let looked : IsTrue c.may_all_move.result = search rules in
    λ k d h. (c.may_all_move.ensures looked k d h).may

pub few_bundles-requires-clause-movable : goal.few_bundles-requires-clause-movable
few_bundles-requires-clause-movable g c =
    let looked : IsTrue c.may_all_move.result = search rules in
    λ k d h. (c.may_all_move.ensures looked k d h).may
