-- The two items with their rule are a bundle that calls accept.
use Rattle.std.proofs.Common.{arith, rules, refl}
use Rattle.std.proofs.lemmas.Int.{ints}
use Rattle.nudge_tests.specs.Small.{first_before_second}
use Rattle.nudge_tests.proofs.Pairs.{pair_is_bundle}
use Rattle.nudge_tests.proofs.small.small_bundle.Goals as goal

pub returns-clause-sound : goal.returns-clause-sound
returns-clause-sound c =
    pair_is_bundle _ c.args.left c.args.right (first_before_second c.args.spaced) (search rules) (search rules) refl refl c.requires.left c.requires.right c.requires.ordered (omega (arith, ints)) (omega (arith, ints))
