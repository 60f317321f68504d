-- The goals of `row` that the check leaves.
use Rattle.std.proofs.Common.{arith, rules}
use Rattle.std.proofs.lemmas.Int.{ints}
use Rattle.nudge_tests.proofs.Alike.{row_is_bundle}
use Rattle.nudge_tests.proofs.solutions.row.Goals as goal

pub returns : goal.returns
returns c = row_is_bundle _ c.args.item c.args.count (search rules) (search rules) c.requires.count c.requires.item (omega (arith, ints)) (omega (arith, ints))
