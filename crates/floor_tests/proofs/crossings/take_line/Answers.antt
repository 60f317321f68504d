-- A line on which no crossing is first has none.
use Rattle.std.proofs.Common.{rules}
use Rattle.floor_tests.proofs.crossings.take_line.Goals as goal

pub remove_line-requires-clause-no_crossings : goal.remove_line-requires-clause-no_crossings
remove_line-requires-clause-no_crossings c = c.in_default-first_on_line.ensures.absent.0 (search rules)
