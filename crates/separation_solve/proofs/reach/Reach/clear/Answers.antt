-- The goals of `Reach::clear` that the check leaves.
use Rattle.std.proofs.Common.{arith}
use Rattle.separation_solve.proofs.Searches.Searching.{cleared}
use Rattle.separation_solve.proofs.reach.Reach.clear.Goals as goal

pub returns-clause-found : goal.returns-clause-found
returns-clause-found c = cleared c.args.self.now c.loop-index.self c.loop-index.index c.requires c.loop-index.invariant (omega (arith, c.loop-index-test.false, c.len-index-end.ensures))
