-- The goals of `turn_links` that the check leaves.
use Rattle.std.proofs.Common.{arith}
use Rattle.separation_solve.specs.Network.{turned_link, no_link}
use Rattle.separation_solve.proofs.Lists.Turning.{turned_all}
use Rattle.separation_solve.proofs.mirror.turn_links.Goals as goal

pub returns : goal.returns
returns c = turned_all turned_link _ _ c.loop-index.index no_link c.loop-index.invariant (omega (arith, c.loop-index-test.false, c.loop-index.invariant.long))
