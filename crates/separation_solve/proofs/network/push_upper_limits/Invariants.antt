-- What the loop of `push_upper_limits` keeps.
use Rattle.std.proofs.Common.{◌≡◌, ◌++◌, take}
use Rattle.separation_solve.specs.Network.{upper_links}
use Rattle.separation_solve.proofs.network.push_upper_limits.Given as goal

abbrev pub invariant-loop-index : goal.invariant-loop-index
invariant-loop-index l = l.links.items ≡ l.fn.links.items ++ upper_links l.wall 0 (take l.index l.items)
