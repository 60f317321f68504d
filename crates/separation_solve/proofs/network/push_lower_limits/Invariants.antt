-- What the loop of `push_lower_limits` keeps.
use Rattle.std.proofs.Common.{◌≡◌, ◌++◌, take}
use Rattle.separation_solve.specs.Network.{lower_links}
use Rattle.separation_solve.proofs.network.push_lower_limits.Given as goal

abbrev pub invariant-loop-index : goal.invariant-loop-index
invariant-loop-index l = l.links.items ≡ l.fn.links.items ++ lower_links l.wall 0 (take l.index l.items)
