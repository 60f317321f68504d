-- What the loop of `Network::link_on` keeps.
use Rattle.std.proofs.Common.{MatchOption}
use Rattle.separation_solve.specs.Sweep.{LeadsOn}
use Rattle.separation_solve.proofs.network.Network.link_on.Given as goal

abbrev pub invariant-loop-link : goal.invariant-loop-link
invariant-loop-link l = MatchOption l.last (Unit {0}) (LeadsOn l.self l.item)
