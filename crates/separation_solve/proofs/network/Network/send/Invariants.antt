-- What the loop of `Network::send` keeps.
use Rattle.separation_solve.proofs.Searches.Sending.{IsSending}
use Rattle.separation_solve.proofs.network.Network.send.Given as goal

abbrev pub invariant-loop-via : goal.invariant-loop-via
invariant-loop-via l = IsSending l.initial.self l.self l.reach l.target l.at l.amount

abbrev pub decreases-loop-via : goal.decreases-loop-via
decreases-loop-via l = l.at
