-- What the loop of `Network::first_contact` keeps.
use Rattle.separation_solve.specs.Reach.{start_of}
use Rattle.separation_solve.proofs.Blocks.Contacts.{FirstSoFar}
use Rattle.separation_solve.proofs.network.Network.first_contact.Given as goal

abbrev pub invariant-loop-index : goal.invariant-loop-index
invariant-loop-index l = FirstSoFar l.self (start_of l.block) l.block l.fn.best l.place l.index
