-- What the loop of `Network::move_block` keeps.
use Rattle.separation_solve.proofs.Blocks.Moving.{SoFarPlaced}
use Rattle.separation_solve.proofs.network.Network.move_block.Given as goal

abbrev pub invariant-loop-item : goal.invariant-loop-item
invariant-loop-item l = SoFarPlaced l.fn.self l.block l.place l.item l.self
