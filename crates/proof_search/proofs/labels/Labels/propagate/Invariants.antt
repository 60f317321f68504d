-- The moves in the directions so far were offered.
use Rattle.proof_search.proofs.Offers.Propagating.{Propagating}
use Rattle.proof_search.proofs.labels.Labels.propagate.Given as goal

abbrev pub invariant-loop-dir : goal.invariant-loop-dir
invariant-loop-dir l = Propagating l.problem l.scope l.initial.self l.self l.place l.at l.cost l.dir-items l.dir-index
