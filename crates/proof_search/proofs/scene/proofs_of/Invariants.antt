-- The connectors so far have one proof each.
use Rattle.proof_search.proofs.WholeScenes.Connectors.{IsProvedUpto}
use Rattle.proof_search.proofs.scene.proofs_of.Given as goal

abbrev pub invariant-loop-edge : goal.invariant-loop-edge
invariant-loop-edge l = IsProvedUpto l.scene l.initial.prover l.prover l.proofs.items l.edge-index
