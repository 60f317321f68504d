-- The rows of the stages so far.
use Rattle.std.proofs.Common.{◌≡◌}
use Rattle.proof_search.specs.Rows.{rows_upto}
use Rattle.proof_search.proofs.labels.Labels.rows.Given as goal

abbrev pub invariant-loop-stage : goal.invariant-loop-stage
invariant-loop-stage l = l.rows.items ≡ rows_upto l.self l.stage l.spots
