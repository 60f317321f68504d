-- The rows of the spots so far are appended.
use Rattle.std.proofs.Common.{◌≡◌, ◌++◌, take}
use Rattle.proof_search.specs.Rows.{rows_in}
use Rattle.proof_search.proofs.labels.Labels.push_stage.Given as goal

abbrev pub invariant-loop-spot : goal.invariant-loop-spot
invariant-loop-spot l = l.rows.items ≡ l.initial.rows.items ++ rows_in l.self l.stage (take l.spot-index l.spots)
