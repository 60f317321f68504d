-- The rows so far rise, each may stand there, and the index is theirs.
use Rattle.std.proofs.Common.{ℕ, ◌<◌, AllPairs, take, get_or}
use Rattle.std.specs.Prelude.{IsTrue}
use Rattle.proof_model.specs.declared.proof.LabelRow.{LabelRow}
use Rattle.proof_model.specs.Labels.{is_before}
use Rattle.route_audit.specs.Index.{AreIndexed}
use Rattle.route_audit.specs.Rows.{IsRowIn}
use Rattle.route_audit.proofs.rows.put_rows.Given as goal

abbrev pub invariant-loop-place : goal.invariant-loop-place
invariant-loop-place l = record {
  rise : AllPairs (λ r s. IsTrue (is_before r s)) (take l.place l.rows);
  each : (k : ℕ) (d : LabelRow) → k < l.place → IsRowIn l.arena l.last l.claim (get_or l.rows k d);
  indexed : AreIndexed l.arena l.last l.rows l.place l.index;
}
