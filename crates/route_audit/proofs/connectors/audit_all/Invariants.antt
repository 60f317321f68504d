-- What is left to audit decides what is answered.
use Rattle.std.proofs.Common.{◌≤◌, drop, length}
use Rattle.route_audit.proofs.Audited.{Decides, connectors_from}
use Rattle.route_audit.proofs.connectors.audit_all.Given as goal

abbrev pub invariant-loop-edge : goal.invariant-loop-edge
invariant-loop-edge l = record {
  decides : Decides l.scene (connectors_from l.scene l.edge-index) (drop l.audited l.proofs) l.proofs;
  within : l.audited ≤ length l.proofs;
}
