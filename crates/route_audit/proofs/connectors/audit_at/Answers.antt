-- Nothing is said out of memory.
use Rattle.std.proofs.Common.{◌≡◌, Ok, Err, ap, sym, subst, Result}
use Rattle.std.specs.Prelude.{IsErrAnd, option_copied}
use Rattle.route_audit.specs.declared.fault.AuditFault.{AuditFault}
use Rattle.route_audit.specs.declared.fault.AuditFault.TheVariants.{Memory}
use Rattle.route_audit.specs.Audits.{IsAuditedAt}
use Rattle.route_audit.proofs.connectors.audit_at.Goals as goal

memory : (r : Result (Unit {0}) AuditFault) → IsErrAnd r (λ fault. fault ≡ Memory) → r ≡ Err Memory
memory (Ok done) is = elim is [ ]
memory (Err fault) is = ap Err is

pub returns-in_err-rule-in-Some : goal.returns-in_err-rule-in-Some
returns-in_err-rule-in-Some c = subst (IsAuditedAt c.args.scene.now c.args.edge.now (option_copied c.args.proof)) (sym
    (memory c.from_residual.result c.from_residual.ensures.1)) tt
