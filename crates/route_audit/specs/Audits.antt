-- What an audit answers.
use Rattle.std.specs.Prelude.{ℕ, ◌≡◌, ◌≢◌, List, Contains, IsSomeAnd, MatchOption, Option, None, Some, Result, Ok, Err}
use Rattle.scene_model.specs.declared.edge.Edge.{Edge}
use Rattle.scene_model.specs.Scene.{Scene, connectors, edge_with}
use Rattle.plane_geom.specs.declared.floor.Floor.{Floor}
use Rattle.walk_model.specs.declared.task.Task.{Task}
use Rattle.proof_model.specs.declared.proof.Claim.{Claim}
use Rattle.proof_model.specs.declared.proof.LabelRow.{LabelRow}
use Rattle.proof_model.specs.declared.proof.Proof.{Proof}
use Rattle.proof_model.specs.Rules.{BreaksFirst, Proves}
use Rattle.proof_model.specs.Scenes.{FailsAt, FailsFirst, IsProofOf, ProveScene}
use Rattle.route_audit.specs.declared.fault.AuditFault.{AuditFault}
use Rattle.route_audit.specs.declared.fault.AuditFault.TheVariants.{No, Memory}

-- the proofs prove the scene, or this is the first connector for which a rule fails and the least such rule; nothing is said out of memory
abbrev pub IsAudited : Scene → List Proof → Result (Unit {0}) AuditFault → Type 0
IsAudited s proofs (Ok done) = ProveScene s proofs
IsAudited s proofs (Err (No edge rule)) = FailsFirst s (connectors s) proofs edge rule
IsAudited s proofs (Err Memory) = Unit {0}

-- the labels prove the claim of the task, or this is the least of the rules 2 to 6 that fails
abbrev pub IsBroken : Floor → Task → Claim → List LabelRow → Option ℕ → Type 0
IsBroken floor task claim rows None = Proves floor task claim rows
IsBroken floor task claim rows (Some rule) = BreaksFirst floor task claim rows rule

-- the proof proves its claim of the connector, or this is the least rule that it breaks
abbrev pub IsJudged : Scene → Edge → Proof → Option ℕ → Type 0
IsJudged s e p None = IsProofOf s e p
IsJudged s e p (Some rule) = FailsAt s e p rule

-- the proof at the connector's place is there and proves its claim, or this is the least rule that fails there
abbrev pub IsAuditedAt : Scene → Edge → Option Proof → Result (Unit {0}) AuditFault → Type 0
IsAuditedAt s e o (Ok done) = IsSomeAnd o (IsProofOf s e)
IsAuditedAt s e o (Err (No edge rule)) = (edge ≡ e.number) × MatchOption o (rule ≡ 1) (λ p. FailsAt s e p rule)
IsAuditedAt s e o (Err Memory) = Unit {0}

-- the edge is a connector of the scene, found by its number
pub record IsConnector (s : Scene) (e : Edge) : Type 0 where
  pub listed : Contains (connectors s) e
  pub known : edge_with s e.number ≡ Some e
  pub apart : e.from ≢ e.to
