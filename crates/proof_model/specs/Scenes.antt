-- When proofs prove a scene, and where they fail first.
use Rattle.std.specs.Prelude.{ℕ, ◌≡◌, ◌⊎◌, List, [], ◌∷◌}
use Rattle.std.specs.List.{AllZip}
use Rattle.scene_model.specs.declared.edge.Edge.{Edge}
use Rattle.scene_model.specs.Scene.{Scene, connectors}
use Rattle.scene_model.specs.Routing.{floor_of, solids, task_of}
use Rattle.proof_model.specs.declared.proof.Proof.{Proof}
use Rattle.proof_model.specs.Claims.{IsTrueClaim}
use Rattle.proof_model.specs.Rules.{BreaksFirst, Proves}

-- rule 1, the proof has the connector's number, and the other rules hold
pub record IsProofOf (s : Scene) (e : Edge) (p : Proof) : Type 0 where
  pub edge : p.edge ≡ e.number
  pub proves : Proves (floor_of s) (task_of s e) p.claim p.rows

-- the connectors of the scene, in order, have one proof each
abbrev pub ProveScene : Scene → List Proof → Type 0
ProveScene s proofs = AllZip (IsProofOf s) (connectors s) proofs

-- the proof has the connector's number, and its claim is true of the connector
pub record HoldsClaim (s : Scene) (e : Edge) (p : Proof) : Type 0 where
  pub edge : p.edge ≡ e.number
  pub true_claim : IsTrueClaim (solids s) (task_of s e) p.claim

-- this is the least rule that the proof at the connector's place breaks
pub data FailsAt (s : Scene) (e : Edge) (p : Proof) (rule : ℕ) : Type 0 where
  by_edge : (p.edge ≡ e.number → ⊥) → rule ≡ 1 → FailsAt s e p rule
  by_rule : p.edge ≡ e.number → BreaksFirst (floor_of s) (task_of s e) p.claim p.rows rule → FailsAt s e p rule

-- this edge is the first connector for which a rule fails, and this the least such rule; a proof too many is edge 0, rule 1
abbrev pub FailsFirst : Scene → List Edge → List Proof → ℕ → ℕ → Type 0
FailsFirst s [] [] edge rule = ⊥
FailsFirst s [] (p ∷ ps) edge rule = (edge ≡ 0) × (rule ≡ 1)
FailsFirst s (e ∷ es) [] edge rule = (edge ≡ e.number) × (rule ≡ 1)
FailsFirst s (e ∷ es) (p ∷ ps) edge rule =
    ((edge ≡ e.number) × FailsAt s e p rule) ⊎ (IsProofOf s e p × FailsFirst s es ps edge rule)
