-- There are certificates, and each is audited.
use Rattle.std.specs.Prelude.{ℕ, ◌⊎◌, List}
use Rattle.std.specs.List.{AllZip}
use Rattle.scene_model.specs.Scene.{Scene, connectors}
use Rattle.scene_model.specs.Valid.{IsValid}
use Rattle.proof_model.specs.declared.proof.Proof.{Proof}
use Rattle.proof_model.specs.LeastLabels.{IsLeastProof}
use Rattle.proof_model.specs.Scenes.{FailsFirst, ProveScene}

-- the proofs prove the scene, or a rule fails first
abbrev pub IsAudited : Scene → List Proof → Type 0
IsAudited s proofs = ProveScene s proofs ⊎ ((edge : ℕ) × (rule : ℕ) × FailsFirst s (connectors s) proofs edge rule)

-- the law: so it is for all proofs
abbrev pub ScenesAreAudited : Type 0
ScenesAreAudited = (s : Scene) (proofs : List Proof) → IsAudited s proofs

-- the law: each connector of a valid scene has a least proof
abbrev pub HaveLeastProofs : Type 0
HaveLeastProofs = (s : Scene) → IsValid s → (proofs : List Proof) × AllZip (IsLeastProof s) (connectors s) proofs
