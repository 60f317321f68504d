-- The certificate of a scene.
use Rattle.std.specs.Prelude.{◌≡◌, ℕ, List}
use Rattle.std.specs.List.{AllZip}
use Rattle.scene_model.specs.Scene.{Scene, connectors}
use Rattle.proof_model.specs.declared.proof.Proof.{Proof}
use Rattle.proof_model.specs.LeastLabels.{IsLeastProof}
use Rattle.proof_text.specs.Text.{proofs_text}
use Rattle.report_text.specs.Outcome.{Outcome, uncounted}
use Rattle.report_text.specs.declared.status.Status.TheVariants.{Done}

-- the text of the least proofs of its connectors, in order
pub record IsCertificateOf (s : Scene) (text : List ℕ) : Type 0 where
  pub proofs : List Proof
  pub least : AllZip (IsLeastProof s) (connectors s) proofs
  pub is_text : text ≡ proofs_text proofs

-- the certificate of the scene is the outcome
pub record WritesCertificate (s : Scene) (o : Outcome) : Type 0 where
  pub text : List ℕ
  pub is_certificate : IsCertificateOf s text
  pub outcome : o ≡ uncounted Done text

-- the law: a scene has one certificate
abbrev pub HaveOneCertificate : Type 0
HaveOneCertificate = (s : Scene) (text other : List ℕ) → IsCertificateOf s text → IsCertificateOf s other → text ≡ other
