-- The first line at whose end no text of proofs can go on.
use Rattle.std.specs.Prelude.{ℕ, ◌≡◌, ◌≢◌, ◌-◌, ◌≤◌, List, [], ◌++◌}
use Rattle.proof_model.specs.declared.proof.Proof.{Proof}
use Rattle.proof_text.specs.declared.read.ProofFault.{ProofFault}
use Rattle.proof_text.specs.declared.read.ProofFault.TheVariants.{Line, Memory}
use Rattle.proof_text.specs.Lines.{AreWholeLines}
use Rattle.proof_text.specs.Text.{IsText}

-- some text begins with these bytes
abbrev pub CanGoOn : List ℕ → Type 0
CanGoOn front = (more : List ℕ) × (proofs : List Proof) × IsText (front ++ more) proofs

-- a text can go on after the lines before this one; the bytes go on, but no text can go on after this number of whole lines of them
pub record IsBadLine (bytes : List ℕ) (line : ℕ) : Type 0 where
  pub before : List ℕ
  pub rest : List ℕ
  pub spelled : bytes ≡ before ++ rest
  pub from_one : 1 ≤ line
  pub lines_before : AreWholeLines before (line - 1)
  pub can_go_on : CanGoOn before
  pub some : rest ≢ []
  pub stops : (front more : List ℕ) → bytes ≡ front ++ more → AreWholeLines front line → CanGoOn front → ⊥

-- what a fault says of the bytes
abbrev pub IsFaultOf : List ℕ → ProofFault → Type 0
IsFaultOf bytes (Line line) = IsBadLine bytes line
IsFaultOf bytes Memory = Unit {0}
