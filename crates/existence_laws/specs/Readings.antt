-- Bytes are read as something.
use Rattle.std.specs.Prelude.{ℕ, ◌⊎◌, List, Result}
use Rattle.gml_text.specs.Tree.{Pairs}
use Rattle.gml_text.specs.Parse.{ParsesAs}
use Rattle.gml_text.specs.declared.fault.GmlFault.{GmlFault}
use Rattle.proof_model.specs.declared.proof.Proof.{Proof}
use Rattle.proof_text.specs.Fronts.{IsBadLine}
use Rattle.proof_text.specs.Text.{IsText}

-- the law: bytes are read as a tree, or have a fault as a document
abbrev pub HaveReadings : Type 0
HaveReadings = (bytes : List ℕ) → (read : Result Pairs GmlFault) × ParsesAs bytes read

-- the bytes are the text of proofs, or have a first bad line
abbrev pub IsRead : List ℕ → Type 0
IsRead bytes = ((proofs : List Proof) × IsText bytes proofs) ⊎ ((line : ℕ) × IsBadLine bytes line)

-- the law: so it is for all bytes
abbrev pub HaveProofReadings : Type 0
HaveProofReadings = (bytes : List ℕ) → IsRead bytes
