-- Proofs as far as they are read, line by line. No public clause cites this module.
use Rattle.std.specs.Prelude.{ℕ, ◌≡◌, List, [], ◌∷◌, ◌++◌, Option, None, Some, option_and_then, option_map, option_to_list}
use Rattle.plane_geom.specs.declared.point.Point.{Point}
use Rattle.proof_model.specs.declared.proof.Claim.{Claim}
use Rattle.proof_model.specs.declared.proof.Claim.TheVariants.{Cost, Cut}
use Rattle.proof_model.specs.declared.proof.LabelRow.{LabelRow}
use Rattle.proof_model.specs.declared.proof.Proof.{Proof}
use Rattle.proof_text.specs.declared.line.Line.{Line}
use Rattle.proof_text.specs.declared.line.Line.TheVariants.{Edge, Corner, Row}
use Rattle.proof_text.specs.declared.reader.Reader.{Reader}
use Rattle.proof_text.specs.Lines.{IsOneLine, newline}
use Rattle.proof_text.specs.Forms.{line_of}

-- the proofs that are read whole, and the one whose lines are being read
abbrev pub State : Type 0
State = List Proof × Option Proof

abbrev pub state_of : Reader → State
state_of r = (r.done.items, r.last)

-- all proofs of which a line is read
abbrev pub proofs_of : State → List Proof
proofs_of s = s.0 ++ option_to_list s.1

-- a proof of which only the first line is read
abbrev pub new_proof : ℕ → Option ℕ → Proof
new_proof edge None = record { edge = edge; claim = Cut; rows = [] }
new_proof edge (Some cost) = record { edge = edge; claim = Cost cost []; rows = [] }

-- one point more, which a claimed line takes until the first row
abbrev pub claim_with : Claim → List LabelRow → Point → Option Claim
claim_with (Cost cost points) [] point = Some (Cost cost (points ++ point ∷ []))
claim_with (Cost cost points) (row ∷ rows) point = None
claim_with Cut rows point = None

abbrev pub with_point : Point → Proof → Option Proof
with_point point p = option_map (λ claim. record p { claim = claim }) (claim_with p.claim p.rows point)

-- one row more
abbrev pub with_row : LabelRow → Proof → Proof
with_row row p = record p { rows = p.rows ++ row ∷ [] }

-- one line more, if a text can go on with it
abbrev pub with_line : State → Line → Option State
with_line s (Edge edge cost) = Some (proofs_of s, Some (new_proof edge cost))
with_line s (Corner point) = option_map (λ p. (s.0, Some p)) (option_and_then (with_point point) s.1)
with_line s (Row row) = option_map (λ p. (s.0, Some (with_row row p))) s.1

-- the same for the bytes of a line
abbrev pub after_line : State → List ℕ → Option State
after_line s line = option_and_then (with_line s) (line_of line)

-- the first line of the bytes and what follows it
pub record BeginsWith (bytes line after : List ℕ) : Type 0 where
  pub spelled : bytes ≡ line ++ newline ∷ after
  pub one : IsOneLine line

-- the bytes begin with a line, after which the proofs are these
pub record GoesOn (bytes after : List ℕ) (old new : State) : Type 0 where
  pub line : List ℕ
  pub begins : BeginsWith bytes line after
  pub reads : after_line old line ≡ Some new

-- the bytes begin with a line that does not go on, or with none
pub data IsStuck (bytes : List ℕ) (s : State) : Type 0 where
  no_line : IsOneLine bytes → IsStuck bytes s
  bad_line : (line after : List ℕ) → BeginsWith bytes line after → after_line s line ≡ None → IsStuck bytes s
