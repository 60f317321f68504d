-- The text of proofs: a line for each edge, each point and each row of labels.
use Rattle.std.specs.Prelude.{ℕ, ◌≡◌, ◌^◌, ◌<◌, List, [], ◌∷◌, ◌++◌, map, codes, decimal, Option, None, Some, IfSome, unsigned_abs}
use Rattle.std.specs.Fmt.{signed_decimal}
use Rattle.std.specs.List.{AllByRecursion, flat_map, join_with_byte}
use Rattle.plane_geom.specs.declared.point.Point.{Point}
use Rattle.proof_model.specs.declared.proof.Claim.{Claim}
use Rattle.proof_model.specs.declared.proof.Claim.TheVariants.{Cost, Cut}
use Rattle.proof_model.specs.declared.proof.LabelRow.{LabelRow}
use Rattle.proof_model.specs.declared.proof.Proof.{Proof}
use Rattle.proof_text.specs.Lines.{text_of_lines}

-- words with one blank between two of them
abbrev pub joined_words : List (List ℕ) → List ℕ
joined_words words = join_with_byte 32 words

-- a label, or a minus where there is none
abbrev pub label_word : Option ℕ → List ℕ
label_word None = codes "-"
label_word (Some label) = decimal label

-- edge N cost C, or edge N cut
abbrev pub edge_line : ℕ → Claim → List ℕ
edge_line edge (Cost cost points) = joined_words (codes "edge" ∷ decimal edge ∷ codes "cost" ∷ decimal cost ∷ [])
edge_line edge Cut = joined_words (codes "edge" ∷ decimal edge ∷ codes "cut" ∷ [])

-- point X Y
abbrev pub point_line : Point → List ℕ
point_line p = joined_words (codes "point" ∷ signed_decimal p.x ∷ signed_decimal p.y ∷ [])

-- label STAGE X Y EAST SOUTH WEST NORTH
abbrev pub row_line : LabelRow → List ℕ
row_line r =
    joined_words (codes "label" ∷ decimal r.stage ∷ signed_decimal r.at.x ∷ signed_decimal r.at.y
    ∷ label_word r.east ∷ label_word r.south ∷ label_word r.west ∷ label_word r.north ∷ [])

-- the points of a claimed line
abbrev pub claimed_points : Claim → List Point
claimed_points (Cost cost points) = points
claimed_points Cut = []

-- the lines of a proof: its edge, its points, its rows
abbrev pub proof_lines : Proof → List (List ℕ)
proof_lines p = edge_line p.edge p.claim ∷ (map point_line (claimed_points p.claim) ++ map row_line p.rows)

-- the lines of proofs, in order
abbrev pub proofs_lines : List Proof → List (List ℕ)
proofs_lines proofs = flat_map proof_lines proofs

-- the text of a proof
abbrev pub proof_text : Proof → List ℕ
proof_text p = text_of_lines (proof_lines p)

-- the text of proofs
abbrev pub proofs_text : List Proof → List ℕ
proofs_text proofs = text_of_lines (proofs_lines proofs)

-- numbers of edges and stages are below this
abbrev pub most_index : ℕ
most_index = 2 ^ 32

-- other numbers have at most 18 digits
abbrev pub most_number : ℕ
most_number = 10 ^ 18

pub record IsWritablePoint (p : Point) : Type 0 where
  pub x : unsigned_abs p.x < most_number
  pub y : unsigned_abs p.y < most_number

abbrev pub IsWritableLabel : Option ℕ → Type 0
IsWritableLabel label = IfSome label (λ n. n < most_number)

pub record IsWritableRow (r : LabelRow) : Type 0 where
  pub stage : r.stage < most_index
  pub at : IsWritablePoint r.at
  pub east : IsWritableLabel r.east
  pub south : IsWritableLabel r.south
  pub west : IsWritableLabel r.west
  pub north : IsWritableLabel r.north

abbrev pub IsWritableClaim : Claim → Type 0
IsWritableClaim (Cost cost points) = (cost < most_number) × AllByRecursion IsWritablePoint points
IsWritableClaim Cut = Unit {0}

pub record IsWritable (p : Proof) : Type 0 where
  pub edge : p.edge < most_index
  pub claim : IsWritableClaim p.claim
  pub rows : AllByRecursion IsWritableRow p.rows

-- all numbers of the proofs are within these bounds
abbrev pub AreWritable : List Proof → Type 0
AreWritable proofs = AllByRecursion IsWritable proofs

-- the bytes are the text of the proofs, which they may be
pub record IsText (bytes : List ℕ) (proofs : List Proof) : Type 0 where
  pub spelled : bytes ≡ proofs_text proofs
  pub writable : AreWritable proofs
