-- Lines that are read one after the other, and the proofs that they make.
use Rattle.std.proofs.Common.{◌≡◌, ℕ, ◌<◌, List, [], ◌∷◌, ◌++◌, map, Option, None, Some, refl, sym, ap, subst, ◌∙◌, append_assoc}
use Rattle.std.specs.Prelude.{option_and_then}
use Rattle.std.specs.List.{AllByRecursion}
use Rattle.std.proofs.lemmas.List.{append-nil}
use Rattle.std.proofs.lemmas.List.Concat.{flat_map-append}
use Rattle.plane_geom.specs.declared.point.Point.{Point}
use Rattle.proof_model.specs.declared.proof.Claim.{Claim}
use Rattle.proof_model.specs.declared.proof.Claim.TheVariants.{Cost, Cut}
use Rattle.proof_model.specs.declared.proof.LabelRow.{LabelRow}
use Rattle.proof_model.specs.declared.proof.Proof.{Proof}
use Rattle.proof_text.specs.declared.line.Line.{Line}
use Rattle.proof_text.specs.declared.line.Line.TheVariants.{Edge, Corner, Row}
use Rattle.proof_text.specs.Forms.{line_of}
use Rattle.proof_text.specs.Lines.{IsOneLine}
use Rattle.proof_text.specs.Reading.{State, proofs_of, new_proof, claim_with, with_point, with_row, with_line, after_line}
use Rattle.proof_text.specs.Text.{edge_line, point_line, row_line, claimed_points, proof_lines, proofs_lines}
use Rattle.proof_text.specs.Text.{IsWritablePoint, IsWritableRow, IsWritableClaim, IsWritable, AreWritable, most_index}
use Rattle.proof_text.proofs.Numbers.{of_some, mapped_some}
use Rattle.proof_text.proofs.Said.{line_bytes, IsWritableLine, line_spells, line_reads, line_is_one}

-- the state after lines, if a text can go on with each
abbrev pub after_lines : State → List (List ℕ) → Option State
after_lines s [] = Some s
after_lines s (line ∷ lines) = option_and_then (λ t. after_lines t lines) (after_line s line)

and_then_twice : {A B C : Type 0} (f : A → Option B) (g : B → Option C) (h : A → Option C) → ((x : A) → h x ≡ option_and_then g (f x)) →
    (o : Option A) → option_and_then h o ≡ option_and_then g (option_and_then f o)
and_then_twice f g h same None = refl
and_then_twice f g h same (Some x) = same x

pub after_lines-append : (s : State) (xs ys : List (List ℕ)) → after_lines s (xs ++ ys) ≡ option_and_then (λ t. after_lines t ys) (after_lines s xs)
after_lines-append s [] ys = refl
after_lines-append s (x ∷ xs) ys =
    and_then_twice (λ t. after_lines t xs) (λ t. after_lines t ys) (λ t. after_lines t (xs ++ ys)) (λ t. after_lines-append t xs ys) (after_line s x)

-- lists whose elements all have a property

pub all-append : {A : Type 0} (P : A → Type 0) (xs ys : List A) → AllByRecursion P xs → AllByRecursion P ys → AllByRecursion P (xs ++ ys)
all-append P [] ys p q = q
all-append P (x ∷ xs) ys p q = (p.0, all-append P xs ys p.1 q)

last_of : {A : Type 0} (P : A → Type 0) (xs : List A) (y : A) → AllByRecursion P (xs ++ y ∷ []) → AllByRecursion P xs × P y
last_of P [] y p = (tt, p.0)
last_of P (x ∷ xs) y p = (let rest = last_of P xs y p.1 in ((p.0, rest.0), rest.1))

map-append : {A B : Type 0} (f : A → B) (xs ys : List A) → map f (xs ++ ys) ≡ map f xs ++ map f ys
map-append f [] ys = refl
map-append f (x ∷ xs) ys = ap (λ l. f x ∷ l) (map-append f xs ys)

-- a line more of the last proof

pub record AddsLine (line : List ℕ) (p q : Proof) : Type 0 where
  pub lines : proof_lines q ≡ proof_lines p ++ line ∷ []
  pub writable : IsWritable p → IsWritable q

pub record AddsPoint (point : Point) (rows : List LabelRow) (old new : Claim) : Type 0 where
  pub no_rows : rows ≡ []
  pub edge : (edge : ℕ) → edge_line edge new ≡ edge_line edge old
  pub points : claimed_points new ≡ claimed_points old ++ point ∷ []
  pub writable : IsWritablePoint point → IsWritableClaim old → IsWritableClaim new

adds_point : (point : Point) (rows : List LabelRow) (old new : Claim) → claim_with old rows point ≡ Some new → AddsPoint point rows old new
adds_point point [] (Cost cost points) new e =
    let is : Cost cost (points ++ point ∷ []) ≡ new = cc in
    subst (AddsPoint point [] (Cost cost points)) is (record {
      no_rows = refl;
      edge = λ edge. refl;
      points = refl;
      writable = λ w old. (old.0, all-append IsWritablePoint points (point ∷ []) old.1 (w, tt));
    })
adds_point point (r ∷ rows) (Cost cost points) new e = cc
adds_point point [] Cut new e = cc
adds_point point (r ∷ rows) Cut new e = cc

point_adds : (point : Point) (p q : Proof) → IsWritablePoint point → with_point point p ≡ Some q → AddsLine (point_line point) p q
point_adds point p q w e =
    let claim = mapped_some _ (claim_with p.claim p.rows point) q e in
    let adds = adds_point point p.rows p.claim claim.0 claim.1 in
    subst (AddsLine (point_line point) p) claim.2 (record {
      lines =
          ap (λ l. l ∷ (map point_line (claimed_points claim.0) ++ map row_line p.rows)) (adds.edge p.edge)
          ∙ ap (λ ps. edge_line p.edge p.claim ∷ (map point_line ps ++ map row_line p.rows)) adds.points
          ∙ ap (λ rs. edge_line p.edge p.claim ∷ (map point_line (claimed_points p.claim ++ point ∷ []) ++ map row_line rs)) adds.no_rows
          ∙ ap (λ l. edge_line p.edge p.claim ∷ l) (append-nil _ ∙ map-append point_line (claimed_points p.claim) (point ∷ []))
          ∙ ap (λ l. edge_line p.edge p.claim ∷ (l ++ point_line point ∷ [])) (sym (append-nil (map point_line (claimed_points p.claim))))
          ∙ ap (λ rs. edge_line p.edge p.claim ∷ ((map point_line (claimed_points p.claim) ++ map row_line rs) ++ point_line point ∷ [])) (sym adds.no_rows);
      writable = λ old. record { edge = old.edge; claim = adds.writable w old.claim; rows = old.rows };
    })

row_adds : (row : LabelRow) (p : Proof) → IsWritableRow row → AddsLine (row_line row) p (with_row row p)
row_adds row p w = record {
  lines =
      ap (λ l. edge_line p.edge p.claim ∷ (map point_line (claimed_points p.claim) ++ l)) (map-append row_line p.rows (row ∷ []))
      ∙ ap (λ l. edge_line p.edge p.claim ∷ l) (sym (append_assoc (map point_line (claimed_points p.claim)) (map row_line p.rows) (row_line row ∷ [])));
  writable = λ old. record { edge = old.edge; claim = old.claim; rows = all-append IsWritableRow p.rows (row ∷ []) old.rows (w, tt) };
}

-- a line more of all proofs
pub record Adds (line : List ℕ) (s t : State) : Type 0 where
  pub lines : proofs_lines (proofs_of t) ≡ proofs_lines (proofs_of s) ++ line ∷ []
  pub writable : AreWritable (proofs_of s) → AreWritable (proofs_of t)

proofs_lines-last : (ps : List Proof) (p : Proof) → proofs_lines (ps ++ p ∷ []) ≡ proofs_lines ps ++ proof_lines p
proofs_lines-last ps p = flat_map-append proof_lines ps (p ∷ []) ∙ ap (λ l. proofs_lines ps ++ l) (append-nil (proof_lines p))

last_adds : (line : List ℕ) (done : List Proof) (p q : Proof) → AddsLine line p q → Adds line (done, Some p) (done, Some q)
last_adds line done p q adds = record {
  lines =
      proofs_lines-last done q ∙ ap (λ l. proofs_lines done ++ l) adds.lines ∙ sym (append_assoc (proofs_lines done) (proof_lines p) (line ∷ []))
      ∙ ap (λ l. l ++ line ∷ []) (sym (proofs_lines-last done p));
  writable = λ old. (let parts = last_of IsWritable done p old in all-append IsWritable done (q ∷ []) parts.0 (adds.writable parts.1, tt));
}

new_lines : (edge : ℕ) (cost : Option ℕ) → proof_lines (new_proof edge cost) ≡ line_bytes (Edge edge cost) ∷ []
new_lines edge None = refl
new_lines edge (Some cost) = refl

new_writable : (edge : ℕ) (cost : Option ℕ) → IsWritableLine (Edge edge cost) → IsWritable (new_proof edge cost)
new_writable edge None w = record { edge = w.0; claim = tt; rows = tt }
new_writable edge (Some cost) w = record { edge = w.0; claim = (w.1, tt); rows = tt }

says_adds : (s t : State) (l : Line) → IsWritableLine l → with_line s l ≡ Some t → Adds (line_bytes l) s t
says_adds s t (Edge edge cost) w e =
    let is : (proofs_of s, Some (new_proof edge cost)) ≡ t = cc in
    subst (Adds (line_bytes (Edge edge cost)) s) is (record {
      lines = proofs_lines-last (proofs_of s) (new_proof edge cost) ∙ ap (λ l. proofs_lines (proofs_of s) ++ l) (new_lines edge cost);
      writable = λ old. all-append IsWritable (proofs_of s) (new_proof edge cost ∷ []) old (new_writable edge cost w, tt);
    })
says_adds s t (Corner point) w e =
    let q = mapped_some (λ p. (s.0, Some p)) (option_and_then (with_point point) s.1) t e in
    let p = of_some (with_point point) s.1 q.0 q.1 in
    let old : (s.0, Some p.0) ≡ s = ap (λ o. (s.0, o)) (sym p.1) in
    subst (λ u. Adds (line_bytes (Corner point)) u t) old
    (subst (Adds (line_bytes (Corner point)) (s.0, Some p.0)) q.2 (last_adds (point_line point) s.0 p.0 q.0 (point_adds point p.0 q.0 w p.2)))
says_adds s t (Row row) w e =
    let p = mapped_some (λ p. (s.0, Some (with_row row p))) s.1 t e in
    let old : (s.0, Some p.0) ≡ s = ap (λ o. (s.0, o)) (sym p.1) in
    subst (λ u. Adds (line_bytes (Row row)) u t) old
    (subst (Adds (line_bytes (Row row)) (s.0, Some p.0)) p.2 (last_adds (row_line row) s.0 p.0 (with_row row p.0) (row_adds row p.0 w)))

-- a line that is read is the next line of the text
line_adds : (s t : State) (line : List ℕ) → after_line s line ≡ Some t → Adds line s t
line_adds s t line e =
    let l = of_some (with_line s) (line_of line) t e in
    let spelled = line_spells line l.0 l.1 in
    subst (λ b. Adds b s t) (sym spelled.0) (says_adds s t l.0 spelled.1 l.2)

-- lines that are read are the next lines of the text
pub record AddLines (lines : List (List ℕ)) (s t : State) : Type 0 where
  pub lines_are : proofs_lines (proofs_of t) ≡ proofs_lines (proofs_of s) ++ lines
  pub writable : AreWritable (proofs_of s) → AreWritable (proofs_of t)

pub lines_add : (s t : State) (lines : List (List ℕ)) → after_lines s lines ≡ Some t → AddLines lines s t
lines_add s t [] e =
    let is : s ≡ t = cc in
    subst (AddLines [] s) is (record { lines_are = sym (append-nil (proofs_lines (proofs_of s))); writable = λ old. old })
lines_add s t (line ∷ lines) e =
    let u = of_some (λ v. after_lines v lines) (after_line s line) t e in
    let one = line_adds s u.0 line u.1 in
    let rest = lines_add u.0 t lines u.2 in
    record {
      lines_are = rest.lines_are ∙ ap (λ l. l ++ lines) one.lines ∙ append_assoc (proofs_lines (proofs_of s)) (line ∷ []) lines;
      writable = λ old. rest.writable (one.writable old);
    }

-- and the lines of proofs are read as the proofs

point_read : (done : List Proof) (edge cost : ℕ) (sofar : List Point) (point : Point) → IsWritablePoint point →
    after_line (done, Some (record { edge = edge; claim = Cost cost sofar; rows = [] })) (point_line point)
    ≡ Some (done, Some (record { edge = edge; claim = Cost cost (sofar ++ point ∷ []); rows = [] }))
point_read done edge cost sofar point w = ap (option_and_then (with_line (done, Some (record { edge = edge; claim = Cost cost sofar; rows = [] }))))
    (line_reads (Corner point) w)

points_read : (done : List Proof) (edge cost : ℕ) (sofar points : List Point) → AllByRecursion IsWritablePoint points →
    after_lines (done, Some (record { edge = edge; claim = Cost cost sofar; rows = [] })) (map point_line points)
    ≡ Some (done, Some (record { edge = edge; claim = Cost cost (sofar ++ points); rows = [] }))
points_read done edge cost sofar [] w = ap (λ ps. Some (done, Some (record { edge = edge; claim = Cost cost ps; rows = [] }))) (sym (append-nil sofar))
points_read done edge cost sofar (p ∷ points) w =
    ap (option_and_then (λ t. after_lines t (map point_line points))) (point_read done edge cost sofar p w.0)
    ∙ points_read done edge cost (sofar ++ p ∷ []) points w.1
    ∙ ap (λ ps. Some (done, Some (record { edge = edge; claim = Cost cost ps; rows = [] }))) (append_assoc sofar (p ∷ []) points)

row_read : (done : List Proof) (p : Proof) (row : LabelRow) → IsWritableRow row → after_line (done, Some p) (row_line row) ≡ Some (done, Some (with_row row p))
row_read done p row w = ap (option_and_then (with_line (done, Some p))) (line_reads (Row row) w)

rows_read : (done : List Proof) (edge : ℕ) (claim : Claim) (sofar rows : List LabelRow) → AllByRecursion IsWritableRow rows →
    after_lines (done, Some (record { edge = edge; claim = claim; rows = sofar })) (map row_line rows) ≡ Some
    (done, Some (record { edge = edge; claim = claim; rows = sofar ++ rows }))
rows_read done edge claim sofar [] w = ap (λ rs. Some (done, Some (record { edge = edge; claim = claim; rows = rs }))) (sym (append-nil sofar))
rows_read done edge claim sofar (r ∷ rows) w =
    ap (option_and_then (λ t. after_lines t (map row_line rows))) (row_read done (record { edge = edge; claim = claim; rows = sofar }) r w.0)
    ∙ rows_read done edge claim (sofar ++ r ∷ []) rows w.1
    ∙ ap (λ rs. Some (done, Some (record { edge = edge; claim = claim; rows = rs }))) (append_assoc sofar (r ∷ []) rows)

claim_read : (s : State) (edge : ℕ) (claim : Claim) → edge < most_index → IsWritableClaim claim →
    after_lines s (edge_line edge claim ∷ map point_line (claimed_points claim)) ≡ Some (proofs_of s, Some (record { edge = edge; claim = claim; rows = [] }))
claim_read s edge (Cost cost points) small w =
    ap (λ o. option_and_then (λ t. after_lines t (map point_line points)) (option_and_then (with_line s) o)) (line_reads (Edge edge (Some cost)) (small, w.0))
    ∙ points_read (proofs_of s) edge cost [] points w.1
claim_read s edge Cut small w =
    ap (λ o. option_and_then (λ t. after_lines t []) (option_and_then (with_line s) o)) (line_reads (Edge edge None) (small, tt))

proof_read : (s : State) (p : Proof) → IsWritable p → after_lines s (proof_lines p) ≡ Some (proofs_of s, Some p)
proof_read s p w =
    after_lines-append s (edge_line p.edge p.claim ∷ map point_line (claimed_points p.claim)) (map row_line p.rows)
    ∙ ap (option_and_then (λ t. after_lines t (map row_line p.rows))) (claim_read s p.edge p.claim w.edge w.claim)
    ∙ rows_read (proofs_of s) p.edge p.claim [] p.rows w.rows

pub record AreRead (ps : List Proof) (s : State) : Type 0 where
  pub new : State
  pub read : after_lines s (proofs_lines ps) ≡ Some new
  pub proofs : proofs_of new ≡ proofs_of s ++ ps

pub proofs_read : (s : State) (ps : List Proof) → AreWritable ps → AreRead ps s
proofs_read s [] w = record { new = s; read = refl; proofs = sym (append-nil (proofs_of s)) }
proofs_read s (p ∷ ps) w =
    let rest = proofs_read (proofs_of s, Some p) ps w.1 in
    record {
      new = rest.new;
      read = after_lines-append s (proof_lines p) (proofs_lines ps) ∙ ap (option_and_then (λ t. after_lines t (proofs_lines ps))) (proof_read s p w.0)
          ∙ rest.read;
      proofs = rest.proofs ∙ append_assoc (proofs_of s) (p ∷ []) ps;
    }

-- no line of proofs has a line feed within

points_one : (ps : List Point) → AllByRecursion IsWritablePoint ps → AllByRecursion IsOneLine (map point_line ps)
points_one [] w = tt
points_one (p ∷ ps) w = (line_is_one (Corner p) w.0, points_one ps w.1)

rows_one : (rs : List LabelRow) → AllByRecursion IsWritableRow rs → AllByRecursion IsOneLine (map row_line rs)
rows_one [] w = tt
rows_one (r ∷ rs) w = (line_is_one (Row r) w.0, rows_one rs w.1)

claim_one : (edge : ℕ) (claim : Claim) → edge < most_index → IsWritableClaim claim →
    AllByRecursion IsOneLine (edge_line edge claim ∷ map point_line (claimed_points claim))
claim_one edge (Cost cost points) small w = (line_is_one (Edge edge (Some cost)) (small, w.0), points_one points w.1)
claim_one edge Cut small w = (line_is_one (Edge edge None) (small, tt), tt)

pub proofs_one : (ps : List Proof) → AreWritable ps → AllByRecursion IsOneLine (proofs_lines ps)
proofs_one [] w = tt
proofs_one (p ∷ ps) w =
    let claim = claim_one p.edge p.claim w.0.edge w.0.claim in
    all-append IsOneLine (proof_lines p) (proofs_lines ps)
    (claim.0, all-append IsOneLine (map point_line (claimed_points p.claim)) (map row_line p.rows) claim.1 (rows_one p.rows w.0.rows)) (proofs_one ps w.1)
