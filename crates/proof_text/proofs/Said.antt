-- What a line says, and the line that says it.
use Rattle.std.proofs.Common.{◌≡◌, ℕ, ◌<◌, Bool, true, false, cond, List, [], ◌∷◌, Option, None, Some, refl, sym, ap, subst, ◌∙◌, arith}
use Rattle.std.specs.Prelude.{codes, decimal, bytes_eq, option_map}
use Rattle.std.specs.Fmt.{signed_decimal}
use Rattle.std.specs.List.{AllByRecursion}
use Rattle.std.proofs.lemmas.List.Splits.{join_with_byte-slice_split}
use Rattle.std.proofs.lemmas.Slice.Eq.{bytes_eq-Decides}
use Rattle.plane_geom.specs.declared.point.Point.{Point}
use Rattle.proof_text.specs.declared.line.Line.{Line}
use Rattle.proof_text.specs.declared.line.Line.TheVariants.{Edge, Corner, Row}
use Rattle.proof_text.specs.Forms.{claim_form, edge_form, point_of, point_form, labels_form, row_form, line_of_words, words, line_of}
use Rattle.proof_text.specs.Lines.{IsOneLine}
use Rattle.proof_text.specs.Text.{IsWritableLabel, IsWritablePoint, IsWritableRow, label_word, most_index, joined_words}
use Rattle.proof_text.specs.Values.{natural, whole, index, label}
use Rattle.proof_text.proofs.Numbers.{of_some, mapped_some, natural_spells, natural_reads, index_spells}
use Rattle.proof_text.proofs.Numbers.{index_reads, whole_spells, whole_reads, label_spells, label_reads}
use Rattle.proof_text.proofs.Words.{IsWord, decimal_word, signed_word, label_is_word, words-joined_words, words_one_line}

abbrev pub claim_words : Option ℕ → List (List ℕ)
claim_words None = codes "cut" ∷ []
claim_words (Some cost) = codes "cost" ∷ decimal cost ∷ []

-- the words after the name
abbrev pub args_of : Line → List (List ℕ)
args_of (Edge edge cost) = decimal edge ∷ claim_words cost
args_of (Corner p) = signed_decimal p.x ∷ signed_decimal p.y ∷ []
args_of (Row r) =
    decimal r.stage ∷ signed_decimal r.at.x ∷ signed_decimal r.at.y ∷ label_word r.east ∷ label_word r.south ∷ label_word r.west ∷ label_word r.north ∷ []

abbrev pub name_of : Line → List ℕ
name_of (Edge edge cost) = codes "edge"
name_of (Corner p) = codes "point"
name_of (Row r) = codes "label"

-- the bytes of the line
abbrev pub line_bytes : Line → List ℕ
line_bytes l = joined_words (name_of l ∷ args_of l)

-- its numbers are within their bounds
abbrev pub IsWritableLine : Line → Type 0
IsWritableLine (Edge edge cost) = (edge < most_index) × IsWritableLabel cost
IsWritableLine (Corner p) = IsWritablePoint p
IsWritableLine (Row r) = IsWritableRow r

pub record IsSaid (ws : List (List ℕ)) (l : Line) : Type 0 where
  pub words : ws ≡ name_of l ∷ args_of l
  pub writable : IsWritableLine l

-- from words to what they say

claim_by_cut : (name : List ℕ) (cost : Option ℕ) (b : Bool) → bytes_eq name (codes "cut") ≡ b → cond b (Some None) None ≡ Some cost →
    (name ∷ [] ≡ claim_words cost) × IsWritableLabel cost
claim_by_cut name cost true test e =
    let is : None ≡ cost = cc in
    let P : Option ℕ → Type 0 = λ o. (name ∷ [] ≡ claim_words o) × IsWritableLabel o in
    subst P is (ap (λ n. n ∷ []) ((bytes_eq-Decides name (codes "cut")).0 test), tt)
claim_by_cut name cost false test e = cc

claim_by_cost : (name word : List ℕ) (cost : Option ℕ) (b : Bool) → bytes_eq name (codes "cost") ≡ b →
    cond b (option_map Some (natural word)) None ≡ Some cost →
    (name ∷ word ∷ [] ≡ claim_words cost) × IsWritableLabel cost
claim_by_cost name word cost true test e =
    let from = mapped_some Some (natural word) cost e in
    let spelled = natural_spells word from.0 from.1 in
    let named = (bytes_eq-Decides name (codes "cost")).0 test in
    let P : Option ℕ → Type 0 = λ o. (name ∷ word ∷ [] ≡ claim_words o) × IsWritableLabel o in
    subst P from.2 (ap (λ n. n ∷ word ∷ []) named ∙ ap (λ w. codes "cost" ∷ w ∷ []) spelled.0, spelled.1)
claim_by_cost name word cost false test e = cc

claim_said : (ws : List (List ℕ)) (cost : Option ℕ) → claim_form ws ≡ Some cost → (ws ≡ claim_words cost) × IsWritableLabel cost
claim_said [] cost e = cc
claim_said (a ∷ []) cost e = claim_by_cut a cost (bytes_eq a (codes "cut")) refl e
claim_said (a ∷ b ∷ []) cost e = claim_by_cost a b cost (bytes_eq a (codes "cost")) refl e
claim_said (a ∷ b ∷ c ∷ ws) cost e = cc

edge_said : (args : List (List ℕ)) (l : Line) → edge_form args ≡ Some l → IsSaid (codes "edge" ∷ args) l
edge_said [] l e = cc
edge_said (a ∷ claim) l e =
    let edge = of_some _ (index a) l e in
    let cost = of_some _ (claim_form claim) l edge.2 in
    let spelled = index_spells a edge.0 edge.1 in
    let said = claim_said claim cost.0 cost.1 in
    let is : Edge edge.0 cost.0 ≡ l = (let same = cost.2 in cc) in
    subst (IsSaid (codes "edge" ∷ a ∷ claim)) is
    (record { words = ap (λ w. codes "edge" ∷ w ∷ claim) spelled.0 ∙ ap (λ ws. codes "edge" ∷ decimal edge.0 ∷ ws) said.0; writable = (spelled.1, said.1) })

pub record IsPointSaid (a b : List ℕ) (p : Point) : Type 0 where
  pub x : a ≡ signed_decimal p.x
  pub y : b ≡ signed_decimal p.y
  pub writable : IsWritablePoint p

point_said : (a b : List ℕ) (p : Point) → point_of a b ≡ Some p → IsPointSaid a b p
point_said a b p e =
    let x = of_some _ (whole a) p e in
    let y = of_some _ (whole b) p x.2 in
    let first = whole_spells a x.0 x.1 in
    let second = whole_spells b y.0 y.1 in
    let is : record { x = x.0; y = y.0 } ≡ p = (let same = y.2 in cc) in
    subst (IsPointSaid a b) is (record { x = first.0; y = second.0; writable = record { x = first.1; y = second.1 } })

point_line_said : (args : List (List ℕ)) (l : Line) → point_form args ≡ Some l → IsSaid (codes "point" ∷ args) l
point_line_said [] l e = cc
point_line_said (a ∷ []) l e = cc
point_line_said (a ∷ b ∷ []) l e =
    let p = mapped_some Corner (point_of a b) l e in
    let said = point_said a b p.0 p.1 in
    subst (IsSaid (codes "point" ∷ a ∷ b ∷ [])) p.2
    (record { words = ap (λ w. codes "point" ∷ w ∷ b ∷ []) said.x ∙ ap (λ w. codes "point" ∷ signed_decimal p.0.x ∷ w ∷ []) said.y; writable = said.writable })
point_line_said (a ∷ b ∷ c ∷ args) l e = cc

labels_said : (a b c : List ℕ) (stage : ℕ) (at : Point) (labels : List (List ℕ)) (l : Line) → a ≡ decimal stage → stage < most_index → IsPointSaid b c at →
    labels_form stage at labels ≡ Some l → IsSaid (codes "label" ∷ a ∷ b ∷ c ∷ labels) l
labels_said a b c stage at [] l named small point e = cc
labels_said a b c stage at (d ∷ []) l named small point e = cc
labels_said a b c stage at (d ∷ f ∷ []) l named small point e = cc
labels_said a b c stage at (d ∷ f ∷ g ∷ []) l named small point e = cc
labels_said a b c stage at (d ∷ f ∷ g ∷ h ∷ []) l named small point e =
    let east = of_some _ (label d) l e in
    let south = of_some _ (label f) l east.2 in
    let west = of_some _ (label g) l south.2 in
    let north = of_some _ (label h) l west.2 in
    let e_said = label_spells d east.0 east.1 in
    let s_said = label_spells f south.0 south.1 in
    let w_said = label_spells g west.0 west.1 in
    let n_said = label_spells h north.0 north.1 in
    let is : Row (record { stage = stage; at = at; east = east.0; south = south.0; west = west.0; north = north.0 }) ≡ l = (let same = north.2 in cc) in
    let x = point.x in
    let y = point.y in
    let e_is = e_said.0 in
    let s_is = s_said.0 in
    let w_is = w_said.0 in
    let n_is = n_said.0 in
    subst (IsSaid (codes "label" ∷ a ∷ b ∷ c ∷ d ∷ f ∷ g ∷ h ∷ [])) is (record {
      words = cc;
      writable = record { stage = small; at = point.writable; east = e_said.1; south = s_said.1; west = w_said.1; north = n_said.1 };
    })
labels_said a b c stage at (d ∷ f ∷ g ∷ h ∷ i ∷ labels) l named small point e = cc

row_said : (args : List (List ℕ)) (l : Line) → row_form args ≡ Some l → IsSaid (codes "label" ∷ args) l
row_said [] l e = cc
row_said (a ∷ []) l e = cc
row_said (a ∷ b ∷ []) l e = cc
row_said (a ∷ b ∷ c ∷ labels) l e =
    let stage = of_some _ (index a) l e in
    let at = of_some _ (point_of b c) l stage.2 in
    let spelled = index_spells a stage.0 stage.1 in
    labels_said a b c stage.0 at.0 labels l spelled.0 spelled.1 (point_said b c at.0 at.1) at.2

named : (name : List ℕ) (args : List (List ℕ)) (l : Line) (other : List ℕ) → name ≡ other → IsSaid (other ∷ args) l → IsSaid (name ∷ args) l
named name args l other is said = let words = said.words in record { words = cc; writable = said.writable }

by_label : (name : List ℕ) (args : List (List ℕ)) (l : Line) (b : Bool) → bytes_eq name (codes "label") ≡ b → cond b (row_form args) None ≡ Some l →
    IsSaid (name ∷ args) l
by_label name args l true test e = named name args l (codes "label") ((bytes_eq-Decides name (codes "label")).0 test) (row_said args l e)
by_label name args l false test e = cc

by_point : (name : List ℕ) (args : List (List ℕ)) (l : Line) (b : Bool) → bytes_eq name (codes "point") ≡ b →
    cond b (point_form args) (cond (bytes_eq name (codes "label")) (row_form args) None) ≡ Some l → IsSaid (name ∷ args) l
by_point name args l true test e = named name args l (codes "point") ((bytes_eq-Decides name (codes "point")).0 test) (point_line_said args l e)
by_point name args l false test e = by_label name args l (bytes_eq name (codes "label")) refl e

by_edge : (name : List ℕ) (args : List (List ℕ)) (l : Line) (b : Bool) → bytes_eq name (codes "edge") ≡ b →
    cond b (edge_form args) (cond (bytes_eq name (codes "point")) (point_form args) (cond (bytes_eq name (codes "label")) (row_form args) None)) ≡ Some l →
    IsSaid (name ∷ args) l
by_edge name args l true test e = named name args l (codes "edge") ((bytes_eq-Decides name (codes "edge")).0 test) (edge_said args l e)
by_edge name args l false test e = by_point name args l (bytes_eq name (codes "point")) refl e

words_said : (ws : List (List ℕ)) (l : Line) → line_of_words ws ≡ Some l → IsSaid ws l
words_said [] l e = cc
words_said (name ∷ args) l e = by_edge name args l (bytes_eq name (codes "edge")) refl e

-- what is read from a line is what its bytes say
pub line_spells : (line : List ℕ) (l : Line) → line_of line ≡ Some l → (line ≡ line_bytes l) × IsWritableLine l
line_spells line l e =
    let said = words_said (words line) l e in
    (sym (join_with_byte-slice_split 32 line) ∙ ap joined_words said.words, said.writable)

-- from what is said to the words

args_read : (l : Line) → IsWritableLine l → line_of_words (name_of l ∷ args_of l) ≡ Some l
args_read (Edge edge None) w = rw (index_reads edge w.0) refl
args_read (Edge edge (Some cost)) w = rw (index_reads edge w.0, natural_reads cost w.1) refl
args_read (Corner p) w = rw (whole_reads p.x w.x, whole_reads p.y w.y) refl
args_read (Row r) w =
    rw (
      index_reads r.stage w.stage,
      whole_reads r.at.x w.at.x,
      whole_reads r.at.y w.at.y,
      label_reads r.east w.east,
      label_reads r.south w.south,
      label_reads r.west w.west,
      label_reads r.north w.north,
    ) refl

claim_are_words : (cost : Option ℕ) → IsWritableLabel cost → AllByRecursion IsWord (claim_words cost)
claim_are_words None w = ((omega arith, (omega arith, (omega arith, tt))), tt)
claim_are_words (Some cost) w = ((omega arith, (omega arith, (omega arith, (omega arith, tt)))), (decimal_word cost (omega arith), tt))

are_words : (l : Line) → IsWritableLine l → AllByRecursion IsWord (name_of l ∷ args_of l)
are_words (Edge edge cost) w =
    ((omega arith, (omega arith, (omega arith, (omega arith, tt)))), (decimal_word edge (omega (arith, w.0)), claim_are_words cost w.1))
are_words (Corner p) w = ((omega arith, (omega arith, (omega arith, (omega arith, (omega arith, tt))))), (signed_word p.x w.x, (signed_word p.y w.y, tt)))
are_words (Row r) w = (
  (omega arith, (omega arith, (omega arith, (omega arith, (omega arith, tt))))),
  (
    decimal_word r.stage (omega (arith, w.stage)),
    (
      signed_word r.at.x w.at.x,
      (
        signed_word r.at.y w.at.y,
        (label_is_word r.east w.east, (label_is_word r.south w.south, (label_is_word r.west w.west, (label_is_word r.north w.north, tt)))),
      ),
    ),
  ),
)

pub line_reads : (l : Line) → IsWritableLine l → line_of (line_bytes l) ≡ Some l
line_reads l w = ap line_of_words (words-joined_words (name_of l) (args_of l) (are_words l w)) ∙ args_read l w

pub line_is_one : (l : Line) → IsWritableLine l → IsOneLine (line_bytes l)
line_is_one l w = words_one_line (name_of l) (args_of l) (are_words l w)
