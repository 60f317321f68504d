-- What stands on whole lines: two marks for each bar, and one for each anchor.
use Rattle.std.proofs.Common.{◌≡◌, ◌⊎◌, inl, inr, ℕ, zero, suc, ◌+◌, ◌<◌, ◌≤◌, Bool, true, false, Some, List, [], ◌∷◌, map, refl, sym, ap, subst, ◌∙◌, arith, cond}
use Rattle.std.specs.Prelude.{slice_get, count_by, Contains, ◌==◌}
use Rattle.std.proofs.lemmas.Bool.Decides.{Decides-eqb, nat_tests}
use Rattle.std.proofs.lemmas.List.Elements.{Contains-append_cases, Contains-append_left, Contains-append_right}
use Rattle.std.proofs.lemmas.List.Sums.{sum_by-cons, sum_by-append}
use Rattle.plane_geom.specs.declared.point.Point.{Point}
use Rattle.plane_geom.specs.declared.point.Way.{Way}
use Rattle.sweep_lines.specs.declared.bar.Bar.{Bar}
use Rattle.sweep_lines.specs.declared.mark.Kind.{Kind}
use Rattle.sweep_lines.specs.declared.mark.Kind.TheVariants.{Begin, End, Anchor}
use Rattle.sweep_lines.specs.declared.mark.Mark.{Mark}
use Rattle.sweep_lines.specs.Marks.{begin_mark, end_mark, anchor_mark, sides_from, marks_of, begins, ends}
use Rattle.sweep_lines.proofs.Members.{Among, among_of_contains, contains_of_among, among_map, among_mapped}

-- the mark is a side of the bar with the number
abbrev IsSide : ℕ → Bar → Mark → Type 0
IsSide k b m = (m ≡ begin_mark k b) ⊎ (m ≡ end_mark k b)

side_cases : (n : ℕ) (bs : List Bar) (m : Mark) → Among m (sides_from n bs) → (k : ℕ) × (b : Bar) × (slice_get bs k ≡ Some b) × IsSide (n + k) b m
side_cases n [] m h = absurd h
side_cases n (b ∷ bs) m (inl e) = let z : n ≡ n + zero = omega arith in (zero, b, refl, inl (e ∙ ap (λ j. begin_mark j b) z))
side_cases n (b ∷ bs) m (inr (inl e)) = let z : n ≡ n + zero = omega arith in (zero, b, refl, inr (e ∙ ap (λ j. end_mark j b) z))
side_cases n (b ∷ bs) m (inr (inr h)) =
    let r = side_cases (n + 1) bs m h in
    let z : n + 1 + r.0 ≡ n + suc r.0 = omega arith in
    (suc r.0, r.1, r.2, subst (λ j. IsSide j r.1 m) z r.3)

sides_have : (n : ℕ) (bs : List Bar) (k : ℕ) (b : Bar) → slice_get bs k ≡ Some b → Among (begin_mark (n + k) b) (sides_from n bs) × Among (end_mark (n + k) b) (sides_from n bs)
sides_have n [] k b e = absurd (cc)
sides_have n (c ∷ bs) zero b e =
    let h : b ≡ c = cc in
    let z : n + zero ≡ n = omega arith in
    (inl (ap (λ j. begin_mark j b) z ∙ ap (begin_mark n) h), inr (inl (ap (λ j. end_mark j b) z ∙ ap (end_mark n) h)))
sides_have n (c ∷ bs) (suc k) b e =
    let r = sides_have (n + 1) bs k b e in
    let z : n + 1 + k ≡ n + suc k = omega arith in
    (inr (inr (subst (λ j. Among (begin_mark j b) (sides_from (n + 1) bs)) z r.0)), inr (inr (subst (λ j. Among (end_mark j b) (sides_from (n + 1) bs)) z r.1)))

-- a mark is one of the two sides of a bar, or an anchor's
pub mark_cases : (way : Way) (bars : List Bar) (anchors : List Point) (m : Mark) → Contains (marks_of way bars anchors) m →
    ((k : ℕ) × (b : Bar) × (slice_get bars k ≡ Some b) × IsSide k b m) ⊎ ((p : Point) × Among p anchors × (m ≡ anchor_mark way p))
mark_cases way bars anchors m c = elim (Contains-append_cases (sides_from 0 bars) (map (anchor_mark way) anchors) m c) [
  | inl h ↦ (let r = side_cases 0 bars m (among_of_contains (sides_from 0 bars) m h) in
      let z : 0 + r.0 ≡ r.0 = omega arith in
      inl (r.0, r.1, r.2, subst (λ j. IsSide j r.1 m) z r.3))
  | inr h ↦ inr (among_mapped (anchor_mark way) anchors m (among_of_contains (map (anchor_mark way) anchors) m h))
]

pub marks_have_sides : (way : Way) (bars : List Bar) (anchors : List Point) (k : ℕ) (b : Bar) → slice_get bars k ≡ Some b →
    Contains (marks_of way bars anchors) (begin_mark k b) × Contains (marks_of way bars anchors) (end_mark k b)
marks_have_sides way bars anchors k b e =
    let r = sides_have 0 bars k b e in
    let z : 0 + k ≡ k = omega arith in
    let side = λ (m : Mark) (h : Among m (sides_from 0 bars)). Contains-append_left (sides_from 0 bars) (map (anchor_mark way) anchors) m (contains_of_among (sides_from 0 bars) m h) in
    (side (begin_mark k b) (subst (λ j. Among (begin_mark j b) (sides_from 0 bars)) z r.0), side (end_mark k b) (subst (λ j. Among (end_mark j b) (sides_from 0 bars)) z r.1))

pub marks_have_anchors : (way : Way) (bars : List Bar) (anchors : List Point) (p : Point) → Among p anchors → Contains (marks_of way bars anchors) (anchor_mark way p)
marks_have_anchors way bars anchors p h =
    Contains-append_right (sides_from 0 bars) (map (anchor_mark way) anchors) (anchor_mark way p) (contains_of_among _ _ (among_map (anchor_mark way) anchors p h))

pub kind_of_begins : (k : ℕ) (kind : Kind) → begins k kind ≡ true → kind ≡ Begin k
kind_of_begins k (Begin n) e = ap Begin ((Decides-eqb n k).0 e)
kind_of_begins k (End n) e = absurd (cc)
kind_of_begins k Anchor e = absurd (cc)

pub kind_of_ends : (k : ℕ) (kind : Kind) → ends k kind ≡ true → kind ≡ End k
kind_of_ends k (Begin n) e = absurd (cc)
kind_of_ends k (End n) e = ap End ((Decides-eqb n k).0 e)
kind_of_ends k Anchor e = absurd (cc)

pub begins_of_kind : (k : ℕ) (kind : Kind) → kind ≡ Begin k → begins k kind ≡ true
begins_of_kind k kind e = ap (begins k) e ∙ (Decides-eqb k k).1 refl

pub ends_of_kind : (k : ℕ) (kind : Kind) → kind ≡ End k → ends k kind ≡ true
ends_of_kind k kind e = ap (ends k) e ∙ (Decides-eqb k k).1 refl

-- the bar that begins with a mark, and the one that ends with it
pub begun_by : (way : Way) (bars : List Bar) (anchors : List Point) (m : Mark) (k : ℕ) → Contains (marks_of way bars anchors) m → m.kind ≡ Begin k →
    (b : Bar) × (slice_get bars k ≡ Some b) × (m ≡ begin_mark k b)
begun_by way bars anchors m k c e = elim (mark_cases way bars anchors m c) [
  | inl (j, b, g, inl h) ↦ (let s : j ≡ k = let t : Begin j ≡ Begin k = sym (ap (λ (m : Mark). m.kind) h) ∙ e in cc in
      (b, subst (λ i. slice_get bars i ≡ Some b) s g, h ∙ ap (λ i. begin_mark i b) s))
  | inl (j, b, g, inr h) ↦ absurd (let t : End j ≡ Begin k = sym (ap (λ (m : Mark). m.kind) h) ∙ e in cc)
  | inr (p, i, h) ↦ absurd (let t : Anchor ≡ Begin k = sym (ap (λ (m : Mark). m.kind) h) ∙ e in cc)
]

pub ended_by : (way : Way) (bars : List Bar) (anchors : List Point) (m : Mark) (k : ℕ) → Contains (marks_of way bars anchors) m → m.kind ≡ End k →
    (b : Bar) × (slice_get bars k ≡ Some b) × (m ≡ end_mark k b)
ended_by way bars anchors m k c e = elim (mark_cases way bars anchors m c) [
  | inl (j, b, g, inr h) ↦ (let s : j ≡ k = let t : End j ≡ End k = sym (ap (λ (m : Mark). m.kind) h) ∙ e in cc in
      (b, subst (λ i. slice_get bars i ≡ Some b) s g, h ∙ ap (λ i. end_mark i b) s))
  | inl (j, b, g, inl h) ↦ absurd (let t : Begin j ≡ End k = sym (ap (λ (m : Mark). m.kind) h) ∙ e in cc)
  | inr (p, i, h) ↦ absurd (let t : Anchor ≡ End k = sym (ap (λ (m : Mark). m.kind) h) ∙ e in cc)
]

-- no two marks are the beginning of one bar
abbrev pub begin_count : ℕ → List Mark → ℕ
begin_count k = count_by (λ m. begins k m.kind)

count_cons : (k : ℕ) (m : Mark) (ms : List Mark) → begin_count k (m ∷ ms) ≡ cond (begins k m.kind) 1 0 + begin_count k ms
count_cons k m ms = sum_by-cons (λ (m : Mark). cond (begins k m.kind) 1 0) m ms

none_by : (b : Bool) (rest : ℕ) → b ≡ false → rest ≡ 0 → cond b 1 0 + rest ≡ 0
none_by true rest e h = absurd (cc)
none_by false rest e h = omega arith

none_before : (k n : ℕ) (bs : List Bar) → k < n → begin_count k (sides_from n bs) ≡ 0
none_before k n [] h = refl
none_before k n (b ∷ bs) h =
    let a = count_cons k (begin_mark n b) (end_mark n b ∷ sides_from (n + 1) bs) in
    let c = count_cons k (end_mark n b) (sides_from (n + 1) bs) in
    let d = none_before k (n + 1) bs (omega arith) in
    let no : (n == k) ≡ false = grind (arith, nat_tests) in
    let e = none_by (n == k) (begin_count k (sides_from (n + 1) bs)) no d in
    omega (arith, a, c, e)

one_by : (b : Bool) (k n : ℕ) (rest : ℕ) → (n == k) ≡ b → rest ≤ 1 → (k < n + 1 → rest ≡ 0) → cond b 1 0 + rest ≤ 1
one_by true k n rest e h f = let same : n ≡ k = (Decides-eqb n k).0 e in let z : rest ≡ 0 = f (omega arith) in omega arith
one_by false k n rest e h f = omega arith

begins_once_from : (k n : ℕ) (bs : List Bar) → begin_count k (sides_from n bs) ≤ 1
begins_once_from k n [] = omega arith
begins_once_from k n (b ∷ bs) =
    let a = count_cons k (begin_mark n b) (end_mark n b ∷ sides_from (n + 1) bs) in
    let c = count_cons k (end_mark n b) (sides_from (n + 1) bs) in
    let d = one_by (n == k) k n (begin_count k (sides_from (n + 1) bs)) refl (begins_once_from k (n + 1) bs) (λ h. none_before k (n + 1) bs h) in
    omega (arith, a, c, d)

no_anchor_begins : (k : ℕ) (way : Way) (ps : List Point) → begin_count k (map (anchor_mark way) ps) ≡ 0
no_anchor_begins k way [] = refl
no_anchor_begins k way (p ∷ ps) = let a = count_cons k (anchor_mark way p) (map (anchor_mark way) ps) in omega (arith, a, no_anchor_begins k way ps)

pub begins_once : (k : ℕ) (way : Way) (bars : List Bar) (anchors : List Point) → begin_count k (marks_of way bars anchors) ≤ 1
begins_once k way bars anchors =
    let a = sum_by-append (λ (m : Mark). cond (begins k m.kind) 1 0) (sides_from 0 bars) (map (anchor_mark way) anchors) in
    omega (arith, a, begins_once_from k 0 bars, no_anchor_begins k way anchors)
