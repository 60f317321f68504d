-- The least labels are one list of rows.
use Rattle.std.proofs.Common.{◌≡◌, ℕ, zero, suc, ◌≤◌, ◌<◌, ◌==◌, true, false, Option, Some, None, List, [], ◌∷◌, length, get_or, refl, sym, ap, ◌∙◌}
use Rattle.std.proofs.Common.{arith, inl, inr, All, cond}
use Rattle.std.specs.Prelude.{unwrap_or, IsSome, IsTrue, AllPairs, ◌&&◌}
use Rattle.std.specs.Ordering.{int_eq}
use Rattle.std.proofs.lemmas.Bool.{cases_Bool}
use Rattle.std.proofs.lemmas.Int.{ints}
use Rattle.plane_geom.specs.declared.point.Dir.{Dir}
use Rattle.plane_geom.specs.declared.point.Dir.TheVariants.{East, South, West, North}
use Rattle.plane_geom.specs.declared.floor.Floor.{Floor}
use Rattle.walk_model.specs.declared.task.Task.{Task}
use Rattle.proof_model.specs.declared.proof.Claim.{Claim}
use Rattle.proof_model.specs.declared.proof.Claim.TheVariants.{Cost, Cut}
use Rattle.proof_model.specs.declared.proof.LabelRow.{LabelRow}
use Rattle.proof_model.specs.Labels.{is_before, is_row_of, label_in, label_of}
use Rattle.proof_model.specs.LeastLabels.{AreLeastLabels}
use Rattle.proof_model.specs.Places.{Place}
use Rattle.proof_model.proofs.LeastLabels.{no_other_row, place_in, row_itself}
use Rattle.proof_model.proofs.Lex.{lex_total, lex_trans}

-- ---- the labels are the same

-- where the value is below what is claimed, there is a label that is no more
below : (most : ℕ) (o : Option ℕ) (cost : ℕ) → cost < most → unwrap_or o most ≤ cost → (v : ℕ) × (o ≡ Some v) × (v ≤ cost)
below most None cost less value = absurd (omega (arith, less, value))
below most (Some v) cost less value = (v, refl, value)

some_of : (o : Option ℕ) → IsSome o → (v : ℕ) × (o ≡ Some v)
some_of None is = absurd (let both : false ≡ true = is in cc)
some_of (Some v) is = (v, refl)

same_some : (u v : ℕ) → ◌≡◌ {A = Option ℕ} (Some u) (Some v) → u ≡ v
same_some u v e = cc

module _ (floor : Floor) (task : Task) where
  -- a label of the one list is one of the other, and no less
  no_less : (claim : Claim) (rows others : List LabelRow) → AreLeastLabels floor task claim rows → AreLeastLabels floor task claim others →
      (x : Place) (u : ℕ) → label_of rows x ≡ Some u →
      (v : ℕ) × (label_of others x ≡ Some v) × (v ≤ u)
  no_less (Cost most points) rows others l m x u is =
      let at = l.reached x u is in
      below most (label_of others x) u at.0 (m.least x at.1 u at.2)
  no_less Cut rows others l m x u is =
      let at = l.reached x u is in
      let some = some_of (label_of others x) (m.least x at.1 at.2 at.3) in
      let null = (m.reached x some.0 some.1).0 in
      (some.0, some.1, omega (arith, null))

  same_labels : (claim : Claim) (rows others : List LabelRow) → AreLeastLabels floor task claim rows → AreLeastLabels floor task claim others →
      (x : Place) → label_of rows x ≡ label_of others x
  same_labels claim rows others l m x = by_label (label_of rows x) (label_of others x) refl refl
    where
      by_label : (o p : Option ℕ) → o ≡ label_of rows x → p ≡ label_of others x → o ≡ p
      by_label None None e f = refl
      by_label None (Some v) e f = let there = no_less claim others rows m l x v (sym f) in absurd (let both : None ≡ Some there.0 = e ∙ there.1 in cc)
      by_label (Some u) None e f = let there = no_less claim rows others l m x u (sym e) in absurd (let both : None ≡ Some there.0 = f ∙ there.1 in cc)
      by_label (Some u) (Some v) e f =
          let there = no_less claim rows others l m x u (sym e) in
          let back = no_less claim others rows m l x v (sym f) in
          let one : there.0 ≡ v = same_some there.0 v (sym there.1 ∙ sym f) in
          let two : back.0 ≡ u = same_some back.0 u (sym back.1 ∙ sym e) in
          let same : u ≡ v = omega (arith, one, two, there.2, back.2) in
          ap Some same

-- ---- so are the rows

abbrev Rises : List LabelRow → Type 0
Rises rows = AllPairs (λ a b. IsTrue (is_before a b)) rows

abbrev AreSome : List LabelRow → Type 0
AreSome rows = All (λ r. (h : Dir) × IsSome (label_in r h)) rows

is_row_back : (r a : LabelRow) (h : Dir) → is_row_of r (place_in a h) ≡ true → is_row_of a (place_in r h) ≡ true
is_row_back r a h same = grind (arith, ints, same)

no_row_before : (a r : LabelRow) (h : Dir) → is_before a r ≡ true → is_row_of r (place_in a h) ≡ false
no_row_before a r h before = elim (cases_Bool (is_row_of r (place_in a h))) as (λ _. is_row_of r (place_in a h) ≡ false) [
  | inl same ↦ (let never : true ≡ false = sym (is_row_back r a h same) ∙ no_other_row a r h before in cc)
  | inr other ↦ other
]

-- a row of the place stands at its crossing in its stage
pub of_place : (r : LabelRow) (x : Place) → is_row_of r x ≡ true → place_in r x.heading ≡ x
of_place r x e =
    let s : r.stage ≡ x.stage = grind (arith, ints, e) in
    let px : r.at.x ≡ x.at.x = grind (arith, ints, e) in
    let py : r.at.y ≡ x.at.y = grind (arith, ints, e) in
    λ i. record { stage = s i; at = record { x = px i; y = py i }; heading = x.heading }

-- rows after a row are of other places
later_none : (a : LabelRow) (rows : List LabelRow) (h : Dir) → ((i : ℕ) (d : LabelRow) → i < length rows → is_before a (get_or rows i d) ≡ true) →
    label_of rows (place_in a h) ≡ None
later_none a [] h later = refl
later_none a (r ∷ rs) h later =
    ap (λ b. cond b (label_in r h) (label_of rs (place_in a h))) (no_row_before a r h (later 0 a (omega arith)))
    ∙ later_none a rs h (λ i d within. later (suc i) d (omega (arith, within)))

tail_rises : (r : LabelRow) (rs : List LabelRow) → Rises (r ∷ rs) → Rises rs
tail_rises r rs rise = λ m n e l k. rise (suc m) (suc n) e (omega (arith, l)) (omega (arith, k))

tail_some : (r : LabelRow) (rs : List LabelRow) → AreSome (r ∷ rs) → AreSome rs
tail_some r rs some = λ k d within. some (suc k) d (omega (arith, within))

first_before : (r : LabelRow) (rs : List LabelRow) → Rises (r ∷ rs) → (i : ℕ) (d : LabelRow) → i < length rs → is_before r (get_or rs i d) ≡ true
first_before r rs rise i d within = rise 0 (suc i) d (omega arith) (omega (arith, within))

-- the first row's own label
own_label : (r : LabelRow) (rs : List LabelRow) (h : Dir) → label_of (r ∷ rs) (place_in r h) ≡ label_in r h
own_label r rs h = ap (λ b. cond b (label_in r h) (label_of rs (place_in r h))) (row_itself r h)

-- where the one list begins before the other, a label is missing
not_before : (a b : LabelRow) (rs others : List LabelRow) → Rises (b ∷ others) → AreSome (a ∷ rs) → ((x : Place) →
    label_of (a ∷ rs) x ≡ label_of (b ∷ others) x) → is_before a b ≡ true → ⊥
not_before a b rs others rise some same before =
    let s = some 0 a (omega arith) in
    let all : (i : ℕ) (d : LabelRow) → i < length (b ∷ others) → is_before a (get_or (b ∷ others) i d) ≡ true = ahead in
    let none : label_in a s.0 ≡ None = sym (own_label a rs s.0) ∙ same (place_in a s.0) ∙ later_none a (b ∷ others) s.0 all in
    let is = some_of (label_in a s.0) s.1 in
    let both : None ≡ Some is.0 = sym none ∙ is.1 in cc
  where
    ahead : (i : ℕ) (d : LabelRow) → i < length (b ∷ others) → is_before a (get_or (b ∷ others) i d) ≡ true
    ahead zero d within = before
    ahead (suc i) d within =
        let q = get_or others i d in
        lex_trans a.stage a.at.y a.at.x b.stage b.at.y b.at.x q.stage q.at.y q.at.x before (first_before b others rise i d (omega (arith, within)))

same_row : (a b : LabelRow) → a.stage ≡ b.stage → a.at.x ≡ b.at.x → a.at.y ≡ b.at.y → ((h : Dir) → label_in a h ≡ label_in b h) → a ≡ b
same_row a b s x y l = λ i. record { stage = s i; at = record { x = x i; y = y i }; east = l East i; south = l South i; west = l West i; north = l North i }

pub one_rows : (rows others : List LabelRow) → Rises rows → Rises others → AreSome rows → AreSome others → ((x : Place) →
    label_of rows x ≡ label_of others x) → rows ≡ others
one_rows [] [] rise rise' some some' same = refl
one_rows [] (b ∷ others) rise rise' some some' same =
    let s = some' 0 b (omega arith) in
    let is = some_of (label_in b s.0) s.1 in
    absurd (let both : None ≡ Some is.0 = same (place_in b s.0) ∙ own_label b others s.0 ∙ is.1 in cc)
one_rows (a ∷ rs) [] rise rise' some some' same =
    let s = some 0 a (omega arith) in
    let is = some_of (label_in a s.0) s.1 in
    absurd (let both : None ≡ Some is.0 = sym (same (place_in a s.0)) ∙ own_label a rs s.0 ∙ is.1 in cc)
one_rows (a ∷ rs) (b ∷ others) rise rise' some some' same = elim (lex_total a.stage a.at.y a.at.x b.stage b.at.y b.at.x) as (λ _. (a ∷ rs) ≡ (b ∷ others)) [
  | inl before ↦ absurd (not_before a b rs others rise' some same before)
  | inr more ↦ elim more as (λ _. (a ∷ rs) ≡ (b ∷ others)) [
    | inl behind ↦ absurd (not_before b a others rs rise some' (λ x. sym (same x)) behind)
    | inr keys ↦ (
        let places : (h : Dir) → place_in a h ≡ place_in b h = λ h i. record { stage = keys.0 i; at = record { x = keys.2 i; y = keys.1 i }; heading = h } in
        let labels : (h : Dir) → label_in a h ≡ label_in b h = λ h. sym (own_label a rs h) ∙ same (place_in a h) ∙ ap (label_of (b ∷ others)) (places h)
        ∙ own_label b others h in
        let first : a ≡ b = same_row a b keys.0 keys.2 keys.1 labels in
        let rest : rs ≡ others = one_rows rs others (tail_rises a rs rise) (tail_rises b others rise') (tail_some a rs some) (tail_some b others some')
        (tails keys) in
        λ i. first i ∷ rest i)
  ]
]
  where
    tails : (a.stage ≡ b.stage) × (a.at.y ≡ b.at.y) × (a.at.x ≡ b.at.x) → (x : Place) → label_of rs x ≡ label_of others x
    tails keys x =
        let alike : is_row_of a x ≡ is_row_of b x = λ i. keys.0 i == x.stage && int_eq (keys.2 i) x.at.x && int_eq (keys.1 i) x.at.y in
        elim (cases_Bool (is_row_of a x)) as (λ _. label_of rs x ≡ label_of others x) [
          | inl is_one ↦ (
              let here = sym (ap (label_of rs) (of_place a x is_one)) ∙ later_none a rs x.heading (first_before a rs rise) in
              let there = sym (ap (label_of others) (of_place b x (sym alike ∙ is_one))) ∙ later_none b others x.heading (first_before b others rise') in
              here ∙ sym there)
          | inr not_one ↦ (
              let here : label_of (a ∷ rs) x ≡ label_of rs x = ap (λ c. cond c (label_in a x.heading) (label_of rs x)) not_one in
              let there : label_of (b ∷ others) x ≡ label_of others x = ap (λ c. cond c (label_in b x.heading) (label_of others x)) (sym alike ∙ not_one) in
              sym here ∙ same x ∙ there)
        ]

pub one_list : (floor : Floor) (task : Task) (claim : Claim) (rows others : List LabelRow) → AreLeastLabels floor task claim rows →
    AreLeastLabels floor task claim others → rows ≡ others
one_list floor task claim rows others l m = one_rows rows others l.rise m.rise l.some m.some (same_labels floor task claim rows others l m)
