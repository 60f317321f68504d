-- Solids by rising left side, the parts of them on either side of a coordinate, and which of them a stub may meet.
use Rattle.std.proofs.Common.{◌≡◌, ◌≢◌, ◌↔◌, ℕ, ℤ, ◌+◌, ◌-◌, ◌<◌, ◌≤◌, ◌+ℤ◌, ◌-ℤ◌, ◌≤ℤ◌, ◌<ℤ◌, pos, w64, of_z, to_z, Bool, true, false, not, inl, inr, List, length, get_or, take, drop, min, refl, sym, subst, ap, ◌∙◌, arith}
use Rattle.std.specs.Prelude.{AllPairs, Contains, IsSortedByKey, int_lt}
use Rattle.std.specs.Int.{int_max, int_min}
use Rattle.std.specs.List.Sorted.{IsPartitionedBy, IsPartitionPoint}
use Rattle.std.specs.Ordering.{int_cmp, is_lt, MatchOrdering}
use Rattle.std.specs.declared.cmp.Ordering.{Ordering}
use Rattle.std.specs.declared.cmp.Ordering.TheVariants.{Less, Equal, Greater}
use Rattle.std.proofs.lemmas.Bool.{cases_lt}
use Rattle.std.proofs.lemmas.Cmp.{int_cmp_total, int_ranked}
use Rattle.std.proofs.lemmas.Int.{ints}
use Rattle.std.proofs.lemmas.List.{get_or-drop, get_or-take, length-take, length-take-le, length-drop}
use Rattle.std.proofs.lemmas.List.Elements.{All-contains, Contains-get_or}
use Rattle.std.proofs.lemmas.List.Sorted.{sorted_far, ranks_by}
use Rattle.plane_geom.specs.declared.point.Point.{Point}
use Rattle.plane_geom.specs.declared.rect.Solid.{Solid}
use Rattle.plane_geom.specs.Point.{sheet_end, sheet_start}
use Rattle.plane_geom.specs.Rect.{Meets}
use Rattle.plane_geom.proofs.Places.{overlap_ends}
use Rattle.walk_model.specs.declared.task.Choice.{Choice}
use Rattle.move_model.specs.Places.{HasFreeStub}

abbrev pub Rise : List Solid → Type 0
Rise solids = AllPairs (λ s t. s.rect.left ≤ℤ t.rect.left) solids

not_less : (r : Ordering) (x y : ℤ) → MatchOrdering r (x <ℤ y) (x ≡ y) (y <ℤ x) → is_lt r ≡ false → y ≤ℤ x
not_less Less x y m e = absurd (cc)
not_less Equal x y m e = omega (arith, ints)
not_less Greater x y m e = omega (arith, ints)

-- a sort leaves them so
pub rises : (xs : List Solid) → IsSortedByKey (λ (s : Solid). s.rect.left) int_cmp xs → Rise xs
rises xs up = λ i j d l k.
    let a : ℤ = (get_or xs j d).rect.left in
    let b : ℤ = (get_or xs i d).rect.left in
    not_less (int_cmp a b) a b (int_ranked a b (int_cmp a b) refl) (sorted_far _ (ranks_by int_cmp_total (λ (s : Solid). s.rect.left)) xs up i j d (omega arith) k)

pub taken_rise : (n : ℕ) (xs : List Solid) → Rise xs → Rise (take n xs)
taken_rise n xs up = λ i j d l k.
    let long : length (take n xs) ≡ min n (length xs) = length-take n xs in
    let a : get_or (take n xs) i d ≡ get_or xs i d = get_or-take n xs i d (omega arith) in
    let b : get_or (take n xs) j d ≡ get_or xs j d = get_or-take n xs j d (omega arith) in
    subst (λ (s : Solid). s.rect.left ≤ℤ (get_or (take n xs) j d).rect.left) (sym a) (subst (λ (s : Solid). (get_or xs i d).rect.left ≤ℤ s.rect.left) (sym b) (up i j d l (omega arith)))

-- a test that each lesser coordinate passes too parts the solids
pub parted : (test : ℤ → Bool) → ((y z : ℤ) → y ≤ℤ z → test z ≡ true → test y ≡ true) → (xs : List Solid) → Rise xs → IsPartitionedBy (λ (s : Solid). test s.rect.left) xs
parted test falls xs up = λ i j d h l e. elim (cases_lt i j) [
  | inl k ↦ falls (get_or xs i d).rect.left (get_or xs j d).rect.left (up i j d k l) e
  | inr k ↦ (let same : i ≡ j = omega arith in subst (λ (n : ℕ). test (get_or xs n d).rect.left ≡ true) (sym same) e)
]

pub before_falls : (at y z : ℤ) → y ≤ℤ z → int_lt z at ≡ true → int_lt y at ≡ true
before_falls at y z h e = grind (arith, ints)

pub upto_falls : (at y z : ℤ) → y ≤ℤ z → not (int_lt at z) ≡ true → not (int_lt at y) ≡ true
upto_falls at y z h e = grind (arith, ints)

pub before : (at z : ℤ) → int_lt z at ≡ true → z <ℤ at
before at z e = grind (arith, ints)

pub is_before : (at z : ℤ) → z <ℤ at → int_lt z at ≡ true
is_before at z e = grind (arith, ints)

pub beyond : (at z : ℤ) → not (int_lt at z) ≡ false → at <ℤ z
beyond at z e = grind (arith, ints)

pub is_beyond : (at z : ℤ) → at <ℤ z → not (int_lt at z) ≡ false
is_beyond at z e = grind (arith, ints)

module _ (p : Solid → Bool) (xs : List Solid) (i : ℕ) (within : i ≤ length xs) (parts : IsPartitionPoint (λ y. p y ≡ true) (λ y. p y ≡ false) xs i) where
  -- what stands before the place passes the test
  pub taken : (x : Solid) → Contains (take i xs) x ↔ (Contains xs x × (p x ≡ true))
  taken x =
      let long : length (take i xs) ≡ i = length-take-le i xs within in (
        λ c.
            let below : c.0 < i = omega (arith, c.1, long) in
            let here : get_or xs c.0 x ≡ x = sym (get_or-take i xs c.0 x below) ∙ c.2 in
            ((c.0, omega (arith, below, within), here), subst (λ y. p y ≡ true) here (parts.0 c.0 x (omega arith) below)),
        λ m.
            let n = m.0.0 in
            let here : get_or xs n x ≡ x = m.0.2 in
            let inside : n < length xs = m.0.1 in
            let below : n < i = elim (cases_lt n i) as (λ _. n < i) [
              | inl l ↦ l
              | inr l ↦ absurd (let no : p x ≡ false = subst (λ y. p y ≡ false) here (parts.1 n x l inside) in let both : true ≡ false = sym m.1 ∙ no in cc)
            ] in
            (n, omega (arith, below, long), get_or-take i xs n x below ∙ here),
      )

  -- what stands behind it does not
  pub left : (x : Solid) → Contains (drop i xs) x ↔ (Contains xs x × (p x ≡ false))
  left x =
      let long : length (drop i xs) ≡ length xs - i = length-drop i xs in (
        λ c.
            let n = i + c.0 in
            let inside : n < length xs = omega (arith, c.1, long) in
            let here : get_or xs n x ≡ x = sym (get_or-drop i xs c.0 x) ∙ c.2 in
            ((n, inside, here), subst (λ y. p y ≡ false) here (parts.1 n x (omega arith) inside)),
        λ m.
            let n = m.0.0 in
            let here : get_or xs n x ≡ x = m.0.2 in
            let inside : n < length xs = m.0.1 in
            let behind : i ≤ n = elim (cases_lt n i) as (λ _. i ≤ n) [
              | inl l ↦ absurd (let yes : p x ≡ true = subst (λ y. p y ≡ true) here (parts.0 n x (omega arith) l) in let both : true ≡ false = sym yes ∙ m.1 in cc)
              | inr l ↦ l
            ] in
            let back : i + (n - i) ≡ n = omega (arith, behind) in
            (n - i, omega (arith, inside, behind, long), get_or-drop i xs (n - i) x ∙ ap (λ k. get_or xs k x) back ∙ here),
      )

-- a solid that a segment meets begins before its last coordinate, and so far from its first as the widest could
pub met_near : (s : Solid) (widest : ℤ) (a b : Point) → s.rect.right ≤ℤ (s.rect.left +ℤ widest) → Meets s.rect a b →
    (s.rect.left <ℤ int_max a.x b.x) × ((int_min a.x b.x -ℤ widest) <ℤ s.rect.left)
met_near s widest a b wide meets =
    let ends = overlap_ends s.rect.left s.rect.right a.x b.x meets.x in
    (ends.2, omega (arith, ints, ends.1, wide))

-- a width is taken from a coordinate exactly
pub read_less : (a b : ℤ) → sheet_start ≤ℤ a → a ≤ℤ sheet_end → pos 0 ≤ℤ b → b ≤ℤ pos 4000000000 → to_z w64 (of_z w64 (to_z w64 (of_z w64 a) -ℤ to_z w64 (of_z w64 b))) ≡ a -ℤ b
read_less a b low high some small = omega (arith, ints)

-- a stub that is free of the solids near it is free of all
pub free_near : (c : Choice) (all near : List Solid) → ((s : Solid) → Contains near s → Contains all s) → ((s : Solid) → Contains all s → Meets s.rect c.pin c.port → Contains near s) →
    HasFreeStub near c ↔ HasFreeStub all c
free_near c all near members met = (
  λ free k d lt other meets.
      let s = get_or all k d in
      let has = met s (Contains-get_or all k d lt) meets in
      All-contains (λ (t : Solid). t.node ≢ c.node → Meets t.rect c.pin c.port → ⊥) near s free has other meets,
  λ free k d lt. All-contains (λ (t : Solid). t.node ≢ c.node → Meets t.rect c.pin c.port → ⊥) all (get_or near k d) free (members (get_or near k d) (Contains-get_or near k d lt)),
)
