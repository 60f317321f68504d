-- How far it is from a rectangle, and how many bends a walk from it has at least.
use Rattle.std.proofs.Common.{◌≡◌, ◌⊎◌, ℕ, ◌+◌, ◌≤◌, ◌==◌, if◌then◌else◌, ℤ, pos, ◌+ℤ◌, ◌-ℤ◌, ◌≤ℤ◌, unsigned_abs, refl, sym, ap, ◌∙◌, inl, inr, arith}
use Rattle.std.specs.Int.{int_gap}
use Rattle.std.proofs.Math.IntN.{negsuc}
use Rattle.std.proofs.lemmas.Bool.Decides.{nat_tests}
use Rattle.std.proofs.lemmas.Int.{by_lt_z, ints}
use Rattle.plane_geom.specs.declared.point.Point.{Point}
use Rattle.plane_geom.specs.declared.point.Dir.{Dir}
use Rattle.plane_geom.specs.declared.point.Dir.TheVariants.{East, South, West, North}
use Rattle.plane_geom.specs.declared.point.Way.{Way}
use Rattle.plane_geom.specs.declared.point.Way.TheVariants.{Vertical, Horizontal}
use Rattle.plane_geom.specs.declared.rect.Rect.{Rect}
use Rattle.plane_geom.specs.Along.{across, way_of}
use Rattle.plane_geom.specs.Floor.{first_side, last_side}
use Rattle.plane_geom.specs.Point.{distance, forward, opposite}
use Rattle.plane_geom.specs.Rect.{HasWithin}
use Rattle.walk_model.specs.Cost.{turn}
use Rattle.walk_model.proofs.CornerByCorner.Bends.{one_direction, turn_same}
use Rattle.walk_laws.proofs.Steps.Shift.{across-forward}
use Rattle.walk_laws.proofs.Steps.Turns.{across_two, one_or_two, triangle}
use Rattle.move_model.specs.Boxes.{behind_by, beside, distance_from, fewest_bends, outside}

-- bends are a metric
pub no_turn : (d e : Dir) → turn d e ≡ 0 → d ≡ e
no_turn d e h = elim (one_direction d e) as (λ _. d ≡ e) [ inl same ↦ same | inr some ↦ absurd (omega (arith, h, some)) ]

pub turn_back : (d e : Dir) → turn d e ≡ turn e d
turn_back East East = refl
turn_back East South = refl
turn_back East West = refl
turn_back East North = refl
turn_back South East = refl
turn_back South South = refl
turn_back South West = refl
turn_back South North = refl
turn_back West East = refl
turn_back West South = refl
turn_back West West = refl
turn_back West North = refl
turn_back North East = refl
turn_back North South = refl
turn_back North West = refl
turn_back North North = refl

-- how far the first number is above the second
gap_is : (a b : ℤ) → ((a ≤ℤ b) × (pos (int_gap a b) ≡ b -ℤ a)) ⊎ ((b ≤ℤ a) × (int_gap a b ≡ 0))
gap_is (pos a) (pos b) = by_lt_z (pos a) (pos b) (λ l. inl (omega (arith, ints, l), omega (arith, ints, l))) (λ l. inr (l, omega (arith, ints, l)))
gap_is (pos a) (negsuc b) = inr (omega (arith, ints), refl)
gap_is (negsuc a) (pos b) = inl (omega (arith, ints), omega (arith, ints))
gap_is (negsuc a) (negsuc b) = by_lt_z (negsuc a) (negsuc b) (λ l. inl (omega (arith, ints, l), omega (arith, ints, l))) (λ l. inr (l, omega (arith, ints, l)))

pub gap_none : (a b : ℤ) → b ≤ℤ a → int_gap a b ≡ 0
gap_none a b h = elim (gap_is a b) as (λ _. int_gap a b ≡ 0) [ inl up ↦ omega (arith, ints, h, up.0, up.1) | inr down ↦ down.1 ]

-- a number that rises is above others by that much more, and no further below
gap_up : (z p q : ℤ) → p ≤ℤ q → int_gap z q ≤ int_gap z p + unsigned_abs (p -ℤ q)
gap_up z p q h = elim (gap_is z q) as (λ _. int_gap z q ≤ int_gap z p + unsigned_abs (p -ℤ q)) [
  | inl up ↦ elim (gap_is z p) as (λ _. int_gap z q ≤ int_gap z p + unsigned_abs (p -ℤ q)) [
    | inl was ↦ omega (arith, ints, h, up.0, up.1, was.0, was.1)
    | inr was ↦ omega (arith, ints, h, up.0, up.1, was.0, was.1)
  ]
  | inr down ↦ omega (arith, down.1)
]

gap_down : (z p q : ℤ) → p ≤ℤ q → int_gap q z ≤ int_gap p z
gap_down z p q h = elim (gap_is q z) as (λ _. int_gap q z ≤ int_gap p z) [
  | inl up ↦ elim (gap_is p z) as (λ _. int_gap q z ≤ int_gap p z) [
    | inl was ↦ omega (arith, ints, h, up.0, up.1, was.0, was.1)
    | inr was ↦ omega (arith, ints, h, up.0, up.1, was.0, was.1)
  ]
  | inr down ↦ omega (arith, down.1)
]

gap_up_back : (z p q : ℤ) → q ≤ℤ p → int_gap q z ≤ int_gap p z + unsigned_abs (p -ℤ q)
gap_up_back z p q h = elim (gap_is q z) as (λ _. int_gap q z ≤ int_gap p z + unsigned_abs (p -ℤ q)) [
  | inl up ↦ elim (gap_is p z) as (λ _. int_gap q z ≤ int_gap p z + unsigned_abs (p -ℤ q)) [
    | inl was ↦ omega (arith, ints, h, up.0, up.1, was.0, was.1)
    | inr was ↦ omega (arith, ints, h, up.0, up.1, was.0, was.1)
  ]
  | inr down ↦ omega (arith, down.1)
]

gap_down_back : (z p q : ℤ) → q ≤ℤ p → int_gap z q ≤ int_gap z p
gap_down_back z p q h = elim (gap_is z q) as (λ _. int_gap z q ≤ int_gap z p) [
  | inl up ↦ elim (gap_is z p) as (λ _. int_gap z q ≤ int_gap z p) [
    | inl was ↦ omega (arith, ints, h, up.0, up.1, was.0, was.1)
    | inr was ↦ omega (arith, ints, h, up.0, up.1, was.0, was.1)
  ]
  | inr down ↦ omega (arith, down.1)
]

outside_grows : (low p q high : ℤ) → outside low q high ≤ outside low p high + unsigned_abs (p -ℤ q)
outside_grows low p q high = by_lt_z p q
    (λ l. omega (arith, gap_up high p q (omega (arith, ints, l)), gap_down low p q (omega (arith, ints, l))))
    (λ l. omega (arith, gap_up_back low p q l, gap_down_back high p q l))

pub distance_grows : (r : Rect) (p q : Point) → distance_from r q ≤ distance_from r p + distance p q
distance_grows r p q = omega (arith, outside_grows r.left p.x q.x r.right, outside_grows r.top p.y q.y r.bottom)

-- by another point it is no shorter
pub point_grows : (c p q : Point) → distance c q ≤ distance c p + distance p q
point_grows c p q = omega (arith, ints)

-- a point of the rectangle
inside_none : (low z high : ℤ) → low ≤ℤ z → z ≤ℤ high → outside low z high ≡ 0
inside_none low z high h k = omega (arith, gap_none z low h, gap_none high z k)

within_beside : (way : Way) (r : Rect) (p : Point) → HasWithin r p → beside way r p ≡ 0
within_beside Vertical r p h = inside_none r.left p.x r.right h.left h.right
within_beside Horizontal r p h = inside_none r.top p.y r.bottom h.top h.bottom

-- steps leave what lies behind across them, and lessen what lies behind along them
behind_kept : (u d : Dir) (r : Rect) (p : Point) (n : ℕ) → turn u d ≡ 1 → behind_by u r (forward d n p) ≡ behind_by u r p
behind_kept East South r p n h = refl
behind_kept East North r p n h = refl
behind_kept South East r p n h = refl
behind_kept South West r p n h = refl
behind_kept West South r p n h = refl
behind_kept West North r p n h = refl
behind_kept North East r p n h = refl
behind_kept North West r p n h = refl
behind_kept _ _ r p n h = absurd (omega (arith, h))

behind_falls : (d : Dir) (r : Rect) (p : Point) (n : ℕ) → behind_by d r (forward d n p) ≤ behind_by d r p
behind_falls East r p n = gap_down r.left p.x (p.x +ℤ pos n) (omega (arith, ints))
behind_falls South r p n = gap_down r.top p.y (p.y +ℤ pos n) (omega (arith, ints))
behind_falls West r p n = gap_down_back r.right p.x (p.x -ℤ pos n) (omega (arith, ints))
behind_falls North r p n = gap_down_back r.bottom p.y (p.y -ℤ pos n) (omega (arith, ints))

-- what lies behind lies beside for one who goes across
behind_is_beside : (from d : Dir) (r : Rect) (p : Point) → turn from d ≡ 1 → behind_by d r p ≤ beside (way_of from) r p
behind_is_beside East South r p h = omega arith
behind_is_beside East North r p h = omega arith
behind_is_beside South East r p h = omega arith
behind_is_beside South West r p h = omega arith
behind_is_beside West South r p h = omega arith
behind_is_beside West North r p h = omega arith
behind_is_beside North East r p h = omega arith
behind_is_beside North West r p h = omega arith
behind_is_beside _ _ r p h = absurd (omega (arith, h))

-- the bends of one who arrives in the direction in which the walk left, and of one who arrives across it
abbrev bends_on : ℕ → ℕ → ℕ
bends_on behind beside = if behind == 0 then (if beside == 0 then 0 else 2) else 4

abbrev bends_turned : ℕ → ℕ → ℕ
bends_turned behind ahead = if behind == 0 then (if ahead == 0 then 1 else 3) else 3

on_most : (b s : ℕ) → bends_on b s ≤ 4
on_most b s = grind (arith, nat_tests)

on_falls : (a b s : ℕ) → a ≤ b → bends_on a s ≤ bends_on b s
on_falls a b s h = grind (arith, nat_tests)

turned_least : (b c : ℕ) → 1 ≤ bends_turned b c
turned_least b c = grind (arith, nat_tests)

turned_most : (b c : ℕ) → bends_turned b c ≤ 3
turned_most b c = grind (arith, nat_tests)

turned_falls : (b c e : ℕ) → c ≤ e → bends_turned b c ≤ bends_turned b e
turned_falls b c e h = grind (arith, nat_tests)

on_then_turned : (a b s c : ℕ) → a ≤ b → bends_on a s ≤ bends_turned b c + 1
on_then_turned a b s c h = grind (arith, nat_tests)

turned_then_on : (b s c e : ℕ) → c ≤ e → e ≤ s → bends_turned b c ≤ bends_on b s + 1
turned_then_on b s c e h k = grind (arith, nat_tests)

by_turn : (k on turned : ℕ) → k ≡ 1 → (if k == 0 then on else if k == 1 then turned else 2) ≡ turned
by_turn k on turned h = grind (arith, nat_tests)

by_back : (k on turned : ℕ) → k ≡ 2 → (if k == 0 then on else if k == 1 then turned else 2) ≡ 2
by_back k on turned h = grind (arith, nat_tests)

opposite_turn : (h : Dir) → turn h (opposite h) ≡ 2
opposite_turn East = refl
opposite_turn South = refl
opposite_turn West = refl
opposite_turn North = refl

-- how few bends there are, by the turn
module _ (from : Dir) (r : Rect) (p : Point) where
  as_on : (h : Dir) → from ≡ h → fewest_bends from r p h ≡ bends_on (behind_by from r p) (beside (way_of from) r p)
  as_on h same = ap (λ k. if k == 0 then bends_on (behind_by from r p) (beside (way_of from) r p) else if k == 1 then bends_turned (behind_by from r p) (behind_by h r p) else 2) (sym (ap (turn from) same) ∙ turn_same from)

  as_turned : (h : Dir) → turn from h ≡ 1 → fewest_bends from r p h ≡ bends_turned (behind_by from r p) (behind_by h r p)
  as_turned h once = by_turn (turn from h) (bends_on (behind_by from r p) (beside (way_of from) r p)) (bends_turned (behind_by from r p) (behind_by h r p)) once

  as_back : (h : Dir) → turn from h ≡ 2 → fewest_bends from r p h ≡ 2
  as_back h twice = by_back (turn from h) (bends_on (behind_by from r p) (beside (way_of from) r p)) (bends_turned (behind_by from r p) (behind_by h r p)) twice

  pub at_least : (h : Dir) → turn from h ≤ fewest_bends from r p h
  at_least h = elim (one_direction from h) as (λ _. turn from h ≤ fewest_bends from r p h) [
    | inl same ↦ (let none : turn from h ≡ 0 = sym (ap (turn from) same) ∙ turn_same from in omega (arith, none))
    | inr some ↦ elim (one_or_two from h some) as (λ _. turn from h ≤ fewest_bends from r p h) [
      | inl once ↦ omega (arith, once, as_turned h once, turned_least (behind_by from r p) (behind_by h r p))
      | inr twice ↦ omega (arith, twice, as_back h twice)
    ]
  ]

within_behind : (d : Dir) (r : Rect) (p : Point) → HasWithin r p → behind_by d r p ≡ 0
within_behind East r p h = gap_none p.x r.left h.left
within_behind South r p h = gap_none p.y r.top h.top
within_behind West r p h = gap_none r.right p.x h.right
within_behind North r p h = gap_none r.bottom p.y h.bottom

pub within_bends : (d : Dir) (r : Rect) (p : Point) → HasWithin r p → (distance_from r p ≡ 0) × (fewest_bends d r p d ≡ 0)
within_bends d r p h = (
  omega (arith, inside_none r.left p.x r.right h.left h.right, inside_none r.top p.y r.bottom h.top h.bottom),
  as_on d r p d refl ∙ ap (bends_on (behind_by d r p)) (within_beside (way_of d) r p h) ∙ ap (λ k. bends_on k 0) (within_behind d r p h),
)

-- steps on from a point cost no bend except the one before them
pub bends_grow : (from : Dir) (r : Rect) (p : Point) (h d : Dir) (n : ℕ) → fewest_bends from r (forward d n p) d ≤ fewest_bends from r p h + turn h d
bends_grow from r p h d n =
    let q = forward d n p in
    let b = behind_by from r p in
    let s = beside (way_of from) r p in
    elim (one_direction from d) as (λ _. fewest_bends from r q d ≤ fewest_bends from r p h + turn h d) [
      | inl same ↦ (
          let level : across (way_of from) q ≡ across (way_of from) p = ap (λ (e : Dir). across (way_of from) (forward e n p)) (sym same) ∙ across-forward from n p in
          let kept : beside (way_of from) r q ≡ s = ap (λ z. outside (first_side (way_of from) r) z (last_side (way_of from) r)) level in
          let less : behind_by from r q ≤ b = omega (arith, behind_falls from r p n, ap (λ (e : Dir). behind_by from r (forward e n p)) same) in
          let here : fewest_bends from r q d ≡ bends_on (behind_by from r q) s = as_on from r q d same ∙ ap (bends_on (behind_by from r q)) kept in
          let back : turn h d ≡ turn from h = ap (turn h) (sym same) ∙ turn_back h from in
          elim (one_direction from h) as (λ _. fewest_bends from r q d ≤ fewest_bends from r p h + turn h d) [
            | inl on ↦ omega (arith, here, as_on from r p h on, on_falls (behind_by from r q) b s less)
            | inr some ↦ elim (one_or_two from h some) as (λ _. fewest_bends from r q d ≤ fewest_bends from r p h + turn h d) [
              | inl once ↦ omega (arith, here, as_turned from r p h once, on_then_turned (behind_by from r q) b s (behind_by h r p) less, back, once)
              | inr twice ↦ omega (arith, here, as_back from r p h twice, on_most (behind_by from r q) s, back, twice)
            ]
          ])
      | inr some ↦ elim (one_or_two from d some) as (λ _. fewest_bends from r q d ≤ fewest_bends from r p h + turn h d) [
        | inl once ↦ (
            let kept : behind_by from r q ≡ b = behind_kept from d r p n once in
            let less : behind_by d r q ≤ behind_by d r p = behind_falls d r p n in
            let here : fewest_bends from r q d ≡ bends_turned b (behind_by d r q) = as_turned from r q d once ∙ ap (λ k. bends_turned k (behind_by d r q)) kept in
            elim (one_direction from h) as (λ _. fewest_bends from r q d ≤ fewest_bends from r p h + turn h d) [
              | inl on ↦ (
                  let bend : turn h d ≡ 1 = ap (λ (e : Dir). turn e d) (sym on) ∙ once in
                  omega (arith, here, as_on from r p h on, bend, turned_then_on b s (behind_by d r q) (behind_by d r p) less (behind_is_beside from d r p once)))
              | inr other ↦ elim (one_or_two from h other) as (λ _. fewest_bends from r q d ≤ fewest_bends from r p h + turn h d) [
                | inl single ↦ (
                    let was = as_turned from r p h single in
                    elim (across_two from h d (turn_back h from ∙ single) once) as (λ _. fewest_bends from r q d ≤ fewest_bends from r p h + turn h d) [
                      | inl equal ↦ (
                          let there : behind_by h r p ≡ behind_by d r p = ap (λ (e : Dir). behind_by e r p) (sym equal) in
                          omega (arith, here, was, turned_falls b (behind_by d r q) (behind_by d r p) less, ap (bends_turned b) there))
                      | inr turned ↦ (
                          let double : turn h d ≡ 2 = ap (turn h) turned ∙ opposite_turn h in
                          omega (arith, here, was, double, turned_least b (behind_by h r p), turned_most b (behind_by d r q)))
                    ])
                | inr twice ↦ omega (arith, here, as_back from r p h twice, turned_most b (behind_by d r q), triangle from h d, triangle from d h, turn_back h d, once, twice)
              ]
            ])
        | inr twice ↦ omega (arith, as_back from r q d twice, at_least from r p h, triangle from h d, twice)
      ]
    ]
