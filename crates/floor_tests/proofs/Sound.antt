-- Calls accept the floor of a few rectangles and anchors.
use Rattle.std.proofs.Common.{◌≡◌, ◌≤◌, ◌<◌, ◌+◌, pos, ℕ, zero, suc, ℤ, Bool, true, false, ◌&&◌, cond, List, [], ◌∷◌, ◌++◌, Option, Some, None, map, length, get_or, take, refl, arith, All, Contains}
use Rattle.std.specs.Prelude.{filter_map, int_lt, ◌<ℤ◌}
use Rattle.std.specs.Int.{int_max}
use Rattle.std.specs.List.{cons_option}
use Rattle.std.proofs.lemmas.Int.{ints, int_max_is, int_min_is}
use Rattle.std.proofs.lemmas.List.{length-append, length-map, length-take}
use Rattle.std.proofs.lemmas.List.Elements.{All-cons, Contains-append_left, Contains-append_right}
use Rattle.plane_geom.specs.declared.point.Point.{Point}
use Rattle.plane_geom.specs.declared.rect.Rect.{Rect}
use Rattle.plane_geom.specs.declared.rect.Solid.{Solid}
use Rattle.plane_geom.specs.Point.{IsCoordinate, PointIsOnSheet, sheet_end, sheet_start}
use Rattle.plane_geom.specs.Along.{across}
use Rattle.plane_geom.specs.Rect.{RectIsOnSheet}
use Rattle.plane_geom.specs.Floor.{IsFloor, IsSolid, first_side, last_side}
use Rattle.floor_tests.specs.Small.{clamped, clamped_point, clamped_rect, small_floor, solid_of_sides}

is_coordinate : (z : ℤ) → IsCoordinate (clamped z)
is_coordinate z =
    let inner = int_max z sheet_start in
    let above = int_max_is z sheet_start in
    let below = int_min_is inner sheet_end in
    record { low = omega (arith, ints, above, below); high = omega (arith, ints, above, below) }

-- ---- anchors

all_on_sheet : (places : List (ℤ × ℤ)) → All PointIsOnSheet (map clamped_point places)
all_on_sheet [] = λ k d l. absurd (omega (arith, l))
all_on_sheet (p ∷ ps) = All-cons PointIsOnSheet (clamped_point p) (map clamped_point ps) (record { x = is_coordinate p.0; y = is_coordinate p.1 }) (all_on_sheet ps)

-- ---- solids

abbrev Rects : Type 0
Rects = List (ℤ × ℤ × ℤ × ℤ)

-- of a rectangle on the sheet comes a solid, or none
push_sound : (r : Rect) → RectIsOnSheet r → (solids : List Solid) → All IsSolid solids → (b c : Bool) → (b ≡ true → r.left <ℤ r.right) → (c ≡ true → r.top <ℤ r.bottom) →
    All IsSolid (cons_option (cond (b && c) (Some (record { node = pos 0; rect = r })) None) solids)
push_sound r on solids h true true wide high = All-cons IsSolid (record { node = pos 0; rect = r }) solids (record { on_sheet = on; wide = wide refl; high = high refl }) h
push_sound r on solids h true false wide high = h
push_sound r on solids h false c wide high = h

less : (a b : ℤ) → int_lt a b ≡ true → a <ℤ b
less a b e = grind (arith, ints)

all_sound : (rects : Rects) → All IsSolid (filter_map solid_of_sides rects)
all_sound [] = λ k d l. absurd (omega (arith, l))
all_sound (s ∷ rects) =
    let r = clamped_rect s in
    push_sound r (record { left = is_coordinate s.0; top = is_coordinate s.1; right = is_coordinate s.2; bottom = is_coordinate s.3 }) (filter_map solid_of_sides rects) (all_sound rects)
    (int_lt r.left r.right) (int_lt r.top r.bottom) (less r.left r.right) (less r.top r.bottom)

push_more : {Y : Type 0} (o : Option Y) (ys : List Y) (n : ℕ) → length ys ≤ n → length (cons_option o ys) ≤ n + 1
push_more None ys n h = omega (arith, h)
push_more (Some y) ys n h = omega (arith, h)

no_more : {X Y : Type 0} (h : X → Option Y) (xs : List X) → length (filter_map h xs) ≤ length xs
no_more h [] = omega arith
no_more h (x ∷ xs) = let e = push_more (h x) (filter_map h xs) (length xs) (no_more h xs) in omega (arith, e)

-- ---- the floor

mapped : {X : Type 0} (f : X → ℤ) (xs : List X) (k : ℕ) (d : X) → k < length xs → Contains (map f xs) (f (get_or xs k d))
mapped f [] k d l = absurd (omega (arith, l))
mapped f (x ∷ xs) zero d l = (zero, omega arith, refl)
mapped f (x ∷ xs) (suc k) d l = let c = mapped f xs k d (omega arith) in (suc c.0, omega (arith, c.1), c.2)

few_are_floor : (solids : List Solid) (anchors : List Point) → length solids ≤ 256 → All IsSolid solids → length anchors ≤ 256 → All PointIsOnSheet anchors → IsFloor (record { solids = solids; anchors = anchors })
few_are_floor solids anchors few sound few_anchors within = record {
  solids = sound;
  anchors = within;
  few = few;
  coordinates = λ way.
      let first : List ℤ = map (λ (s : Solid). first_side way s.rect) solids in
      let last : List ℤ = map (λ (s : Solid). last_side way s.rect) solids in
      let places : List ℤ = map (across way) anchors in
      let sides = first ++ last in (
        sides ++ places,
        omega (arith, length-append sides places, length-append first last, length-map solids (λ (s : Solid). first_side way s.rect), length-map solids (λ (s : Solid). last_side way s.rect), length-map anchors (across way)),
        record {
          first_sides = λ k d l. Contains-append_left sides places _ (Contains-append_left first last _ (mapped (λ (s : Solid). first_side way s.rect) solids k d l));
          last_sides = λ k d l. Contains-append_left sides places _ (Contains-append_right first last _ (mapped (λ (s : Solid). last_side way s.rect) solids k d l));
          anchors = λ k d l. Contains-append_right sides places _ (mapped (across way) anchors k d l);
        },
      );
}

pub is_floor : (rects : Rects) (anchors : List (ℤ × ℤ)) → IsFloor (small_floor rects anchors)
is_floor rects anchors =
    let some = take 256 rects in
    let others = take 256 anchors in
    few_are_floor (filter_map solid_of_sides some) (map clamped_point others)
    (omega (arith, no_more solid_of_sides some, length-take 256 rects)) (all_sound some)
    (omega (arith, length-map others clamped_point, length-take 256 anchors)) (all_on_sheet others)
