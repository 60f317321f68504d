-- A floor has few kept lines of each way: each is determined by its coordinate and by where it ends.
use Rattle.std.proofs.Common.{◌≡◌, ℕ, suc, zero, ◌+◌, ◌*◌, ◌≤◌, ℤ, pos, List, [], ◌∷◌, ◌++◌, length, map, Contains, refl, sym, ap, subst, ◌∙◌, inl, inr, arith, length-append}
use Rattle.std.proofs.lemmas.Int.{ints}
use Rattle.std.proofs.lemmas.List.{length-map, get_or-map}
use Rattle.std.proofs.lemmas.List.Elements.{Contains-append_left, Contains-append_right}
use Rattle.std.proofs.lemmas.Nat.{mul-le}
use Rattle.plane_geom.specs.declared.point.Point.{Point}
use Rattle.plane_geom.specs.declared.point.Way.{Way}
use Rattle.plane_geom.specs.declared.rect.Solid.{Solid}
use Rattle.plane_geom.specs.declared.floor.Line.{Line}
use Rattle.plane_geom.specs.declared.floor.Floor.{Floor}
use Rattle.plane_geom.specs.Floor.{point_on, last_point, Holds, IsKept, HasCoordinates, IsFloor}
use Rattle.plane_geom.proofs.KeptLines.{kept_coordinate}
use Rattle.plane_geom.proofs.LongestPiece.{along_low, longest_end}

-- the points on the whole lines at some coordinates that stand at some places along them
abbrev pub points_on : Way → List ℤ → List ℤ → List Point
points_on way [] places = []
points_on way (z ∷ zs) places = map (point_on way z) places ++ points_on way zs places

points_on_length : (way : Way) (zs places : List ℤ) → length (points_on way zs places) ≡ length zs * length places
points_on_length way [] places = omega arith
points_on_length way (z ∷ zs) places =
    let rest = points_on_length way zs places in
    omega (arith, length-append (map (point_on way z) places) (points_on way zs places), length-map places (point_on way z), rest, one_more (length zs) (length places))
  where
    one_more : (m n : ℕ) → n + m * n ≡ suc m * n
    one_more m n = grind arith

contains_map : {A B : Type 0} (f : A → B) (xs : List A) (x : A) → Contains xs x → Contains (map f xs) (f x)
contains_map f xs x (k, inside, is) = (k, omega (arith, inside, length-map xs f), get_or-map f xs k x (f x) inside ∙ ap f is)

points_on_contains : (way : Way) (zs places : List ℤ) (at z : ℤ) → Contains zs at → Contains places z → Contains (points_on way zs places) (point_on way at z)
points_on_contains way [] places at z (k, inside, is) h = absurd (omega (arith, inside))
points_on_contains way (x ∷ zs) places at z (zero, inside, is) h =
    Contains-append_left (map (point_on way x) places) (points_on way zs places) (point_on way at z)
    (subst (λ (y : ℤ). Contains (map (point_on way x) places) (point_on way y z)) is (contains_map (point_on way x) places z h))
points_on_contains way (x ∷ zs) places at z (suc k, inside, is) h =
    Contains-append_right (map (point_on way x) places) (points_on way zs places) (point_on way at z)
    (points_on_contains way zs places at z (k, omega (arith, inside), is) h)

-- where lines of the way end: with the sheet, or where a solid begins
abbrev pub ends_of : Way → List Solid → List ℤ
ends_of way solids = pos 2000000000 ∷ map (λ s. along_low way s.rect) solids

line_end : (floor : Floor) (l : Line) → IsKept floor l → Contains (ends_of l.way floor.solids) l.hi
line_end floor l kept = elim (longest_end floor l kept.longest) as (λ _. Contains (ends_of l.way floor.solids) l.hi) [
  | inl edge ↦ (0, omega arith, sym edge)
  | inr side ↦ (
      let begins : Solid → ℤ = λ s. along_low l.way s.rect in
      let there : Contains (map begins floor.solids) l.hi = subst (Contains (map begins floor.solids)) side.4 (contains_map begins floor.solids side.1 (side.0, side.2, side.3)) in
      (suc there.0, omega (arith, there.1), there.2))
]

pub last_among : (floor : Floor) (l : Line) (way : Way) (zs : List ℤ) → HasCoordinates floor way zs → IsKept floor l → l.way ≡ way → Contains (points_on way zs (ends_of way floor.solids)) (last_point l)
last_among floor l way zs h kept same =
    subst (λ w. Contains (points_on w zs (ends_of w floor.solids)) (last_point l)) same
    (points_on_contains l.way zs (ends_of l.way floor.solids) l.at l.hi (kept_coordinate floor l zs (subst (λ w. HasCoordinates floor w zs) (sym same) h) kept) (line_end floor l kept))

pub last_held : (floor : Floor) (l : Line) → IsKept floor l → Holds l (last_point l)
last_held floor l kept = record { along = l.hi; from = kept.longest.piece.ordered; to = omega (arith, ints); here = refl }

-- 1280 coordinates, and 256 solids and the sheet
pub few_ends : (floor : Floor) (is_floor : IsFloor floor) (way : Way) → length (points_on way (is_floor.coordinates way).0 (ends_of way floor.solids)) ≤ 328960
few_ends floor is_floor way =
    let zs = (is_floor.coordinates way).0 in
    let ends = ends_of way floor.solids in
    let few : length ends ≤ 257 = omega (arith, length-map floor.solids (λ (s : Solid). along_low way s.rect), is_floor.few) in
    omega (arith, points_on_length way zs ends, mul-le (length zs) (length ends) 1280 257 (is_floor.coordinates way).1 few)
