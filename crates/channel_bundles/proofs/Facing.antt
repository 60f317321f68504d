-- Walls by rising coordinate, and the first ones that a run meets.
use Rattle.std.proofs.Common.{ℕ, ℤ, pos, ◌≡◌, ◌↔◌, ◌<◌, ◌≤◌, ◌≤ℤ◌, ◌<ℤ◌, Bool, true, false, not, inl, inr, List, [], ◌∷◌, length, get_or, map, sym, subst, arith}
use Rattle.std.specs.Prelude.{All, AllPairs, int_lt}
use Rattle.std.specs.List.Sorted.{IsPartitionedBy, IsPartitionPoint}
use Rattle.std.proofs.lemmas.Bool.{cases_lt}
use Rattle.std.proofs.lemmas.Int.{ints, by_lt_z}
use Rattle.std.proofs.lemmas.List.Elements.{All-cons, All-from_get_or, All-get_or, All-head, All-map, All-nil, All-tail, All-weaker}
use Rattle.std.proofs.lemmas.List.Sorted.{All-permutation, IsPermutation-sym}
use Rattle.plane_geom.specs.declared.point.Dir.{Dir}
use Rattle.plane_geom.specs.declared.point.Dir.TheVariants.{East, South, West, North}
use Rattle.plane_geom.specs.declared.point.Way.{Way}
use Rattle.plane_geom.specs.declared.point.Way.TheVariants.{Vertical, Horizontal}
use Rattle.plane_geom.specs.declared.rect.Solid.{Solid}
use Rattle.plane_geom.specs.Floor.{IsSolid}
use Rattle.plane_geom.specs.Rect.{Overlaps}
use Rattle.segment_order.specs.declared.run.Run.{Run}
use Rattle.channel_bundles.specs.declared.walls.Wall.{Wall}
use Rattle.channel_bundles.specs.declared.walls.Walls.{Walls}
use Rattle.channel_bundles.specs.Limits.{Sweeps}
use Rattle.channel_bundles.specs.Walls.{AreWalls, AreWallsTo, StopsBefore, StopsBehind, greater, lesser, wall_of}
use Rattle.channel_bundles.proofs.Ranges.{beside_left, beside_right, on_left}

-- walls that rise
abbrev pub Rise : List Wall → Type 0
Rise walls = AllPairs (λ (v w : Wall). v.at ≤ℤ w.at) walls

-- a test that each lesser coordinate passes too parts walls in order
pub parted : (test : ℤ → Bool) → ((y z : ℤ) → y ≤ℤ z → test z ≡ true → test y ≡ true) → (walls : List Wall) → Rise walls → IsPartitionedBy (λ (w : Wall). test w.at) walls
parted test falls walls up = λ i j d h l e. elim (cases_lt i j) [
  | inl k ↦ falls (get_or walls i d).at (get_or walls j d).at (up i j d k l) e
  | inr k ↦ (let same : i ≡ j = omega arith in subst (λ (n : ℕ). test (get_or walls n d).at ≡ true) (sym same) e)
]

pub upto_falls : (at y z : ℤ) → y ≤ℤ z → not (int_lt at z) ≡ true → not (int_lt at y) ≡ true
upto_falls at y z h e = grind (arith, ints)

pub before_falls : (at y z : ℤ) → y ≤ℤ z → int_lt z at ≡ true → int_lt y at ≡ true
before_falls at y z h e = grind (arith, ints)

upto : (at z : ℤ) → not (int_lt at z) ≡ true → z ≤ℤ at
upto at z e = grind (arith, ints)

beyond : (at z : ℤ) → not (int_lt at z) ≡ false → at <ℤ z
beyond at z e = grind (arith, ints)

before : (at z : ℤ) → int_lt z at ≡ true → z <ℤ at
before at z e = grind (arith, ints)

from : (at z : ℤ) → int_lt z at ≡ false → at ≤ℤ z
from at z e = grind (arith, ints)

-- the walls before the first that stands at the coordinate or beyond it, and those from it on
pub before_and_from : (at : ℤ) (walls : List Wall) (i : ℕ) → IsPartitionPoint (λ (w : Wall). int_lt w.at at ≡ true) (λ (w : Wall). int_lt w.at at ≡ false) walls i →
    ((k : ℕ) (d : Wall) → k < i → (get_or walls k d).at <ℤ at) × ((k : ℕ) (d : Wall) → i ≤ k → k < length walls → at ≤ℤ (get_or walls k d).at)
before_and_from at walls i parts = (
  λ k d h. before at (get_or walls k d).at (parts.0 k d (omega arith) h),
  λ k d h in_k. from at (get_or walls k d).at (parts.1 k d h in_k),
)

-- the walls before the first that stands beyond the coordinate, and those from it on
pub upto_and_beyond : (at : ℤ) (walls : List Wall) (i : ℕ) → IsPartitionPoint (λ (w : Wall). not (int_lt at w.at) ≡ true) (λ (w : Wall). not (int_lt at w.at) ≡ false) walls i →
    ((k : ℕ) (d : Wall) → k < i → (get_or walls k d).at ≤ℤ at) × ((k : ℕ) (d : Wall) → i ≤ k → k < length walls → at <ℤ (get_or walls k d).at)
upto_and_beyond at walls i parts = (
  λ k d h. upto at (get_or walls k d).at (parts.0 k d (omega arith) h),
  λ k d h in_k. beyond at (get_or walls k d).at (parts.1 k d h in_k),
)

abbrev pub no_wall : Wall
no_wall = record { at = pos 0; lo = pos 0; hi = pos 0 }

-- the wall and the run share more than a point along the way
abbrev pub Shares : Run → Wall → Type 0
Shares run wall = Overlaps wall.lo wall.hi run.lo run.hi

-- where no wall from `first` on up to the one at `next` shares anything with the run, the one at `next` stops it first
pub stopped_before : (run : Run) (walls : List Wall) (first next : ℕ) (e : Wall) → Rise walls → next < length walls → first ≤ next →
    ((k : ℕ) (d : Wall) → k < first → (get_or walls k d).at <ℤ run.at) → ((k : ℕ) (d : Wall) → first ≤ k → k < length walls → run.at ≤ℤ (get_or walls k d).at) →
    ((k : ℕ) (d : Wall) → first ≤ k → k < next → Shares run (get_or walls k d) → ⊥) → Shares run (get_or walls next e) → (z : ℤ) → (z ≤ℤ (get_or walls next e).at) ↔ All (StopsBefore run z) walls
stopped_before run walls first next e up in_next from_first low high free shares z = (
  λ h. All-from_get_or (StopsBefore run z) walls e (λ k in_k ahead met. elim (cases_lt k next) [
    | inl less ↦ elim (cases_lt k first) [
      | inl low_k ↦ absurd (omega (arith, ints, low k e low_k, ahead))
      | inr high_k ↦ absurd (free k e high_k less met)
    ]
    | inr more ↦ elim (cases_lt next k) [
      | inl l ↦ omega (arith, ints, h, up next k e l in_k)
      | inr l ↦ (let same : next ≡ k = omega arith in subst (λ n. z ≤ℤ (get_or walls n e).at) same h)
    ]
  ]),
  λ all. All-get_or (StopsBefore run z) walls next e in_next all (high next e from_first in_next) shares,
)

-- and where none shares anything, none stops it
pub never_before : (run : Run) (walls : List Wall) (first next : ℕ) → length walls ≤ next →
    ((k : ℕ) (d : Wall) → k < first → (get_or walls k d).at <ℤ run.at) → ((k : ℕ) (d : Wall) → first ≤ k → k < next → Shares run (get_or walls k d) → ⊥) → (e : Wall) → (z : ℤ) → All (StopsBefore run z) walls
never_before run walls first next whole low free e z = All-from_get_or (StopsBefore run z) walls e (λ k in_k ahead met. elim (cases_lt k first) [
  | inl low_k ↦ absurd (omega (arith, ints, low k e low_k, ahead))
  | inr high_k ↦ absurd (free k e high_k (omega arith) met)
])

-- the same on the way to lesser coordinates, where the walls before `first` stand
pub stopped_behind : (run : Run) (walls : List Wall) (first next : ℕ) (e : Wall) → Rise walls → first ≤ length walls → next < first →
    ((k : ℕ) (d : Wall) → k < first → (get_or walls k d).at ≤ℤ run.at) → ((k : ℕ) (d : Wall) → first ≤ k → k < length walls → run.at <ℤ (get_or walls k d).at) →
    ((k : ℕ) (d : Wall) → next < k → k < first → Shares run (get_or walls k d) → ⊥) → Shares run (get_or walls next e) → (z : ℤ) → ((get_or walls next e).at ≤ℤ z) ↔ All (StopsBehind run z) walls
stopped_behind run walls first next e up within in_next low high free shares z = (
  λ h. All-from_get_or (StopsBehind run z) walls e (λ k in_k behind met. elim (cases_lt next k) [
    | inl more ↦ elim (cases_lt k first) [
      | inl low_k ↦ absurd (free k e more low_k met)
      | inr high_k ↦ absurd (omega (arith, ints, high k e high_k in_k, behind))
    ]
    | inr less ↦ elim (cases_lt k next) [
      | inl l ↦ omega (arith, ints, h, up k next e l (omega arith))
      | inr l ↦ (let same : next ≡ k = omega arith in subst (λ n. (get_or walls n e).at ≤ℤ z) same h)
    ]
  ]),
  λ all. All-get_or (StopsBehind run z) walls next e (omega arith) all (low next e in_next) shares,
)

pub never_behind : (run : Run) (walls : List Wall) (first : ℕ) →
    ((k : ℕ) (d : Wall) → first ≤ k → k < length walls → run.at <ℤ (get_or walls k d).at) → ((k : ℕ) (d : Wall) → k < first → Shares run (get_or walls k d) → ⊥) → (e : Wall) → (z : ℤ) → All (StopsBehind run z) walls
never_behind run walls first high free e z = All-from_get_or (StopsBehind run z) walls e (λ k in_k behind met. elim (cases_lt k first) [
  | inl low_k ↦ absurd (free k e low_k met)
  | inr high_k ↦ absurd (omega (arith, ints, high k e high_k in_k, behind))
])

-- what holds of the images of all elements
unmapped : {X Y : Type 0} (P : X → Type 0) (f : Y → X) (ys : List Y) → All P (map f ys) → All (λ (y : Y). P (f y)) ys
unmapped {X} {Y} P f [] all = All-nil (λ (y : Y). P (f y))
unmapped {X} {Y} P f (y ∷ ys) all = All-cons (λ (y : Y). P (f y)) y ys (All-head P (f y) (map f ys) all) (unmapped P f ys (All-tail P (f y) (map f ys) all))

-- the walls are the sides of the solids
of_walls : (P : Wall → Type 0) (dir : Dir) (solids : List Solid) (walls : List Wall) → AreWallsTo dir solids walls → All P walls ↔ All (λ (s : Solid). P (wall_of dir s)) solids
of_walls P dir solids walls are = (
  λ all. unmapped P (wall_of dir) solids (All-permutation P walls (map (wall_of dir) solids) (IsPermutation-sym (map (wall_of dir) solids) walls are.all) all),
  λ all. All-permutation P (map (wall_of dir) solids) walls are.all (All-map P (wall_of dir) solids all),
)

-- sides of solids have an extent
wide_side : (dir : Dir) (s : Solid) → IsSolid s → (wall_of dir s).lo <ℤ (wall_of dir s).hi
wide_side East s is = is.high
wide_side South s is = is.wide
wide_side West s is = is.high
wide_side North s is = is.wide

-- walls with an extent
abbrev pub AreWide : List Wall → Type 0
AreWide walls = All (λ (w : Wall). w.lo <ℤ w.hi) walls

pub walls_are_wide : (dir : Dir) (solids : List Solid) (walls : List Wall) → AreWallsTo dir solids walls → All IsSolid solids → AreWide walls
walls_are_wide dir solids walls are all =
    (of_walls (λ (w : Wall). w.lo <ℤ w.hi) dir solids walls are).1 (All-weaker IsSolid (λ s. (wall_of dir s).lo <ℤ (wall_of dir s).hi) (wide_side dir) solids all)

-- beside an open interval, what stops at the end that it would pass first steps into no part of it
stopped : (low high at z : ℤ) (Q : Type 0) → low <ℤ high → (Overlaps low high at at × Q → ⊥) →
    ((at ≤ℤ low → Q → z ≤ℤ low) × (high ≤ℤ at → Q → high ≤ℤ z)) ↔ (Overlaps low high at z × Q → ⊥)
stopped low high at z Q wide clear = (
  λ both o. by_lt_z at high
      (λ less. let left = on_left low high at wide less (λ p. clear (p, o.1)) in (beside_left low high at z wide left).0 (both.0 left o.1) o.0)
      (λ right. (beside_right low high at z wide right).0 (both.1 right o.1) o.0),
  λ free. (
    λ left q. (beside_left low high at z wide left).1 (λ p. free (p, q)),
    λ right q. (beside_right low high at z wide right).1 (λ p. free (p, q)),
  ),
)

-- the run sweeps no part of the solid where each of its two walls stops it
stopped_by : (way : Way) (run : Run) (z : ℤ) (s : Solid) → IsSolid s → (Sweeps way s.rect run.at run.at run.lo run.hi → ⊥) →
    (StopsBefore run z (wall_of (greater way) s) × StopsBehind run z (wall_of (lesser way) s)) ↔ (Sweeps way s.rect run.at z run.lo run.hi → ⊥)
stopped_by Vertical run z s is clear = stopped s.rect.left s.rect.right run.at z (Overlaps s.rect.top s.rect.bottom run.lo run.hi) is.wide clear
stopped_by Horizontal run z s is clear = stopped s.rect.top s.rect.bottom run.at z (Overlaps s.rect.left s.rect.right run.lo run.hi) is.high clear

both : {X : Type 0} (P Q : X → Type 0) (xs : List X) → All P xs → All Q xs → All (λ x. P x × Q x) xs
both {X} P Q [] p q = All-nil (λ x. P x × Q x)
both {X} P Q (x ∷ xs) p q = All-cons (λ x. P x × Q x) x xs (All-head P x xs p, All-head Q x xs q) (both P Q xs (All-tail P x xs p) (All-tail Q x xs q))

-- where all walls stop the run it sweeps no part of a solid, and the other way round
pub stopped_by_all : (way : Way) (walls : Walls) (run : Run) (z : ℤ) → AreWalls way walls → All (λ (s : Solid). Sweeps way s.rect run.at run.at run.lo run.hi → ⊥) walls.solids.now →
    (All (StopsBefore run z) walls.onward.items × All (StopsBehind run z) walls.backward.items) ↔ All (λ (s : Solid). Sweeps way s.rect run.at z run.lo run.hi → ⊥) walls.solids.now
stopped_by_all way walls run z are clear =
    let solids = walls.solids.now in
    let Stands : Solid → Type 0 = λ s. IsSolid s × (Sweeps way s.rect run.at run.at run.lo run.hi → ⊥) in
    let stands : All Stands solids = both IsSolid (λ (s : Solid). Sweeps way s.rect run.at run.at run.lo run.hi → ⊥) solids are.solids clear in
    let onward = of_walls (StopsBefore run z) (greater way) solids walls.onward.items are.onward in
    let backward = of_walls (StopsBehind run z) (lesser way) solids walls.backward.items are.backward in
    let Stops : Solid → Type 0 = λ s. StopsBefore run z (wall_of (greater way) s) × StopsBehind run z (wall_of (lesser way) s) in
    let Free : Solid → Type 0 = λ s. Sweeps way s.rect run.at z run.lo run.hi → ⊥ in (
      λ stops. All-weaker (λ s. Stands s × Stops s) Free (λ s here. (stopped_by way run z s here.0.0 here.0.1).0 here.1) solids
          (both Stands Stops solids stands (both (λ s. StopsBefore run z (wall_of (greater way) s)) (λ s. StopsBehind run z (wall_of (lesser way) s)) solids (onward.0 stops.0) (backward.0 stops.1))),
      λ free. (
        onward.1 (All-weaker (λ s. Stands s × Free s) (λ s. StopsBefore run z (wall_of (greater way) s)) (λ s here. ((stopped_by way run z s here.0.0 here.0.1).1 here.1).0) solids (both Stands Free solids stands free)),
        backward.1 (All-weaker (λ s. Stands s × Free s) (λ s. StopsBehind run z (wall_of (lesser way) s)) (λ s here. ((stopped_by way run z s here.0.0 here.0.1).1 here.1).1) solids (both Stands Free solids stands free)),
      ),
    )
