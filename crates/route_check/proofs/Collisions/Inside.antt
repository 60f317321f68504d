-- The steps of a stretch that meet a rectangle.
use Rattle.std.proofs.Common.{◌≡◌, ◌↔◌, ℕ, ℤ, pos, ◌+ℤ◌, ◌-ℤ◌, ◌≤ℤ◌, ◌<ℤ◌, FitsSigned, w64, to_z, of_z, true, arith}
use lib.Signed.{lt_z}
use Rattle.std.proofs.lemmas.Int.{ints, clamps, to_z-of_z, fits_signed_from_abs}
use Rattle.std.specs.Int.{int_max}
use Rattle.std.specs.Int.RustNames.{unsigned_abs}
use Rattle.plane_geom.specs.declared.point.Point.{Point}
use Rattle.plane_geom.specs.declared.rect.Rect.{Rect}
use Rattle.plane_geom.specs.declared.point.Dir.TheVariants.{East, South, West, North}
use Rattle.plane_geom.specs.Point.{IsCoordinate, forward}
use Rattle.plane_geom.specs.Rect.{StepMeets}
use Rattle.route_check.specs.declared.steps.Steps.{Steps}
use Rattle.plane_geom.proofs.Signed.{coordinate_fits}
use Rattle.route_check.specs.Steps.{IsAmong}

-- numbers from `near` on and before `far` are those from there on, cut off at 0
pub among_clamped : (near far m n : ℤ) → m ≡ int_max near (pos 0) → n ≡ int_max far (pos 0) → (k : ℕ)
    → IsAmong (record { begin = unsigned_abs m; end = unsigned_abs n }) k ↔ ((near ≤ℤ pos k) × ((pos k +ℤ pos 1) ≤ℤ far))
among_clamped near far m n e f k = (λ h. (omega (arith, ints, clamps, h.0), omega (arith, ints, clamps, h.1)), λ h. (omega (arith, ints, clamps, h.0), omega (arith, ints, clamps, h.1)))

-- the consequence of a test that holds
pub below : {a b : ℤ} → lt_z a b ≡ true → a <ℤ b
below {a} {b} h = grind (arith, ints)

-- the steps ahead that meet the rectangle: those that do along the way, where the point lies between the sides across it
pub ahead_east : (r : Rect) (p : Point) (k : ℕ) → ((r.top <ℤ p.y) × (p.y <ℤ r.bottom) × ((r.left -ℤ p.x) ≤ℤ pos k) × ((pos k +ℤ pos 1) ≤ℤ (r.right -ℤ p.x))) ↔ StepMeets r (forward East k p) East
ahead_east r p k = (λ h. (h.0, h.1, omega (arith, ints, h.2), omega (arith, ints, h.3)), λ h. (h.0, h.1, omega (arith, ints, h.2), omega (arith, ints, h.3)))

pub ahead_south : (r : Rect) (p : Point) (k : ℕ) → ((r.left <ℤ p.x) × (p.x <ℤ r.right) × ((r.top -ℤ p.y) ≤ℤ pos k) × ((pos k +ℤ pos 1) ≤ℤ (r.bottom -ℤ p.y))) ↔ StepMeets r (forward South k p) South
ahead_south r p k = (λ h. (h.0, h.1, omega (arith, ints, h.2), omega (arith, ints, h.3)), λ h. (h.0, h.1, omega (arith, ints, h.2), omega (arith, ints, h.3)))

pub ahead_west : (r : Rect) (p : Point) (k : ℕ) → ((r.top <ℤ p.y) × (p.y <ℤ r.bottom) × ((p.x -ℤ r.right) ≤ℤ pos k) × ((pos k +ℤ pos 1) ≤ℤ (p.x -ℤ r.left))) ↔ StepMeets r (forward West k p) West
ahead_west r p k = (λ h. (h.0, h.1, omega (arith, ints, h.3), omega (arith, ints, h.2)), λ h. (h.0, h.1, omega (arith, ints, h.3), omega (arith, ints, h.2)))

pub ahead_north : (r : Rect) (p : Point) (k : ℕ) → ((r.left <ℤ p.x) × (p.x <ℤ r.right) × ((p.y -ℤ r.bottom) ≤ℤ pos k) × ((pos k +ℤ pos 1) ≤ℤ (p.y -ℤ r.top))) ↔ StepMeets r (forward North k p) North
ahead_north r p k = (λ h. (h.0, h.1, omega (arith, ints, h.2), omega (arith, ints, h.3)), λ h. (h.0, h.1, omega (arith, ints, h.2), omega (arith, ints, h.3)))

-- the difference of two coordinates is held in 64 bits
difference_fits : (a b : ℤ) → IsCoordinate a → IsCoordinate b → FitsSigned w64 (a -ℤ b)
difference_fits a b h g = fits_signed_from_abs w64 (a -ℤ b) (omega (arith, ints, h.low, h.high, g.low, g.high))

-- what the code tests of the bits of coordinates and of their differences holds of the numbers
module _ (low across high a b c d : ℤ) (l : IsCoordinate low) (m : IsCoordinate across) (h : IsCoordinate high) (ha : IsCoordinate a) (hb : IsCoordinate b) (hc : IsCoordinate c) (hd : IsCoordinate d) where
  abbrev num : ℤ → ℤ
  num z = to_z w64 (of_z w64 z)

  pub from_bits : (s : Steps) (P : Type 0) (k : ℕ) → (IsAmong s k ↔ ((num low <ℤ num across) × (num across <ℤ num high) × (num (num a -ℤ num b) ≤ℤ pos k) × ((pos k +ℤ pos 1) ≤ℤ num (num c -ℤ num d))))
      → (((low <ℤ across) × (across <ℤ high) × ((a -ℤ b) ≤ℤ pos k) × ((pos k +ℤ pos 1) ≤ℤ (c -ℤ d))) ↔ P) → IsAmong s k ↔ P
  from_bits s P k is says =
      let f = coordinate_fits low l in let g = coordinate_fits across m in let i = coordinate_fits high h in
      let fa = coordinate_fits a ha in let fb = coordinate_fits b hb in let fc = coordinate_fits c hc in let fd = coordinate_fits d hd in
      let n = difference_fits a b ha hb in let o = difference_fits c d hc hd in
      let plain = simp to_z-of_z at is in
      (λ x. says.0 (plain.0 x), λ x. plain.1 (says.1 x))
