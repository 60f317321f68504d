-- Coordinates fit their type.
use Rattle.std.proofs.Common.{◌≡◌, ℤ, ◌≤ℤ◌, false, ◌≤◌, arith, w64}
use lib.Signed.{lt_z}
use Rattle.std.proofs.lemmas.Int.{ints, to_z-of_z}
use Rattle.std.specs.Int.RustNames.{FitsSigned}
use Rattle.plane_geom.specs.declared.point.Point.{Point}
use Rattle.plane_geom.specs.Point.{IsCoordinate, PointIsOnSheet, distance}

-- a coordinate is held in 64 bits
pub coordinate_fits : (z : ℤ) → IsCoordinate z → FitsSigned w64 z
coordinate_fits z h = omega (arith, ints, h.low, h.high)

-- what opens the bits of a coordinate
pub ruleset signed = (ints, to_z-of_z, coordinate_fits)

-- the consequence of a failed test
pub not_below : {a b : ℤ} → lt_z a b ≡ false → b ≤ℤ a
not_below {a} {b} h = grind (arith, ints)

-- two points of the sheet are not far apart
pub distance_bound : (a b : Point) → PointIsOnSheet a → PointIsOnSheet b → distance a b ≤ 8000000000
distance_bound a b h k = omega (arith, ints, h.x.low, h.x.high, h.y.low, h.y.high, k.x.low, k.x.high, k.y.low, k.y.high)
