-- The quotient of a position on the sheet is a coordinate, so no cast loses a bit.
use Rattle.std.proofs.Common.{◌≡◌, pos, FitsSigned, to_z-of_z, ◌∙◌, sym, subst, arith}
use mir.Syntax.{w128}
use Rattle.std.proofs.lemmas.Int.{ints}
use Rattle.plane_geom.specs.Point.{IsCoordinate}
use Rattle.separation_model.specs.Rounded.{rounded_down}
use Rattle.separation_model.proofs.Rounding.{rounded_coordinate}
use Rattle.separation_model.proofs.position.rounded_down.Goals as goal

-- the quotient is the rounding, a coordinate
quotient_is : (c : goal.After-div_euclid) → c.div_euclid.result ≡ rounded_down c.args.num c.args.den
quotient_is c =
    let top : FitsSigned w128 c.args.num = c.ranges.num in
    let den : FitsSigned w128 (pos c.args.den) = omega (arith, ints, c.ranges.den) in
    c.div_euclid.ensures ∙ rw (c.from.ensures) (simp to_z-of_z)

coordinate : (c : goal.After-div_euclid) → IsCoordinate c.div_euclid.result
coordinate c = subst IsCoordinate (sym (quotient_is c)) (rounded_coordinate c.args.num c.args.den c.requires)

pub overflow_cast-result : goal.overflow_cast-result
overflow_cast-result c = let z = coordinate c in omega (arith, ints, z.low, z.high)

pub returns-clause-value : goal.returns-clause-value
returns-clause-value c = let z = coordinate c in omega (arith, ints, z.low, z.high, quotient_is c)

pub returns-clause-coordinate : goal.returns-clause-coordinate
returns-clause-coordinate c = let z = coordinate c in record { low = omega (arith, ints, z.low, z.high); high = omega (arith, ints, z.low, z.high) }
