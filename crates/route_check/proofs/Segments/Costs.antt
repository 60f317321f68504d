-- The cost of a line fits its type.
use Rattle.std.proofs.Common.{◌≡◌, ℕ, ap, inl, inr, Option, Some, None, ◌*◌, ◌^◌, ◌≤◌, List, [], ◌∷◌, ◌++◌, length, replicate, arith, All}
use Rattle.std.proofs.lemmas.Bool.{cases_lt}
use Rattle.std.proofs.lemmas.Nat.{mul-le}
use Rattle.plane_geom.specs.declared.point.Point.{Point}
use Rattle.plane_geom.specs.declared.point.Dir.{Dir}
use Rattle.plane_geom.specs.Point.{PointIsOnSheet, distance, heading}
use Rattle.walk_model.specs.Cost.{bends, walk_cost}
use Rattle.walk_model.specs.Line.{AreStraight, steps_through}
use Rattle.walk_model.proofs.CornerByCorner.Bends.{bends_from, bends_from-stretch, turn_from_bound}
use Rattle.route_check.proofs.Segments.Corners.{at_each, at_end}

-- a segment bends at most twice, where it begins
bends_from-line : (last : Option Dir) (p : Point) (qs : List Point) → bends_from last (steps_through p qs) ≤ 2 * length qs
bends_from-line None p [] = omega arith
bends_from-line (Some d) p [] = omega arith
bends_from-line last p (q ∷ qs) =
    let n = distance p q in let d = heading p q in let ahead = steps_through q qs in
    elim (cases_lt 0 n) as (λ _. bends_from last (replicate n d ++ ahead) ≤ 2 * length (q ∷ qs)) [
      | inl long ↦ omega (arith, bends_from-stretch last d n ahead long, turn_from_bound last d, bends_from-line (Some d) q qs)
      | inr none ↦ (let e : n ≡ 0 = omega arith in
          omega (arith, ap (λ (m : ℕ). bends_from last (replicate m d ++ ahead)) e, bends_from-line last q qs))
    ]

-- the possible costs of the walk of a line
pub cost_small : (first : Point) (rest : List Point) (penalty : ℕ) → AreStraight first rest → PointIsOnSheet first → All PointIsOnSheet rest → length rest ≤ 40000000 → penalty ≤ 10 ^ 9
    → walk_cost penalty (steps_through first rest) ≤ 400000000000000000
cost_small first rest penalty straight begin on few small =
    let (k, p, at) = at_each first rest straight begin on (length rest) (omega arith) in
    let long = at_end first rest (length rest) k p at (omega arith) in
    let turns = mul-le penalty (bends (steps_through first rest)) (10 ^ 9) (2 * 40000000) small (omega (arith, few, bends_from-line None first rest)) in
    omega (arith, at.small)
