-- The least and the greatest of two numbers bound both.
use Rattle.std.proofs.Common.{FitsSigned, rules, w64, arith, ◌≤ℤ◌}
use Rattle.std.proofs.lemmas.Int.{ints, to_z-of_z}
use Rattle.graph_repair.proofs.hull.widened.Goals as goal

pub returns-clause-has : goal.returns-clause-has
returns-clause-has c =
    let px : FitsSigned w64 c.args.p.x = search rules in
    let py : FitsSigned w64 c.args.p.y = search rules in
    let left : FitsSigned w64 c.min.result = record { sfits = c.min.type_inv } in
    let top : FitsSigned w64 c.min-2.result = record { sfits = c.min-2.type_inv } in
    let right : FitsSigned w64 c.max.result = record { sfits = c.max.type_inv } in
    let bottom : FitsSigned w64 c.max-2.result = record { sfits = c.max-2.type_inv } in
    record {
      left = simp to_z-of_z (simp to_z-of_z at c.min.ensures.other_bound);
      right = simp to_z-of_z (simp to_z-of_z at c.max.ensures.other_bound);
      top = simp to_z-of_z (simp to_z-of_z at c.min-2.ensures.other_bound);
      bottom = simp to_z-of_z (simp to_z-of_z at c.max-2.ensures.other_bound);
    }

pub returns-clause-wider : goal.returns-clause-wider
returns-clause-wider c = λ q w.
    let left : FitsSigned w64 c.min.result = record { sfits = c.min.type_inv } in
    let top : FitsSigned w64 c.min-2.result = record { sfits = c.min-2.type_inv } in
    let right : FitsSigned w64 c.max.result = record { sfits = c.max.type_inv } in
    let bottom : FitsSigned w64 c.max-2.result = record { sfits = c.max-2.type_inv } in
    let hull_left : FitsSigned w64 c.args.hull.left = search rules in
    let hull_top : FitsSigned w64 c.args.hull.top = search rules in
    let hull_right : FitsSigned w64 c.args.hull.right = search rules in
    let hull_bottom : FitsSigned w64 c.args.hull.bottom = search rules in
    let to_left : c.min.result ≤ℤ c.args.hull.left = simp to_z-of_z at c.min.ensures.self_bound in
    let to_top : c.min-2.result ≤ℤ c.args.hull.top = simp to_z-of_z at c.min-2.ensures.self_bound in
    let to_right : c.args.hull.right ≤ℤ c.max.result = simp to_z-of_z at c.max.ensures.self_bound in
    let to_bottom : c.args.hull.bottom ≤ℤ c.max-2.result = simp to_z-of_z at c.max-2.ensures.self_bound in
    record {
      left = omega (arith, ints, to_z-of_z w64 c.min.result left, w.left);
      right = omega (arith, ints, to_z-of_z w64 c.max.result right, w.right);
      top = omega (arith, ints, to_z-of_z w64 c.min-2.result top, w.top);
      bottom = omega (arith, ints, to_z-of_z w64 c.max-2.result bottom, w.bottom);
    }
