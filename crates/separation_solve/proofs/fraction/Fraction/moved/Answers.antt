-- What is read is what was given, and the product and the sum fit, since the fraction is light.
use Rattle.std.proofs.Common.{◌≡◌, ℕ, ◌≤◌, ℤ, pos, ◌+ℤ◌, ◌*ℤ◌, FitsSigned, to_z, of_z, arith, ap, sym, subst, ◌∙◌}
use Rattle.std.proofs.lemmas.Int.{ints, to_z-of_z}
use mir.Syntax.{w64, w128}
use Rattle.separation_solve.proofs.LightFractions.Fractions.{light_num, light_move, light_step}
use Rattle.separation_solve.proofs.LightFractions.Spots.{cast_is}
use Rattle.separation_solve.proofs.fraction.Fraction.moved.Goals as goal
use Rattle.separation_solve.proofs.fraction.Fraction.moved.Goals.{After-from-2}

wide : (a : ℤ) → FitsSigned w64 a → FitsSigned w128 a
wide a h = omega (arith, ints)

whole : (d : ℕ) → d ≤ 3400000000 → FitsSigned w128 (pos d)
whole d h = omega (arith, ints)

product_is : (c : After-from-2) → to_z w128 (of_z w128 c.from.result) *ℤ to_z w128 (of_z w128 c.from-2.result) ≡ c.args.by *ℤ pos c.args.self.den
product_is c =
    ap (λ v. v *ℤ to_z w128 (of_z w128 c.from-2.result)) (cast_is w128 c.from.result c.args.by (c.from.ensures ∙ to_z-of_z w64 c.args.by c.ranges.by) (wide c.args.by c.ranges.by))
    ∙ ap (λ v. c.args.by *ℤ v) (cast_is w128 c.from-2.result (pos c.args.self.den) c.from-2.ensures (whole c.args.self.den c.requires.den))

sum_is : (c : After-from-2) →
    to_z w128 (of_z w128 c.args.self.num) +ℤ to_z w128 (of_z w128 (to_z w128 (of_z w128 c.from.result) *ℤ to_z w128 (of_z w128 c.from-2.result)))
    ≡ c.args.self.num +ℤ (c.args.by *ℤ pos c.args.self.den)
sum_is c =
    ap (λ v. v +ℤ to_z w128 (of_z w128 (to_z w128 (of_z w128 c.from.result) *ℤ to_z w128 (of_z w128 c.from-2.result)))) (to_z-of_z w128 c.args.self.num (light_num c.args.self c.requires))
    ∙ ap (λ v. c.args.self.num +ℤ to_z w128 (of_z w128 v)) (product_is c)
    ∙ ap (λ v. c.args.self.num +ℤ v) (to_z-of_z w128 (c.args.by *ℤ pos c.args.self.den) (light_step c.args.self c.args.by c.requires c.ranges.by))

pub overflow_mul-result : goal.overflow_mul-result
overflow_mul-result c = subst (FitsSigned w128) (sym (product_is c)) (light_step c.args.self c.args.by c.requires c.ranges.by)

pub overflow_add-result : goal.overflow_add-result
overflow_add-result c = subst (FitsSigned w128) (sym (sum_is (goal.at.overflow_add-result c).After-from-2)) (light_move c.args.self c.args.by c.requires c.ranges.by)

pub returns-clause-num : goal.returns-clause-num
returns-clause-num c =
    ap (λ v. to_z w128 (of_z w128 v)) (sum_is (goal.at.returns-clause-num c).After-from-2) ∙ to_z-of_z w128 (c.args.self.num +ℤ (c.args.by *ℤ pos c.args.self.den)) (light_move c.args.self c.args.by c.requires c.ranges.by)
