-- The goals of `Fraction::is_below` that the check leaves.
use Rattle.std.proofs.Common.{pos, ◌*ℤ◌, FitsSigned, arith}
use Rattle.std.proofs.lemmas.Int.{ints, to_z-of_z}
use mir.Syntax.{w128}
use Rattle.separation_solve.proofs.LightFractions.Fractions.{light_num, light_product}
use Rattle.separation_solve.proofs.fraction.Fraction.is_below.Goals as goal

pub overflow_mul-result : goal.overflow_mul-result
overflow_mul-result c =
    let p = c.args.self in
    let q = c.args.other in
    let num : FitsSigned w128 p.num = light_num p c.requires.light in
    rw (c.from.ensures) (let f : FitsSigned w128 (pos q.den) = omega (arith, ints, c.requires.other_light.den) in simp to_z-of_z (light_product p q c.requires.light c.requires.other_light))

pub overflow_mul-result-2 : goal.overflow_mul-result-2
overflow_mul-result-2 c =
    let p = c.args.self in
    let q = c.args.other in
    let num : FitsSigned w128 q.num = light_num q c.requires.other_light in
    rw (c.from-2.ensures) (let f : FitsSigned w128 (pos p.den) = omega (arith, ints, c.requires.light.den) in simp to_z-of_z (light_product q p c.requires.other_light c.requires.light))

pub returns : goal.returns
returns c =
    let p = c.args.self in
    let q = c.args.other in
    let p_num : FitsSigned w128 p.num = light_num p c.requires.light in
    let q_num : FitsSigned w128 q.num = light_num q c.requires.other_light in
    let p_den : FitsSigned w128 (pos p.den) = omega (arith, ints, c.requires.light.den) in
    let q_den : FitsSigned w128 (pos q.den) = omega (arith, ints, c.requires.other_light.den) in
    let left : FitsSigned w128 (p.num *ℤ pos q.den) = light_product p q c.requires.light c.requires.other_light in
    let right : FitsSigned w128 (q.num *ℤ pos p.den) = light_product q p c.requires.other_light c.requires.light in
    rw (c.from.ensures, c.from-2.ensures) (simp to_z-of_z ((λ h. grind (arith, ints)), (λ h. grind (arith, ints))))
