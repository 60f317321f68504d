-- Both are on one whole line, and the reaches are compared.
use Rattle.std.proofs.Common.{◌≡◌, sym, ap, ◌∙◌, arith, rules, to_z, w64, FitsSigned}
use Rattle.std.proofs.lemmas.Int.{ints, to_z-of_z}
use Rattle.plane_geom.specs.Along.{across, way_of}
use Rattle.exit_spread.proofs.run.lies_up_to.Goals as goal

pub returns : goal.returns
returns c =
    let a_fits : FitsSigned w64 c.across.result = search rules in
    let b_fits : FitsSigned w64 c.across-2.result = search rules in
    let p_fits : FitsSigned w64 c.reach.result = search rules in
    let q_fits : FitsSigned w64 c.reach-2.result = search rules in
    let same : across (way_of c.args.heading) c.args.p ≡ across (way_of c.args.heading) c.args.q =
    sym (c.across.ensures ∙ ap (λ w. across w c.args.p) c.way.ensures)
    ∙ sym (to_z-of_z w64 c.across.result a_fits) ∙ ap (to_z w64) c.if-across.false ∙ to_z-of_z w64 c.across-2.result b_fits
    ∙ c.across-2.ensures ∙ ap (λ w. across w c.args.q) c.way-2.ensures in
    let p = c.reach.ensures.value in
    let q = c.reach-2.ensures.value in
    simp to_z-of_z (
      λ yes. record { across = same; upto = grind (arith, ints) },
      λ lies. (let far = lies.upto in grind (arith, ints)),
    )
