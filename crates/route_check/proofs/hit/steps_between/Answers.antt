-- Steps count from 0, so what comes before the point is cut off.
use Rattle.std.proofs.Common.{FitsSigned, w64, rules}
use Rattle.std.proofs.lemmas.Int.{to_z-of_z}
use Rattle.route_check.proofs.Collisions.Inside.{among_clamped, below}
use Rattle.route_check.proofs.hit.steps_between.Goals as goal

pub returns-then-across-high : goal.returns-then-across-high
returns-then-across-high c = λ k.
    let low = c.ranges.low in let across = c.ranges.across in let high = c.ranges.high in let near = c.ranges.near in let far = c.ranges.far in
    let fits : FitsSigned w64 c.max.result = search rules in
    let fits' : FitsSigned w64 c.max-then-across-high.result = search rules in
    let m = simp to_z-of_z at c.max.ensures.value in
    let n = simp to_z-of_z at c.max-then-across-high.ensures.value in
    let low_across = simp to_z-of_z at c.if-low-across.true in
    let across_high = simp to_z-of_z at c.if-across-high.true in
    let is = among_clamped c.args.near c.args.far c.max.result c.max-then-across-high.result m n k in
    simp to_z-of_z (λ h. let g = is.0 h in (below low_across, below across_high, g.0, g.1), λ h. is.1 (h.2, h.3))
