-- The three comparisons are those of a common place.
use Rattle.std.proofs.Common.{◌<ℤ◌, sym, w64, arith, rules, FitsSigned, ◌∙◌}
use Rattle.std.proofs.lemmas.Int.{ints, to_z-of_z}
use Rattle.std.specs.Int.Signed.{clash_ℤ}
use Rattle.plane_geom.proofs.Places.{halfway, overlap_ends}
use Rattle.plane_geom.proofs.Signed.{not_below}
use Rattle.plane_geom.proofs.rect.overlaps.Goals as goal
use Rattle.plane_geom.proofs.rect.overlaps.Goals.{then-low-high, else-low-high}

pub returns-then-first-high : goal.returns-then-first-high
returns-then-first-high c =
    elim c.if-low-high.branch [
      | then-low-high w ↦ (
        λ t. halfway c.args.low c.args.high c.args.a c.args.b (grind (arith, ints)) (grind (arith, ints, w.value-is)) (grind (arith, ints)),
        λ o. let e = overlap_ends _ _ _ _ o in grind (arith, ints, e.2),
      )
      | else-low-high w ↦ cc
    ]

pub returns-else-first-high : goal.returns-else-first-high
returns-else-first-high c =
    elim c.if-low-high.branch [
      | then-low-high w ↦ (
        λ t. cc,
        λ o. let e = overlap_ends _ _ _ _ o in
            let a = c.ranges.a in let b = c.ranges.b in let high = c.ranges.high in
            let first : FitsSigned w64 c.min-first.result = search rules in
            let same = simp to_z-of_z at c.min-first.ensures.value in
            let failed = simp to_z-of_z at (sym w.value-is ∙ c.if-first-high.false) in
            let below : c.min-first.result <ℤ c.args.high = rw same e.1 in
            absurd (clash_ℤ below (not_below failed)),
      )
      | else-low-high w ↦ (
        λ t. cc,
        λ o. let e = overlap_ends _ _ _ _ o in
            let low = c.ranges.low in let high = c.ranges.high in
            absurd (clash_ℤ e.0 (not_below (simp to_z-of_z at w.if-low-high.false))),
      )
    ]
