-- The stops between two reaches are those between two coordinates along the line.
use Rattle.std.proofs.Common.{◌≡◌, ◌⊎◌, ℤ, pos, ◌-ℤ◌, inl, inr, ap, FitsSigned, w64, rules, arith}
use Rattle.std.proofs.lemmas.Int.{ints, to_z-of_z}
use Rattle.plane_geom.specs.declared.point.Dir.{Dir}
use Rattle.plane_geom.specs.declared.point.Dir.TheVariants.{East, South, West, North}
use Rattle.exit_spread.specs.Propagating.{reach_along}
use Rattle.exit_spread.proofs.run.stops_between.Goals as goal

rises : (d : Dir) (z : ℤ) → (d ≡ East) ⊎ (d ≡ South) → reach_along d z ≡ z
rises d z (inl e) = ap (λ h. reach_along h z) e
rises d z (inr e) = ap (λ h. reach_along h z) e

falls : (d : Dir) (z : ℤ) → (d ≡ West) ⊎ (d ≡ North) → reach_along d z ≡ pos 0 -ℤ z
falls d z (inl e) = ap (λ h. reach_along h z) e
falls d z (inr e) = ap (λ h. reach_along h z) e

pub returns-in-East-clause-members : goal.returns-in-East-clause-members
returns-in-East-clause-members c =
    let t : FitsSigned w64 c.args.to = search rules in
    let f : FitsSigned w64 c.args.from = search rules in
    let u = simp to_z-of_z at c.stops_upto.ensures.members in
    let g = simp to_z-of_z at c.stops_from.ensures.members in
    λ s.
    let same = rises c.args.heading s.along c.in-East.is in (
      λ has. (let from = (g s).0 has in let upto = (u s).0 from.0 in let a = from.1 in let b = upto.1 in (upto.0, omega (arith, ints, same, a), omega (arith, ints, same, b))),
      λ m. (let a = m.1 in let b = m.2 in (g s).1 ((u s).1 (m.0, omega (arith, ints, same, b)), omega (arith, ints, same, a))),
    )

pub returns-in-West-clause-members : goal.returns-in-West-clause-members
returns-in-West-clause-members c =
    let low = c.requires.from.low in
    let high = c.requires.from.high in
    let least = c.requires.to.low in
    let most = c.requires.to.high in
    λ s.
    let same = falls c.args.heading s.along c.in-West.is in (
      λ has. (let from = (c.stops_from-in-West.ensures.members s).0 has in let upto = (c.stops_upto-in-West.ensures.members s).0 from.0 in let a = from.1 in let b = upto.1 in
          (upto.0, omega (arith, ints, same, b, low, high), omega (arith, ints, same, a, least, most))),
      λ m. (let a = m.1 in let b = m.2 in (c.stops_from-in-West.ensures.members s).1 ((c.stops_upto-in-West.ensures.members s).1 (m.0, omega (arith, ints, same, a, low, high)), omega (arith, ints, same, b, least, most))),
    )
