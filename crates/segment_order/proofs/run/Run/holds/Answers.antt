-- The three comparisons are those of a point on the run.
use Rattle.std.proofs.Common.{◌≡◌, ◌≤ℤ◌, rules, arith, FitsSigned, w64, to_z, sym, ap, subst, ◌∙◌}
use Rattle.std.proofs.lemmas.Int.{ints, to_z-of_z}
use Rattle.segment_order.proofs.HeldPoints.{held, is_held}
use Rattle.segment_order.proofs.run.Run.holds.Goals as goal

pub returns-then-self-along : goal.returns-then-self-along
returns-then-self-along c =
    let at : FitsSigned w64 c.args.self.now.at = search rules in
    let hi : FitsSigned w64 c.args.self.now.hi = search rules in
    let lo : FitsSigned w64 c.args.self.now.lo = search rules in
    let along : FitsSigned w64 c.along-along.result = search rules in
    let across : FitsSigned w64 c.across.result = search rules in
    let is_at : c.across.result ≡ c.args.self.now.at = simp to_z-of_z at (ap (λ v. to_z w64 v) c.if-across-self.false) in
    let from : c.args.self.now.lo ≤ℤ c.along-along.result = grind (arith, ints, c.if-self-along.true) in (
      λ t. held c.args.self.now c.args.p (sym c.across.ensures ∙ is_at) (subst (λ z. c.args.self.now.lo ≤ℤ z) c.along-along.ensures from)
          (subst (λ z. z ≤ℤ c.args.self.now.hi) c.along-along.ensures (grind (arith, ints, t))),
      λ h. let inside = is_held c.args.self.now c.args.p h in grind (arith, ints, inside.to, c.along-along.ensures),
    )
