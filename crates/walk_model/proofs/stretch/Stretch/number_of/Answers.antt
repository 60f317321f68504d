-- A point on the stretch has one number.
use Rattle.std.proofs.Common.{◌≡◌, ◌↔◌, max, ◌-ℤ◌, unsigned_abs, IsTrue, arith, rules}
use Rattle.plane_geom.specs.Point.{forward}
use Rattle.plane_geom.proofs.Signed.{coordinate_fits, signed}
use Rattle.walk_model.proofs.Checkpoints.Stretches.{between_on_sheet, number_answer, place_of_point}
use Rattle.walk_model.proofs.stretch.Stretch.number_of.Goals as goal

pub forward-there-requires-clause-ends_within : goal.forward-there-requires-clause-ends_within
forward-there-requires-clause-ends_within c =
    let s = c.args.self.now in
    between_on_sheet s.start s.dir s.steps c.max-steps.result (omega arith) s.starts_within s.ends_within

pub returns-then-steps-self : goal.returns-then-steps-self
returns-then-steps-self c = λ k.
    let s = c.args.self.now in
    let p = c.args.point in
    let x = coordinate_fits s.start.x s.starts_within.x in
    let y = coordinate_fits s.start.y s.starts_within.y in
    let steps : c.max-steps.result ≡ max (unsigned_abs (s.start.x -ℤ p.x)) (unsigned_abs (s.start.y -ℤ p.y)) = grind (arith, signed) in (
      λ e. cc,
      λ h.
          let n = place_of_point s k c.max-steps.result p steps h in
          absurd (omega (arith, n, h.within, c.if-steps-self.true)),
    )

pub returns : goal.returns
returns c = λ k.
    let s = c.args.self.now in
    let p = c.args.point in
    let x = coordinate_fits s.start.x s.starts_within.x in
    let y = coordinate_fits s.start.y s.starts_within.y in
    let steps : c.max-steps.result ≡ max (unsigned_abs (s.start.x -ℤ p.x)) (unsigned_abs (s.start.y -ℤ p.y)) = grind (arith, signed) in
    let there : IsTrue c.eq.result ↔ (forward s.dir c.max-steps.result s.start ≡ p) = search rules in
    rw c.then_some.ensures (number_answer s c.max-steps.result k p c.eq.result c.if-steps-self.false steps there)
