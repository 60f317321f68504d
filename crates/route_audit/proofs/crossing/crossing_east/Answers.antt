-- The crossing that stands there.
use Rattle.std.proofs.Common.{◌≡◌, sym, subst, ◌∙◌, arith}
use Rattle.std.proofs.lemmas.Int.{ints}
use Rattle.line_arena.specs.Arena.{StandsAt}
use Rattle.route_audit.proofs.crossing.crossing_east.Goals as goal

pub returns-then-eq : goal.returns-then-eq
returns-then-eq c =
    let p = c.point-there.result in
    let same = sym c.eq.ensures ∙ c.if-eq.true in
    let x : p.x ≡ c.args.at.x = grind (arith, ints, same) in
    let y : p.y ≡ c.args.at.y = grind (arith, ints, same) in
    subst (StandsAt c.args.arena.now c.loop.crossing) (λ i. record { x = x i; y = y i }) c.point-there.ensures
