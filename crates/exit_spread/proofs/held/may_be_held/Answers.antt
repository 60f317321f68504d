-- The side is the one to which the run is held.
use Rattle.std.proofs.Common.{◌≡◌, sym, subst, ◌∙◌, arith, w64, to_z, of_z}
use Rattle.std.proofs.lemmas.Int.{ints}
use Rattle.side_touches.specs.Touches.{IsTouched}
use Rattle.exit_spread.proofs.held.may_be_held.Goals as goal

pub returns : goal.returns
returns c lines solids l are is p q run at touched =
    let end : c.args.end ≡ to_z w64 (of_z w64 c.args.end) = omega (arith, ints) in
    (c.may_touch.ensures lines solids l are is).if_touched p q run (at ∙ end) (subst (λ side. IsTouched solids side c.args.heading p q) (sym c.held_to.ensures) touched)
