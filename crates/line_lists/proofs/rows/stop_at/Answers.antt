-- The crossing stands on the line at its coordinate.
use Rattle.std.proofs.Common.{ℕ, ◌∙◌, arith, subst, sym}
use Rattle.std.proofs.lemmas.Int.{ints}
use Rattle.line_arena.specs.Arena.{IsOn, StandsAt}
use Rattle.line_lists.proofs.OnLine.{stop_here}
use Rattle.line_lists.proofs.rows.stop_at.Goals as goal

pub returns-clause-stop : goal.returns-clause-stop
returns-clause-stop c =
    let number = sym (c.new.ensures ∙ c.index.ensures.number) in
    stop_here c.args.arena.now c.laws.ensures.arena c.args.id c.args.line c.requires.is _ c.point.result (subst (IsOn c.args.arena.now c.args.id) number c.requires.on)
    (subst (λ (k : ℕ). StandsAt c.args.arena.now k c.point.result) number c.point.ensures)
    (omega (arith, ints, c.along.type_inv, c.along.ensures))
