-- The crossing is a stop with its vertical line, and where there is no crossing, none is left.
use Rattle.std.proofs.Common.{ℕ, refl, sym, subst}
use Rattle.line_arena.specs.Arena.{LiesFurther}
use Rattle.plane_geom.specs.declared.point.Dir.TheVariants.{East}
use Rattle.line_lists.specs.Rows.{IsColumnAt}
use Rattle.line_lists.proofs.rows.next_stop.Goals as goal

pub returns-clause-column : goal.returns-clause-column
returns-clause-column c =
    subst (λ (k : ℕ). IsColumnAt c.args.arena.now c.args.numbers.now k c.stop_at.result.across) (sym c.stop_at.ensures.crossing) c.stop_at.ensures.column

pub returns-in_err-crossing-clause-none : goal.returns-in_err-crossing-clause-none
returns-in_err-crossing-clause-none c = λ none.
    subst (λ (k : ℕ). (f : ℕ) → LiesFurther c.args.arena.now East k f → ⊥) c.id.ensures (c.in_err-crossing.ensures.absent.0 refl)
