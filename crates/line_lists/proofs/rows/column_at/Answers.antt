-- Where no crossing lies further north, the crossing itself was told.
use Rattle.std.proofs.Common.{ℕ, ap, inr, refl}
use Rattle.line_lists.specs.Rows.{numbers_at}
use Rattle.line_lists.proofs.rows.column_at.Goals as goal

pub returns-in-None : goal.returns-in-None
returns-in-None c = inr (c.in-None.ensures.absent.0 refl, ap (λ (k : ℕ). (numbers_at c.args.numbers.now k).vertical) c.index-in-None.ensures.number)
