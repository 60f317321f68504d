-- None of the exits so far stands for this one.
use Rattle.std.proofs.Common.{take, All}
use Rattle.exit_rows.specs.Exits.{StandsFor}
use Rattle.exit_rows.proofs.rows.is_late.Given as goal

abbrev pub invariant-loop-other : goal.invariant-loop-other
invariant-loop-other l = All (λ o. StandsFor o l.kept → ⊥) (take l.other-index l.row)
