-- All rows are empty.
use Rattle.std.proofs.Common.{◌-◌, length}
use Rattle.exit_rows.specs.Rows.{IsClear}
use Rattle.exit_rows.proofs.rows.Rows.grow.Given as goal

abbrev pub invariant-loop-alloc : goal.invariant-loop-alloc
invariant-loop-alloc l = IsClear l.self

abbrev pub decreases-loop-alloc : goal.decreases-loop-alloc
decreases-loop-alloc l = l.wanted - length l.self.rows.items
