-- The least by the exits so far.
use Rattle.std.proofs.Common.{◌≡◌, take}
use Rattle.exit_rows.specs.Exits.{least_at}
use Rattle.exit_rows.proofs.rows.least_at.Given as goal

abbrev pub invariant-loop-kept : goal.invariant-loop-kept
invariant-loop-kept l = l.least ≡ least_at (take l.kept-index l.row) l.reach
