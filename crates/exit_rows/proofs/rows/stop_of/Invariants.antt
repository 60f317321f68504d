-- The stop by the exits so far.
use Rattle.std.proofs.Common.{◌≡◌, take}
use Rattle.exit_rows.specs.Exits.{stop_of}
use Rattle.exit_rows.proofs.rows.stop_of.Given as goal

abbrev pub invariant-loop-other : goal.invariant-loop-other
invariant-loop-other l = l.stop ≡ stop_of (take l.other-index l.row) l.kept
