-- The lines so far and those of the gaps that are left are the whole.
use Rattle.std.proofs.Common.{◌≡◌, ◌++◌, ◌≤ℤ◌, drop}
use Rattle.plane_geom.specs.Point.{sheet_end}
use Rattle.sweep_lines.specs.Gaps.{gaps}
use Rattle.sweep_lines.specs.Marks.{kept_gaps, kept_pieces}
use Rattle.sweep_lines.proofs.sweep.push_kept.Given as goal

abbrev pub invariant-loop-number : goal.invariant-loop-number
invariant-loop-number l = record {
  within : l.lo ≤ℤ sheet_end;
  rest : l.lines.items ++ kept_pieces l.way l.at l.here (gaps l.lo (drop l.number-index l.index)) ≡ l.initial.lines.items ++ kept_gaps l.way l.at l.here l.index;
}
