-- Up to the marks that are left all is done.
use Rattle.std.proofs.Common.{◌≡◌, ◌++◌, List, length}
use Rattle.plane_geom.specs.declared.floor.Line.{Line}
use Rattle.sweep_lines.proofs.Swept.{Swept}
use Rattle.sweep_lines.proofs.sweep.sweep.Given as goal

abbrev pub invariant-loop-first : goal.invariant-loop-first
invariant-loop-first g l = record {
  done : List Line;
  swept : Swept l.floor g.A.Axis.way_of l.from l.to l.rest l.index done;
  lines : l.lines.items ≡ l.initial.lines.items ++ done;
}

abbrev pub decreases-loop-first : goal.decreases-loop-first
decreases-loop-first g l = length l.rest
