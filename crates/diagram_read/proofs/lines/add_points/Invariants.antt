-- The points so far, and the pairs that are left, give what the whole line does.
use Rattle.std.proofs.Common.{◌≡◌, drop}
use Rattle.std.specs.Prelude.{codes}
use Rattle.gml_text.specs.View.{pairs}
use Rattle.diagram_read.specs.Faults.{each}
use Rattle.diagram_read.specs.Lines.{with_point}
use Rattle.diagram_read.specs.Values.{lists_at}
use Rattle.diagram_read.proofs.lines.add_points.Given as goal

abbrev pub invariant-loop-pair : goal.invariant-loop-pair
invariant-loop-pair l =
    each (with_point l.number) l.initial.points (lists_at (codes "point") (pairs l.line))
    ≡ each (with_point l.number) l.points (lists_at (codes "point") (pairs (drop l.pair-index l.line)))
