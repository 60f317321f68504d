-- The checkpoints so far, and the pairs that are left, give what the whole list does.
use Rattle.std.proofs.Common.{◌≡◌, drop}
use Rattle.std.specs.Prelude.{codes}
use Rattle.gml_text.specs.View.{pairs}
use Rattle.diagram_read.specs.Edges.{with_via}
use Rattle.diagram_read.specs.Faults.{each}
use Rattle.diagram_read.specs.Values.{values_at}
use Rattle.diagram_read.proofs.edges.add_all_via.Given as goal

abbrev pub invariant-loop-pair : goal.invariant-loop-pair
invariant-loop-pair l =
    each (with_via l.place l.before) l.initial.via (values_at (codes "via") (pairs l.list))
    ≡ each (with_via l.place l.before) l.via (values_at (codes "via") (pairs (drop l.pair-index l.list)))
