-- The pins so far, and the pairs that are left, give what the whole list does.
use Rattle.std.proofs.Common.{◌≡◌, drop}
use Rattle.std.specs.Prelude.{codes}
use Rattle.gml_text.specs.View.{pairs}
use Rattle.diagram_read.specs.Faults.{each}
use Rattle.diagram_read.specs.Nodes.{with_pin}
use Rattle.diagram_read.specs.Values.{values_at}
use Rattle.diagram_read.proofs.pins.add_pins.Given as goal

abbrev pub invariant-loop-pair : goal.invariant-loop-pair
invariant-loop-pair l =
    each (with_pin l.place l.before) l.initial.node (values_at (codes "pin") (pairs l.list))
    ≡ each (with_pin l.place l.before) l.node (values_at (codes "pin") (pairs (drop l.pair-index l.list)))
