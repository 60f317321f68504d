-- The pairs so far have no list under the key.
use Rattle.std.proofs.Common.{◌≡◌, drop}
use Rattle.gml_text.specs.View.{pairs}
use Rattle.diagram_read.specs.Values.{list_at}
use Rattle.diagram_read.proofs.values.list_at.Given as goal

abbrev pub invariant-loop-pair : goal.invariant-loop-pair
invariant-loop-pair l = list_at l.key (pairs l.list) ≡ list_at l.key (pairs (drop l.pair-index l.list))
