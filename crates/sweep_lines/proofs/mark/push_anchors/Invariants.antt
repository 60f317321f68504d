-- The anchors so far come after what was there.
use Rattle.std.proofs.Common.{◌≡◌, ◌++◌, map, take}
use Rattle.sweep_lines.specs.Marks.{anchor_mark}
use Rattle.sweep_lines.proofs.mark.push_anchors.Given as goal

abbrev pub invariant-loop-anchor : goal.invariant-loop-anchor
invariant-loop-anchor g l = l.marks.items ≡ l.initial.marks.items ++ map (anchor_mark g.A.Axis.way_of) (take l.anchor-index l.anchor-items)
