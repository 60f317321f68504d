-- The rows so far are those of the lines so far.
use Rattle.std.proofs.Common.{List, take}
use Rattle.plane_geom.specs.declared.rect.Solid.{Solid}
use Rattle.side_touches.specs.Rows.{AreAllRows}
use Rattle.side_touches.specs.Sides.{AreSides}
use Rattle.side_touches.proofs.row.push_all.Given as goal

abbrev pub invariant-loop-line : goal.invariant-loop-line
invariant-loop-line l = (solids : List Solid) → AreSides solids l.sides → AreAllRows solids (take l.line-index l.lines) l.extents.items l.rows.items
