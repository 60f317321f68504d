-- Where the extents of each line are stored. No public clause cites this module.
use Rattle.std.specs.Prelude.{◌≡◌, ◌-◌, ◌≤◌, List, length, take, drop}
use Rattle.std.specs.List.{AllZip}
use Rattle.plane_geom.specs.declared.point.Dir.{Dir}
use Rattle.plane_geom.specs.declared.point.Dir.TheVariants.{East, South, West, North}
use Rattle.plane_geom.specs.declared.point.Way.{Way}
use Rattle.plane_geom.specs.declared.point.Way.TheVariants.{Vertical, Horizontal}
use Rattle.plane_geom.specs.declared.rect.Solid.{Solid}
use Rattle.plane_geom.specs.declared.floor.Line.{Line}
use Rattle.side_touches.specs.declared.extent.Extent.{Extent}
use Rattle.side_touches.specs.declared.row.Row.{Row}
use Rattle.side_touches.specs.declared.row.Rows.{Rows}
use Rattle.side_touches.specs.Extents.{IsHull}
use Rattle.side_touches.specs.Touches.{AreLineTouches, LineTouches}

-- the extents of the row
abbrev pub in_row : List Extent → Row → List Extent
in_row xs row = take (row.end - row.begin) (drop row.begin xs)

-- the row lies within the extents, and its hull is theirs
pub record IsRow (xs : List Extent) (row : Row) : Type 0 where
  pub ordered : row.begin ≤ row.end
  pub within : row.end ≤ length xs
  pub hull : IsHull (in_row xs row) row.hull

-- both rows of a line
pub record AreRows (xs : List Extent) (rows : Rows) : Type 0 where
  pub lesser : IsRow xs rows.lesser
  pub greater : IsRow xs rows.greater

-- the row of the line on the side
abbrev pub row_to : Dir → Rows → Row
row_to East rows = rows.greater
row_to South rows = rows.greater
row_to West rows = rows.lesser
row_to North rows = rows.lesser

-- the extents of both rows of a line
abbrev pub line_touches : List Extent → Rows → LineTouches
line_touches xs rows = record { lesser = in_row xs rows.lesser; greater = in_row xs rows.greater }

-- the first list goes on as the second
abbrev pub GoesOn : List Extent → List Extent → Type 0
GoesOn old new = take (length old) new ≡ old

-- both rows of the line are in order, and have what touches it
pub record AreRowsOf (solids : List Solid) (xs : List Extent) (l : Line) (rows : Rows) : Type 0 where
  pub both : AreRows xs rows
  pub touches : AreLineTouches solids l (line_touches xs rows)

-- the rows of each line of the list
abbrev pub AreAllRows : List Solid → List Line → List Extent → List Rows → Type 0
AreAllRows solids lines xs rows = AllZip (AreRowsOf solids xs) lines rows

-- the side from which the solids lie at lesser coordinates
abbrev pub lesser_side : Way → Dir
lesser_side Vertical = West
lesser_side Horizontal = North
