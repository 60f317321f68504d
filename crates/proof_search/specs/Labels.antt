-- Labels and rows of them.
use Rattle.std.specs.Prelude.{Option, Some, None}
use Rattle.plane_geom.specs.declared.point.Dir.{Dir}
use Rattle.plane_geom.specs.declared.point.Dir.TheVariants.{East, South, West, North}
use Rattle.move_model.specs.declared.ahead.Ahead.{Ahead}
use Rattle.proof_search.specs.declared.label.Label.{Label}
use Rattle.proof_search.specs.declared.label.Label.TheVariants.{Absent, Open, Closed}
use Rattle.proof_search.specs.declared.label.Row.{Row}

-- what is ahead by the label, whether open or closed
abbrev pub ahead_in : Label → Option Ahead
ahead_in Absent = None
ahead_in (Open v) = Some v
ahead_in (Closed v) = Some v

-- the label of the heading
abbrev pub label_in : Row → Dir → Label
label_in r East = r.east
label_in r South = r.south
label_in r West = r.west
label_in r North = r.north

-- the row with this label at the heading
abbrev pub with_label : Row → Dir → Label → Row
with_label r East l = record r { east = l }
with_label r South l = record r { south = l }
with_label r West l = record r { west = l }
with_label r North l = record r { north = l }

-- a row without labels
abbrev pub empty_row : Row
empty_row = record { east = Absent; south = Absent; west = Absent; north = Absent }
