-- The numbers of a crossing's two lines.
use Rattle.std.specs.Prelude.{ℕ}
use Rattle.plane_geom.specs.declared.point.Way.{Way}
use Rattle.plane_geom.specs.declared.point.Way.TheVariants.{Vertical, Horizontal}
use Rattle.line_lists.specs.declared.stop.Numbers.{Numbers}

-- the way across
abbrev pub other_way : Way → Way
other_way Vertical = Horizontal
other_way Horizontal = Vertical

-- the number of the line that lies this way
abbrev pub number_in : Way → Numbers → ℕ
number_in Vertical m = m.vertical
number_in Horizontal m = m.horizontal

-- before a crossing has numbers
abbrev pub no_numbers : Numbers
no_numbers = record { vertical = 0; horizontal = 0 }
