-- What a line and a crossing know about the lists that they are in.
use Rattle.std.specs.Prelude.{ℕ, Option}
use Rattle.plane_geom.specs.declared.point.Dir.{Dir}
use Rattle.plane_geom.specs.declared.point.Dir.TheVariants.{East, South, West, North}
use Rattle.line_arena.specs.declared.node.Ends.{Ends}
use Rattle.line_arena.specs.declared.node.Node.{Node}

-- the first crossing for one who walks along the line in the direction
abbrev pub start_of : Dir → Ends → Option ℕ
start_of East e = e.first
start_of South e = e.first
start_of West e = e.last
start_of North e = e.last

abbrev pub with_start : Dir → Option ℕ → Ends → Ends
with_start East to e = record e { first = to }
with_start South to e = record e { first = to }
with_start West to e = record e { last = to }
with_start North to e = record e { last = to }

-- the line along which one travels in the direction
abbrev pub line_of : Dir → Node → ℕ
line_of East n = n.horizontal
line_of South n = n.vertical
line_of West n = n.horizontal
line_of North n = n.vertical

-- the neighbour in the direction
abbrev pub next_of : Dir → Node → Option ℕ
next_of East n = n.east
next_of South n = n.south
next_of West n = n.west
next_of North n = n.north

abbrev pub with_next : Dir → Option ℕ → Node → Node
with_next East to n = record n { east = to }
with_next South to n = record n { south = to }
with_next West to n = record n { west = to }
with_next North to n = record n { north = to }
