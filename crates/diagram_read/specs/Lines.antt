-- The line of an edge.
use Rattle.std.specs.Prelude.{ℕ, ◌||◌, ℤ, List, [], ◌∷◌, ◌++◌, codes, slice_get, Option, Some, None, option_and_then, Result, Ok, if◌then◌else◌}
use Rattle.plane_geom.specs.declared.point.Point.{Point}
use Rattle.plane_geom.specs.Point.{is_coordinate}
use Rattle.gml_text.specs.Tree.{Pairs}
use Rattle.scene_model.specs.declared.edge.Edge.{Edge}
use Rattle.diagram_read.specs.declared.fault.Part.TheVariants as part
use Rattle.diagram_read.specs.declared.fault.DiagramFault.{DiagramFault}
use Rattle.diagram_read.specs.declared.fault.DiagramFault.TheVariants.{BadNumber, OutOfRange}
use Rattle.diagram_read.specs.Values.{value_at, values, lists_at, list_at, as_list, number_in, is_no_number, in_range}
use Rattle.diagram_read.specs.Faults.{◌>>=◌, need, refuse, each}

-- a coordinate on the sheet
abbrev pub on_sheet : ℤ → Option ℤ
on_sheet value = if is_coordinate value then Some value else None

-- the point that a list describes, in the line of the edge with this number
abbrev pub point_in : ℕ → Pairs → Result Point DiagramFault
point_in number pairs = do
  let x = number_in (value_at (codes "x") pairs)
  let y = number_in (value_at (codes "y") pairs)
  numbers ← refuse (BadNumber part.Edge number) (is_no_number x || is_no_number y)
  on_x ← need (OutOfRange part.Edge number) (option_and_then on_sheet (in_range x))
  on_y ← need (OutOfRange part.Edge number) (option_and_then on_sheet (in_range y))
  Ok (record { x = on_x; y = on_y })

-- one more point after the others
abbrev pub with_point : ℕ → List Point → Pairs → Result (List Point) DiagramFault
with_point number points pairs = do
  point ← point_in number pairs
  Ok (points ++ point ∷ [])

-- the points of a `Line`, if there is one
abbrev pub line_with : ℕ → Option Pairs → Result (Option (List Point)) DiagramFault
line_with number None = Ok None
line_with number (Some line) = do
  points ← each (with_point number) [] (lists_at (codes "point") line)
  Ok (Some points)

-- the list at a place of the graph list, from 0
abbrev pub list_with : Pairs → ℕ → Option Pairs
list_with tree origin = option_and_then (λ graph. option_and_then as_list (slice_get (values graph) origin)) (list_at (codes "graph") tree)

-- the `Line` in the `graphics` of an edge's list
abbrev pub line_in : Pairs → Option Pairs
line_in edge = option_and_then (λ graphics. option_and_then as_list (value_at (codes "Line") graphics)) (list_at (codes "graphics") edge)

-- the line of an edge of the scene, if it has one
abbrev pub line_of : Pairs → Edge → Result (Option (List Point)) DiagramFault
line_of tree e = line_with e.number (option_and_then line_in (option_and_then (list_with tree) e.origin))
