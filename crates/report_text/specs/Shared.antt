-- What is said of the paths that routes share, and of the crossings of lines.
use Rattle.std.specs.Prelude.{ℕ, List, ◌++◌, codes, decimal, Option, Some, None}
use Rattle.std.specs.List.{flat_map}
use Rattle.segment_order.specs.declared.side.Side.{Side}
use Rattle.segment_order.specs.declared.side.Side.TheVariants.{Left, Right}
use Rattle.shared_paths.specs.declared.path.End.{End}
use Rattle.shared_paths.specs.declared.path.End.TheVariants.{Tie, Parts}
use Rattle.shared_paths.specs.declared.path.SharedPath.{SharedPath}
use Rattle.report_text.specs.Lines.{line}

abbrev pub side_text : Side → List ℕ
side_text Left = codes "left"
side_text Right = codes "right"

-- the side of a path, if it has one
abbrev pub some_side_text : Option Side → List ℕ
some_side_text (Some side) = side_text side
some_side_text None = codes "none"

abbrev pub end_text : End → List ℕ
end_text Tie = codes "tie"
end_text (Parts side) = side_text side

-- the two edges of a path, and the runs of the first
abbrev pub runs_text : SharedPath → List ℕ
runs_text p = codes "shared " ++ decimal p.a ++ codes " " ++ decimal p.b ++ codes " runs " ++ decimal p.first ++ codes "-" ++ decimal p.last

abbrev pub ends_text : SharedPath → List ℕ
ends_text p = codes ": back " ++ end_text p.back ++ codes ", ahead " ++ end_text p.ahead ++ codes ", side " ++ some_side_text p.side

-- the line of a path, and those of many in order
abbrev pub shared_line : SharedPath → List ℕ
shared_line p = line (runs_text p ++ ends_text p)

abbrev pub shared_lines : List SharedPath → List ℕ
shared_lines paths = flat_map shared_line paths

-- the line on the number of crossings
abbrev pub crossings_line : ℕ → List ℕ
crossings_line crossings = line (codes "crossings " ++ decimal crossings)
