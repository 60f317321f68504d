-- The lines of replies.
use Rattle.std.specs.Prelude.{ℕ, List, ◌++◌, codes, decimal, length}
use Rattle.std.specs.List.{flat_map}
use Rattle.fixed_milli.specs.Milli.{milli_text}
use Rattle.plane_geom.specs.declared.point.Point.{Point}
use Rattle.walk_model.specs.declared.route.WrittenRoute.{WrittenRoute}
use Rattle.report_text.specs.declared.refusal.Refusal.{Refusal}
use Rattle.report_text.specs.Lines.{line}
use Rattle.report_text.specs.Refusals.{refusal_text}

-- the last line of a reply to what is done
abbrev pub ok_line : List ℕ
ok_line = line (codes "ok")

-- the last line where a command is done, and no memory was left to report what it changed
abbrev pub unreported_line : List ℕ
unreported_line = line (codes "ok untold")

-- the last line of a reply to what is refused, for this reason or where no memory is left, and where a line is too long
abbrev pub refused_line : Refusal → List ℕ
refused_line why = line (codes "refused " ++ refusal_text why)

abbrev pub no_memory_line : List ℕ
no_memory_line = line (codes "refused NoMemory")

abbrev pub too_long_line : List ℕ
too_long_line = line (codes "refused TooLong")

-- a corner, with a space before each number, in units
abbrev pub corner_text : Point → List ℕ
corner_text p = (codes " " ++ milli_text p.x) ++ codes " " ++ milli_text p.y

abbrev pub corners_text : List Point → List ℕ
corners_text ps = flat_map corner_text ps

-- a connector has this line, has none any more, gets this number if it is the next one, or got it when it was moved
abbrev pub drawn_text : WrittenRoute → List ℕ
drawn_text l = line (codes "line " ++ decimal l.edge ++ corners_text l.points)

abbrev pub drawn_texts : List WrittenRoute → List ℕ
drawn_texts ls = flat_map drawn_text ls

abbrev pub gone_text : ℕ → List ℕ
gone_text edge = line (codes "no line " ++ decimal edge)

abbrev pub next_text : ℕ → List ℕ
next_text number = line (codes "next " ++ decimal number)

abbrev pub connector_text : ℕ → List ℕ
connector_text number = line (codes "connector " ++ decimal number)

-- a diagram, after a line that says how many bytes it has
abbrev pub gml_text : List ℕ → List ℕ
gml_text text = line (codes "gml " ++ decimal (length text)) ++ text
