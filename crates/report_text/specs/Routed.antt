-- The lines in the report of a replay for the routes of the edges.
use Rattle.std.specs.Prelude.{ℕ, List, ◌++◌, codes, decimal}
use Rattle.std.specs.List.{flat_map}
use Rattle.fixed_milli.specs.Milli.{size_text}
use Rattle.report_text.specs.declared.routed.Routed.{Routed}
use Rattle.report_text.specs.declared.routed.Routed.TheVariants.{Loop, NoRoute, Cost}
use Rattle.report_text.specs.declared.routed.EdgeRouted.{EdgeRouted}
use Rattle.report_text.specs.Lines.{line}

-- how an edge is routed
abbrev pub routed_text : Routed → List ℕ
routed_text Loop = codes "loop"
routed_text NoRoute = codes "no route"
routed_text (Cost cost) = codes "cost " ++ size_text cost

-- the line of an edge, and the lines of many in order
abbrev pub routed_line : EdgeRouted → List ℕ
routed_line r = line (codes "# edge " ++ decimal r.edge ++ codes ": " ++ routed_text r.routed)

abbrev pub routed_lines : List EdgeRouted → List ℕ
routed_lines rs = flat_map routed_line rs
