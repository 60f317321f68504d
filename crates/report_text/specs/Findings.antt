-- The line for the check of an edge.
use Rattle.std.specs.Prelude.{ℕ, List, ◌++◌, Result, Ok, Err, codes, decimal}
use Rattle.std.specs.List.{flat_map}
use Rattle.std.specs.Fmt.{signed_decimal}
use Rattle.fixed_milli.specs.Milli.{size_text}
use Rattle.route_check.specs.declared.verdict.Breach.{Breach}
use Rattle.route_check.specs.declared.verdict.Breach.TheVariants.{Slanted, StartOff, EndOff, Hits, MissesVia}
use Rattle.report_text.specs.declared.finding.Finding.{Finding}
use Rattle.report_text.specs.declared.finding.Finding.TheVariants.{Loop, NoLine, Judged}
use Rattle.report_text.specs.declared.finding.EdgeFinding.{EdgeFinding}
use Rattle.report_text.specs.Lines.{line}

-- the cost of a line, or the first rule that it breaks
abbrev pub verdict_text : Result ℕ Breach → List ℕ
verdict_text (Ok cost) = codes "cost " ++ size_text cost
verdict_text (Err (Slanted segment)) = codes "Slanted " ++ decimal segment
verdict_text (Err StartOff) = codes "StartOff"
verdict_text (Err EndOff) = codes "EndOff"
verdict_text (Err (Hits segment node)) = codes "Hits " ++ decimal segment ++ codes " node " ++ signed_decimal node
verdict_text (Err (MissesVia place)) = codes "MissesVia " ++ decimal place

-- the result of checking an edge
abbrev pub finding_text : Finding → List ℕ
finding_text Loop = codes "loop"
finding_text NoLine = codes "no line"
finding_text (Judged verdict) = verdict_text verdict

-- the line of an edge, and the lines of many in order
abbrev pub finding_line : EdgeFinding → List ℕ
finding_line f = line (codes "edge " ++ decimal f.edge ++ codes ": " ++ finding_text f.finding)

abbrev pub finding_lines : List EdgeFinding → List ℕ
finding_lines fs = flat_map finding_line fs
