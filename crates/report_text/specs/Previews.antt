-- The lines of proposed transactions.
use Rattle.std.specs.Prelude.{ℕ, List, ◌++◌, codes, decimal}
use Rattle.std.specs.List.{flat_map}
use Rattle.scene_model.specs.declared.fault.SceneFault.{SceneFault}
use Rattle.report_text.specs.declared.routed.EdgeRouted.{EdgeRouted}
use Rattle.report_text.specs.Lines.{line}
use Rattle.report_text.specs.Refusals.{edit_text}
use Rattle.report_text.specs.Routed.{routed_text}

-- how an edge is routed in the new scene of the proposal with this number, and the lines of many edges in order
abbrev pub preview_edge_line : ℕ → EdgeRouted → List ℕ
preview_edge_line number r = line (codes "preview " ++ decimal number ++ codes " edge " ++ decimal r.edge ++ codes ": " ++ routed_text r.routed)

abbrev pub preview_edge_lines : ℕ → List EdgeRouted → List ℕ
preview_edge_lines number edges = flat_map (preview_edge_line number) edges

-- the lines of a proposal of which no edit is refused: how many connectors a commit would search, and its edges
abbrev pub preview_lines : ℕ → ℕ → List EdgeRouted → List ℕ
preview_lines number searched edges =
    line (codes "preview " ++ decimal number ++ codes ": searched " ++ decimal searched) ++ preview_edge_lines number edges

-- the line of a proposal of which the edit at the place is refused with the fault
abbrev pub refused_preview_line : ℕ → ℕ → SceneFault → List ℕ
refused_preview_line number place fault =
    line (codes "preview " ++ decimal number ++ codes ": " ++ edit_text fault ++ codes " at edit " ++ decimal place)
