-- The texts for a diagram that is refused.
use Rattle.std.specs.Prelude.{ℕ, List, [], ◌++◌, codes, decimal}
use Rattle.gml_text.specs.declared.fault.GmlFault.{GmlFault}
use Rattle.gml_text.specs.declared.fault.GmlFault.TheVariants as gml
use Rattle.diagram_read.specs.declared.fault.Part.{Part}
use Rattle.diagram_read.specs.declared.fault.Part.TheVariants.{Router, Node, Edge, Pin, Via}
use Rattle.diagram_read.specs.declared.fault.DiagramFault.{DiagramFault}
use Rattle.diagram_read.specs.declared.fault.DiagramFault.TheVariants.{NoGraph, BadId, SameId, NoPlace, BadNumber, BadEnd, OutOfRange, TooMany, BadPin, BadVia, BadWeight, Memory}
use Rattle.report_text.specs.Lines.{line}

-- the name of a part of a diagram
abbrev pub part_text : Part → List ℕ
part_text Router = codes "router"
part_text Node = codes "node"
part_text Edge = codes "edge"
part_text Pin = codes "pin"
part_text Via = codes "via"

-- a part with its place; there is only one router, so its place is not printed
abbrev pub place_text : Part → ℕ → List ℕ
place_text Router place = part_text Router
place_text part place = part_text part ++ codes " " ++ decimal place

-- why bytes are not valid GML; out of memory is not printed
abbrev pub gml_fault_text : GmlFault → List ℕ
gml_fault_text (gml.Syntax at) = codes "Syntax at " ++ decimal at
gml_fault_text (gml.TooDeep at) = codes "TooDeep at " ++ decimal at
gml_fault_text gml.Memory = []

-- why a document is not a valid diagram, or why a line of an edge cannot be read
abbrev pub fault_text : DiagramFault → List ℕ
fault_text NoGraph = codes "NoGraph"
fault_text (BadId place) = codes "BadId " ++ place_text Node place
fault_text (SameId place) = codes "SameId " ++ place_text Node place
fault_text (NoPlace place) = codes "NoPlace " ++ place_text Node place
fault_text (BadNumber part place) = codes "BadNumber " ++ place_text part place
fault_text (BadEnd place) = codes "BadEnd " ++ place_text Edge place
fault_text (OutOfRange part place) = codes "OutOfRange " ++ place_text part place
fault_text (TooMany part) = codes "TooMany " ++ part_text part
fault_text (BadPin place) = codes "BadPin " ++ place_text Node place
fault_text (BadVia place) = codes "BadVia " ++ place_text Edge place
fault_text (BadWeight place) = codes "BadWeight " ++ place_text Edge place
fault_text Memory = []

-- the line for bytes that are not valid GML, and the line for a document that is not a valid diagram
abbrev pub gml_fault_line : GmlFault → List ℕ
gml_fault_line fault = line (codes "diagram: " ++ gml_fault_text fault)

abbrev pub fault_line : DiagramFault → List ℕ
fault_line fault = line (codes "diagram: " ++ fault_text fault)
