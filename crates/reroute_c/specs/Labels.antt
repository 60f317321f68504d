-- Why a label is refused.
use Rattle.std.specs.Prelude.{◌≡◌, ℕ, List}
use Rattle.gml_scene.specs.declared.labels.LabelFault.{LabelFault}
use Rattle.gml_scene.specs.declared.labels.LabelFault.TheVariants.{Quote, Memory}
use Rattle.gml_scene.specs.Labels.{IsLabelFault}
use Rattle.reroute_c.specs.declared.fault.Fault.{Fault}
use Rattle.reroute_c.specs.Codes.{memory_fault, syntax_fault}

abbrev pub label_fault : LabelFault → Fault
label_fault Quote = syntax_fault
label_fault Memory = memory_fault

-- the text is refused, and this is reported
abbrev pub IsUnlabelled : List ℕ → Fault → Type 0
IsUnlabelled text fault = (why : LabelFault) × IsLabelFault text why × (fault ≡ label_fault why)
