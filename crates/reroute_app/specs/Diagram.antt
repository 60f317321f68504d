-- The reads of a diagram, and of what is read after it.
use Rattle.std.specs.Prelude.{◌≡◌, ℕ, List, Option, Some, None, Result, Ok, Err}
use Rattle.host_edge.specs.Folder.{ExposedFiles}
use Rattle.gml_text.specs.Tree.{Pairs}
use Rattle.gml_text.specs.Parse.{IsDocument, ParsesAs}
use Rattle.gml_text.specs.declared.fault.GmlFault.{GmlFault}
use Rattle.scene_model.specs.declared.edit.Command.{Command}
use Rattle.scene_model.specs.Scene.{Scene}
use Rattle.diagram_read.specs.declared.fault.DiagramFault.{DiagramFault}
use Rattle.diagram_read.specs.declared.fault.DiagramFault.TheVariants.{TooMany}
use Rattle.diagram_read.specs.declared.fault.Part.{Part}
use Rattle.diagram_read.specs.Scene.{scene_of}
use Rattle.edit_script.specs.Script.{commands as commands_of}
use Rattle.report_text.specs.Faults.{fault_line, gml_fault_line}
use Rattle.report_text.specs.declared.status.Status.TheVariants.{Diagram}
use Rattle.form_certificate.specs.Sizes.{too_large}
use Rattle.reroute_app.specs.Hint.{gml_hint}
use Rattle.report_text.specs.Outcome.{hinted, unsearched}
use Rattle.host_edge.specs.Note.{Note}
use Rattle.reroute_app.specs.Reads.{HasRead, ReadsFile, Course, EndsWith}

-- the greatest number of bytes of a diagram, of a script and of a certificate
abbrev pub most_bytes : ℕ
most_bytes = 16777216

abbrev pub most_script_bytes : ℕ
most_script_bytes = 4194304

abbrev pub most_certificate_bytes : ℕ
most_certificate_bytes = 1073741824

-- the bytes are a document of this tree, and the tree has this scene
pub record IsDiagram (bytes : List ℕ) (tree : Pairs) (scene : Scene) : Type 0 where
  pub document : IsDocument tree bytes
  pub is_scene : scene_of tree ≡ Ok scene

-- the file was read, and is the diagram of this tree and this scene
pub record HasDiagram (files : Option ExposedFiles) (name : List ℕ) (old new : List Note) (tree : Pairs) (scene : Scene) : Type 0 where
  pub bytes : List ℕ
  pub read : HasRead files name most_bytes old new bytes
  pub diagram : IsDiagram bytes tree scene

-- a tree has a scene, with which the course continues, or a fault
abbrev pub TakesScene : (Scene → Course) → Result Scene DiagramFault → Course
TakesScene next (Ok scene) = next scene
TakesScene next (Err fault) = EndsWith (unsearched Diagram (fault_line fault))

-- these bytes are read as a tree, or with a fault, of which people are told the place
abbrev pub TakesTree : (Pairs → Scene → Course) → List ℕ → Result Pairs GmlFault → Course
TakesTree next bytes (Ok tree) = TakesScene (next tree) (scene_of tree)
TakesTree next bytes (Err fault) = EndsWith (hinted (unsearched Diagram (gml_fault_line fault)) (gml_hint bytes fault))

-- what the bytes are read as decides how the course continues
abbrev pub TakesDiagram : (Pairs → Scene → Course) → List ℕ → Course
TakesDiagram next bytes old new o = (read : Result Pairs GmlFault) × ParsesAs bytes read × TakesTree next bytes read old new o

-- the file with the name is read as a diagram, and the course continues with its tree and its scene
abbrev pub ReadsDiagram : Option ExposedFiles → List ℕ → (Pairs → Scene → Course) → Course
ReadsDiagram files name next = ReadsFile files name most_bytes (TakesDiagram next)

-- a diagram is read and then a script, and the course goes on with the tree, the scene and the commands
abbrev pub ReadsScript : Option ExposedFiles → List ℕ → List ℕ → (Pairs → Scene → List (ℕ × Command) → Course) → Course
ReadsScript files diagram script next =
    ReadsDiagram files diagram (λ tree s. ReadsFile files script most_script_bytes (λ bytes. next tree s (commands_of bytes)))

-- the course goes on, unless a scene has too many of a part
abbrev pub UnlessLarge : Option Part → Course → Course
UnlessLarge None next = next
UnlessLarge (Some part) next = EndsWith (unsearched Diagram (fault_line (TooMany part)))

-- the file is read as a diagram, and the course goes on with its scene, unless that is too large to have a certificate
abbrev pub ReadsSmall : Option ExposedFiles → List ℕ → (Scene → Course) → Course
ReadsSmall files name next = ReadsDiagram files name (λ tree s. UnlessLarge (too_large s) (next s))
