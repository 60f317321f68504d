-- The models of the code's own types. No public clause cites this module.
use Rattle.std.specs.Prelude.{◌≡◌, ◌⊎◌, ℕ, Bool, List, Some, None, Option, Result, Ok, Err}
use Rattle.host_edge.specs.Folder.{ExposedFiles, GainsNote}
use Rattle.host_edge.specs.Note.{Note}
use Rattle.gml_text.specs.Tree.{Pairs}
use Rattle.scene_model.specs.declared.edit.Command.{Command}
use Rattle.scene_model.specs.Scene.{Scene}
use Rattle.edit_script.specs.Script.{commands}
use Rattle.reroute_app.specs.declared.stop.Stop.{Stop}
use Rattle.reroute_app.specs.declared.stop.Stop.TheVariants.{Ended, Memory}
use Rattle.form_certificate.specs.Sizes.{too_large}
use Rattle.report_text.specs.Outcome.{Outcome}
use Rattle.reroute_app.specs.Reads.{HasRead, Course}
use Rattle.reroute_app.specs.Diagram.{most_bytes, HasDiagram, most_script_bytes}

-- a run that stops early ends with this, unless out of memory
abbrev pub StopsAt : (Outcome → Type 0) → Stop → Type 0
StopsAt P (Ended made) = P made
StopsAt P Memory = Unit {0}

-- the outcome of the course, unless out of memory
abbrev pub Comes : (Outcome → Type 0) → Result Outcome Stop → Type 0
Comes P (Ok made) = P made
Comes P (Err stop) = StopsAt P stop

-- the result of a run, unless out of memory
abbrev pub answer_in : Result Outcome Stop → Option Outcome
answer_in (Ok made) = Some made
answer_in (Err (Ended made)) = Some made
answer_in (Err Memory) = None

-- the course does not continue here
abbrev pub never : {X : Type 0} → X → Course
never x old new o = ⊥

abbrev pub never_two : {X Y : Type 0} → X → Y → Course
never_two x y old new o = ⊥

abbrev pub never_three : {X Y Z : Type 0} → X → Y → Z → Course
never_three x y z old new o = ⊥

-- at most one note was added, of a read of this file
abbrev pub NotesOne : List ℕ → ℕ → List Note → List Note → Type 0
NotesOne name limit old new = (new ≡ old) ⊎ ((taken : ℕ) × (failed : Bool) × GainsNote old new name limit taken failed)

-- only the diagram was read, if it was; or also a second file with its limit, after a diagram whose scene meets the condition
pub data NotesTwo (files : Option ExposedFiles) (diagram second : List ℕ) (limit : ℕ) (Fits : Scene → Type 0) (old new : List Note) : Type 0 where
  of_diagram : NotesOne diagram most_bytes old new → NotesTwo files diagram second limit Fits old new
  of_both : (middle : List Note) (tree : Pairs) (scene : Scene) → HasDiagram files diagram old middle tree scene → Fits scene → NotesOne second limit middle new
      → NotesTwo files diagram second limit Fits old new

-- the file was read, and is the diagram of this tree and this scene, which is small enough to have a certificate
pub record HasSmall (files : Option ExposedFiles) (name : List ℕ) (old new : List Note) (tree : Pairs) (scene : Scene) : Type 0 where
  pub has : HasDiagram files name old new tree scene
  pub small : too_large scene ≡ None

-- the scene is small enough to have a certificate
abbrev pub IsSmall : Scene → Type 0
IsSmall s = too_large s ≡ None

-- any scene
abbrev pub AnyScene : Scene → Type 0
AnyScene s = Unit {0}

-- the script was read, and has these commands
pub record HasCommands (files : Option ExposedFiles) (name : List ℕ) (old new : List Note) (list : List (ℕ × Command)) : Type 0 where
  pub bytes : List ℕ
  pub read : HasRead files name most_script_bytes old new bytes
  pub are_commands : list ≡ commands bytes

-- diagram and script were read: this is the diagram's tree and scene, and these are the commands
pub record HasBoth (files : Option ExposedFiles) (diagram script : List ℕ) (old new : List Note) (tree : Pairs) (scene : Scene)
    (list : List (ℕ × Command)) : Type 0 where
  pub middle : List Note
  pub has_diagram : HasDiagram files diagram old middle tree scene
  pub has_commands : HasCommands files script middle new list
