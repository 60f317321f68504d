-- The lines that a run writes.
use Rattle.std.specs.Prelude.{◌≡◌, ◌⊎◌, ℕ, Bool, List, Option, Some}
use Rattle.host_edge.specs.Folder.{ExposedFiles}
use Rattle.host_edge.specs.Note.{Note}
use Rattle.gml_text.specs.Tree.{Pairs}
use Rattle.scene_model.specs.Scene.{Scene}
use Rattle.edit_script.specs.Script.{commands}
use Rattle.nudge_phases.specs.Apart.{KeepsApart}
use Rattle.nudge_phases.specs.Nudged.{AreLegalNudgedLines}
use Rattle.script_replay.specs.Replies.{world_after}
use Rattle.report_text.specs.declared.hint.Unrouted.{Unrouted}
use Rattle.form_route.specs.Routes.{Routes}
use Rattle.command_words.specs.Words.{route, form_of}
use Rattle.report_text.specs.declared.status.Status.TheVariants.{Done, Refused}
use Rattle.report_text.specs.Outcome.{Outcome}
use Rattle.reroute_app.specs.Diagram.{most_script_bytes}
use Rattle.reroute_app.specs.Run.{IsOutcome}
use Rattle.reroute_app.specs.Causes.{HasReadBoth}

-- diagram and script were read, and the text has the lines of the scene at the end, which are legal walks and keep every separation
pub record WritesLines (files : Option ExposedFiles) (diagram script : List ℕ) (count : Bool) (old new : List Note) (text : List ℕ) : Type 0 where
  pub tree : Pairs
  pub scene : Scene
  pub bytes : List ℕ
  pub read : HasReadBoth files diagram script most_script_bytes old new tree scene bytes
  pub refused : Bool
  pub searched : ℕ
  pub unrouted : Unrouted
  pub routes : Routes tree scene (commands bytes) count text refused searched unrouted
  pub legal : AreLegalNudgedLines (world_after scene (commands bytes)).present routes.answers routes.lines
  pub apart : KeepsApart routes.are_lines.nudged.nudged.x × KeepsApart routes.are_lines.nudged.nudged.y

-- the law: so it is where the arguments ask for a replay, and the outcome is that something was refused, or nothing was
abbrev pub RunsWriteGoodLines : Type 0
RunsWriteGoodLines =
    (words : List (List ℕ)) (files : Option ExposedFiles) (old new : List Note) (diagram script : List ℕ) (workers : ℕ) (count : Bool) (o : Outcome) →
    form_of words ≡ Some (route diagram script workers count) → IsOutcome words files old new o → (o.status ≡ Done) ⊎ (o.status ≡ Refused) →
    WritesLines files diagram script count old new o.text
