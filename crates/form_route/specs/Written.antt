-- The laws of the lines that a script writes.
use Rattle.std.specs.Prelude.{ℕ, Bool, List}
use Rattle.gml_text.specs.Tree.{Pairs}
use Rattle.scene_model.specs.declared.edit.Command.{Command}
use Rattle.scene_model.specs.Scene.{Scene}
use Rattle.scene_model.specs.Valid.{IsValid}
use Rattle.session_model.specs.Calls.{AreDirected}
use Rattle.nudge_phases.specs.Apart.{KeepsApart}
use Rattle.nudge_phases.specs.Nudged.{AreLegalNudgedLines}
use Rattle.script_replay.specs.Replies.{world_after}
use Rattle.report_text.specs.declared.hint.Unrouted.{Unrouted}
use Rattle.form_route.specs.Routes.{Routes}

-- the law: the lines that a script writes are legal walks of their connectors
abbrev pub WrittenLinesAreLegal : Type 0
WrittenLinesAreLegal = (tree : Pairs) (s : Scene) (commands : List (ℕ × Command)) (count : Bool) (text : List ℕ) (refused : Bool) (searched : ℕ) (unrouted : Unrouted) →
    IsValid s → AreDirected commands → (r : Routes tree s commands count text refused searched unrouted) →
    AreLegalNudgedLines (world_after s commands).present r.answers r.lines

-- the law: both phases of these lines keep every separation
abbrev pub WrittenLinesKeepApart : Type 0
WrittenLinesKeepApart = (tree : Pairs) (s : Scene) (commands : List (ℕ × Command)) (count : Bool) (text : List ℕ) (refused : Bool) (searched : ℕ) (unrouted : Unrouted) →
    IsValid s → AreDirected commands → (r : Routes tree s commands count text refused searched unrouted) →
    KeepsApart r.are_lines.nudged.nudged.x × KeepsApart r.are_lines.nudged.nudged.y
