-- The result of a script on a diagram: the report, and the diagram of the scene at the end with its nudged lines.
use Rattle.std.specs.Prelude.{◌≡◌, ℕ, ◌+◌, Bool, List, ◌++◌, length}
use Rattle.gml_text.specs.Tree.{Pairs}
use Rattle.gml_text.specs.Printed.{printed}
use Rattle.walk_model.specs.declared.route.Answer.{Answer}
use Rattle.walk_model.specs.declared.route.WrittenRoute.{WrittenRoute}
use Rattle.scene_model.specs.declared.edit.Command.{Command}
use Rattle.scene_model.specs.Scene.{Scene, connectors}
use Rattle.scene_model.specs.Valid.{IsValid}
use Rattle.scene_model.specs.World.{opened}
use Rattle.session_model.specs.Calls.{AreDirected}
use Rattle.report_text.specs.declared.reply.LineReply.{LineReply}
use Rattle.gml_scene.specs.Labels.{no_labels}
use Rattle.gml_scene.specs.Tree.{tree_of}
use Rattle.nudge_phases.specs.Nudged.{AreLines}
use Rattle.script_replay.specs.Replies.{AreReplies, searched_in, world_after}
use Rattle.report_text.specs.Outcome.{Outcome, counted, hinted}
use Rattle.report_text.specs.declared.hint.Unrouted.{Unrouted}
use Rattle.form_route.specs.Report.{report, has_refusal, script_status, unrouted_hint, unrouted_in}

-- the output of a script on the diagram of the tree, whose scene is this one; whether something was refused; the number of searches; and how many connectors have no route
pub record Routes (tree : Pairs) (s : Scene) (commands : List (ℕ × Command)) (count : Bool) (text : List ℕ) (refused : Bool) (searched : ℕ) (unrouted : Unrouted) : Type 0 where
  pub replies : List LineReply
  pub answers : List Answer
  pub lines : List WrittenRoute
  pub are_replies : AreReplies (opened s) commands replies
  pub are_lines : AreLines (world_after s commands).present answers lines
  pub is_text : text ≡ report count (length (connectors s)) replies (world_after s commands) answers
      ++ printed (tree_of tree s (world_after s commands).present no_labels lines)
  pub is_refused : refused ≡ has_refusal replies (world_after s commands)
  pub is_searched : searched ≡ length (connectors s) + searched_in replies
  pub is_unrouted : unrouted ≡ unrouted_in (world_after s commands).present answers

-- this is the outcome, with a hint of the connectors without a route
pub record Replays (tree : Pairs) (s : Scene) (commands : List (ℕ × Command)) (count : Bool) (o : Outcome) : Type 0 where
  pub text : List ℕ
  pub refused : Bool
  pub searched : ℕ
  pub unrouted : Unrouted
  pub routes : Routes tree s commands count text refused searched unrouted
  pub outcome : o ≡ hinted (counted (script_status refused) text searched) (unrouted_hint unrouted)

-- the law: a script on a diagram has at most one output, one verdict, one number of searches, and one of connectors without a route
pub record IsSameRoutes (text other_text : List ℕ) (refused other_refused : Bool) (searched other_searched : ℕ) (unrouted other_unrouted : Unrouted) : Type 0 where
  pub same_text : text ≡ other_text
  pub same_verdict : refused ≡ other_refused
  pub same_count : searched ≡ other_searched
  pub same_unrouted : unrouted ≡ other_unrouted

abbrev pub ComesToOne : Type 0
ComesToOne = (tree : Pairs) (s : Scene) (commands : List (ℕ × Command)) (count : Bool)
    (text other_text : List ℕ) (refused other_refused : Bool) (searched other_searched : ℕ) (unrouted other_unrouted : Unrouted) →
    IsValid s → AreDirected commands →
    Routes tree s commands count text refused searched unrouted → Routes tree s commands count other_text other_refused other_searched other_unrouted →
    IsSameRoutes text other_text refused other_refused searched other_searched unrouted other_unrouted
