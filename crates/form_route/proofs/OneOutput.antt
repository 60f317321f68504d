-- A script on a diagram has one output.
use Rattle.std.proofs.Common.{◌≡◌, ℕ, ◌+◌, List, [], ◌∷◌, ◌++◌, length, map, sym, subst, ap, ◌∙◌}
use Rattle.std.specs.List.{AllByRecursion as Each}
use Rattle.gml_text.specs.Printed.{printed}
use Rattle.walk_model.specs.declared.route.Answer.{Answer}
use Rattle.walk_model.specs.declared.route.WrittenRoute.{WrittenRoute}
use Rattle.scene_model.specs.declared.edit.Command.{Command}
use Rattle.scene_model.specs.Answers.{HaveOneList}
use Rattle.scene_model.specs.Scene.{Scene, connectors}
use Rattle.scene_model.specs.Valid.{IsValid}
use Rattle.scene_model.specs.World.{IsDirectedCommand, ScenesStayValid, opened}
use Rattle.session_model.specs.Calls.{AreDirected}
use Rattle.gml_scene.specs.Labels.{no_labels}
use Rattle.gml_scene.specs.Tree.{tree_of}
use Rattle.nudge_phases.specs.Nudged.{AreLines, HaveOneNudged}
use Rattle.script_replay.specs.Replies.{HaveOneListOfReplies, searched_in, world_after}
use Rattle.form_route.specs.Report.{has_refusal, report, unrouted_in}
use Rattle.form_route.specs.Routes.{ComesToOne}

all_directed : (commands : List (ℕ × Command)) → AreDirected commands → Each IsDirectedCommand (map (λ (c : ℕ × Command). c.1) commands)
all_directed [] directed = tt
all_directed (c ∷ commands) directed = (directed.0, all_directed commands directed.1)

-- the scene at the end is valid
pub ends_valid : (s : Scene) (commands : List (ℕ × Command)) → ScenesStayValid → IsValid s → AreDirected commands → IsValid (world_after s commands).present
ends_valid s commands stay valid directed =
    (stay (map (λ (c : ℕ × Command). c.1) commands) (opened s) (all_directed commands directed) (record { past = tt; present = valid; future = tt; working = tt })).present

module _ (one_replies : HaveOneListOfReplies) (one_answers : HaveOneList) (stay : ScenesStayValid) (one_nudged : HaveOneNudged) where
  -- a valid scene has one list of lines
  same_lines : (s : Scene) (answers : List Answer) (lines others : List WrittenRoute) → IsValid s → AreLines s answers lines → AreLines s answers others → lines ≡ others
  same_lines s answers lines others valid a b = one_nudged s answers lines others valid a.right a.nudged b.nudged

  pub comes_to_one : ComesToOne
  comes_to_one tree s commands count text other refused other_refused searched other_searched unrouted other_unrouted valid directed a b =
      let w = world_after s commands in
      let replies = one_replies (opened s) commands a.replies b.replies a.are_replies b.are_replies in
      let answers = one_answers w.present a.answers b.answers a.are_lines.right b.are_lines.right in
      let lines = same_lines w.present a.answers a.lines b.lines (ends_valid s commands stay valid directed) a.are_lines
      (subst (λ (found : List Answer). AreLines w.present found b.lines) (sym answers) b.are_lines) in
      record {
        same_text = a.is_text ∙ (λ i. report count (length (connectors s)) (replies i) w (answers i) ++ printed (tree_of tree s w.present no_labels (lines i))) ∙ sym b.is_text;
        same_verdict = a.is_refused ∙ ap (λ rs. has_refusal rs w) replies ∙ sym b.is_refused;
        same_count = a.is_searched ∙ ap (λ rs. length (connectors s) + searched_in rs) replies ∙ sym b.is_searched;
        same_unrouted = a.is_unrouted ∙ ap (unrouted_in w.present) answers ∙ sym b.is_unrouted;
      }
