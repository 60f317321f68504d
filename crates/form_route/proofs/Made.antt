-- What is written of a replay is the output of its script.
use Rattle.std.proofs.Common.{◌≡◌, ℕ, ◌+◌, List, ◌++◌, Bool, Result, Ok, length, sym, subst, ap, ◌∙◌}
use Rattle.std.specs.Prelude.{IfOk}
use Rattle.gml_text.specs.Printed.{printed}
use Rattle.gml_text.specs.Tree.{Pairs}
use Rattle.walk_model.specs.declared.route.Answer.{Answer}
use Rattle.scene_model.specs.declared.edit.Command.{Command}
use Rattle.scene_model.specs.Scene.{Scene, connectors}
use Rattle.scene_model.specs.World.{World, opened}
use Rattle.report_text.specs.declared.reply.LineReply.{LineReply}
use Rattle.nudge_phases.specs.Nudged.{AreLines}
use Rattle.gml_scene.specs.Labels.{no_labels}
use Rattle.gml_scene.specs.Tree.{tree_of}
use Rattle.script_replay.specs.Replies.{AreReplies, searched_in, world_after}
use Rattle.form_route.specs.Diagram.{IsOutput}
use Rattle.report_text.specs.Outcome.{Outcome, counted, hinted}
use Rattle.report_text.specs.declared.hint.Hint.{Hint}
use Rattle.report_text.specs.declared.status.Status.{Status}
use Rattle.form_route.specs.Report.{has_refusal, report, script_status, unrouted_hint, unrouted_in}
use Rattle.form_route.specs.Routes.{Replays}

-- what holds of the value of a result
pub of_ok : {T E : Type 0} (P : T → Type 0) (r : Result T E) (x : T) → r ≡ Ok x → IfOk r P → P x
of_ok P r x is holds = subst (λ r. IfOk r P) is holds

-- what holds of the scene that was read and of the present one of a world
pub so_of : {E : Type 0} (P : Scene → Scene → Type 0) (r : Result Scene E) (s : Scene) (v w : World) → r ≡ Ok s → v ≡ w → P s w.present → IfOk r (λ was. P was v.present)
so_of P r s v w is same holds = subst (λ r. IfOk r (λ was. P was v.present)) (sym is) (subst (λ (u : World). P s u.present) (sym same) holds)

module _ (tree : Pairs) (s : Scene) (commands : List (ℕ × Command)) (count : Bool) (replies : List LineReply) (w : World) (answers : List Answer) where
  pub made : (opening searched : ℕ) (text : List ℕ) (status : Status) (hint : Hint) (o : Outcome) → w ≡ world_after s commands → AreReplies (opened s) commands replies
      → opening ≡ length (connectors s) → IsOutput tree s count opening replies w answers text
      → status ≡ script_status (has_refusal replies w) → searched ≡ length (connectors s) + searched_in replies → hint ≡ unrouted_hint (unrouted_in w.present answers)
      → o ≡ hinted (counted status text searched) hint → Replays tree s commands count o
  made opening searched text status hint o same are_replies is_opening is_output status_is searched_is hint_is is = record {
    text = text;
    refused = has_refusal replies w;
    searched = searched;
    unrouted = unrouted_in w.present answers;
    routes = record {
      replies = replies;
      answers = answers;
      lines = is_output.lines;
      are_replies = are_replies;
      are_lines = subst (λ (v : World). AreLines v.present answers is_output.lines) same is_output.are_lines;
      is_text =
          is_output.is_text
          ∙ (λ i. report count (is_opening i) replies (same i) answers ++ printed (tree_of tree s (same i).present no_labels is_output.lines));
      is_refused = ap (has_refusal replies) same;
      is_searched = searched_is;
      is_unrouted = ap (λ (v : World). unrouted_in v.present answers) same;
    };
    outcome = is ∙ (λ i. hinted (counted (status_is i) text searched) (hint_is i));
  }
