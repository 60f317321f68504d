-- The invariant of a session, and the effect of its steps on a scene. No public clause cites this module.
use Rattle.std.specs.Prelude.{◌≡◌, List, [], ◌∷◌, Option, None, IfSome}
use Rattle.plane_geom.specs.Floor.{IsFloor}
use Rattle.walk_model.specs.declared.route.Answer.{Answer}
use Rattle.visibility_graph.specs.Drawing.{Drawing}
use Rattle.scene_model.specs.declared.edit.Edit.{Edit}
use Rattle.scene_model.specs.declared.edit.Inverse.{Inverse}
use Rattle.scene_model.specs.Scene.{Scene}
use Rattle.scene_model.specs.Valid.{IsValid}
use Rattle.scene_model.specs.Routing.{floor_of}
use Rattle.scene_model.specs.Edits.{refusal, changed, IsDirected}
use Rattle.scene_model.specs.Inverses.{IsRestorable, taken_back}
use Rattle.scene_model.specs.Answers.{AreAnswers}
use Rattle.session_model.specs.Txn.{Transaction, BeganOn}
use Rattle.undo_log.specs.declared.step.Step.{Step}
use Rattle.undo_log.specs.Log.{Log}
use Rattle.session_model.specs.History.{IsHistory}
use Rattle.route_book.specs.Exchange.{Exchange, turned}

-- the graph is that of the scene's floor, the book is right for the scene, and the history and the transaction lead from it
pub record IsUpheld (scene : Scene) (graph : Drawing) (book : List Answer) (log : Log Exchange) (txn : Option Transaction) : Type 0 where
  pub valid : IsValid scene
  pub floor : graph.floor ≡ floor_of scene
  pub fits : IsFloor graph.floor
  pub right : AreAnswers scene book
  pub history : IsHistory (λ c. c.here) (λ c. c.there) log scene
  pub begun : IfSome txn (BeganOn scene)

-- the step with its answers exchanged
abbrev pub turned_step : Step Exchange → Step Exchange
turned_step t = record t { changes = turned t.changes }

-- each inverse, from last to first, may be applied to the scene that those after it leave
abbrev pub AreRestorable : List Inverse → Scene → Type 0
AreRestorable [] s = Unit {0}
AreRestorable (i ∷ is) s = IsRestorable i (taken_back is s) × AreRestorable is s

-- none of the edits is refused, each on the scene that those before it leave
abbrev pub AreFree : List Edit → Scene → Type 0
AreFree [] s = Unit {0}
AreFree (e ∷ es) s = IsDirected e × (refusal e s ≡ None) × AreFree es (changed e s)
