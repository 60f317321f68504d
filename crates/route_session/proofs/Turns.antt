-- A turn toward the past or the future: what holds of both.
use Rattle.std.proofs.Common.{◌≡◌, true, false, List, slice_get, Option, None, Some, Ok, Err, refl, sym, subst}
use Rattle.std.specs.Prelude.{IsOk, is_some}
use Rattle.plane_geom.specs.Floor.{IsFloor}
use Rattle.walk_model.specs.declared.route.Answer.{Answer}
use Rattle.visibility_graph.specs.Drawing.{Drawing}
use Rattle.scene_model.specs.declared.edit.Command.TheVariants.{Redo, Undo}
use Rattle.scene_model.specs.declared.fault.SessionFault.{SessionFault}
use Rattle.scene_model.specs.declared.fault.SessionFault.TheVariants.{AlreadyOpen}
use Rattle.scene_model.specs.Routing.{floor_of}
use Rattle.scene_model.specs.Scene.{Scene}
use Rattle.scene_model.specs.World.{refused, step}
use Rattle.session_model.specs.Txn.{Transaction}
use Rattle.undo_log.specs.declared.step.Step.{Step}
use Rattle.undo_log.specs.Log.{Log}
use Rattle.session_model.specs.Calls.{IsFaultOf}
use Rattle.session_model.specs.History.{world_of}
use Rattle.route_book.specs.Exchange.{Exchange}
use Rattle.route_session.specs.declared.turning.Toward.{Toward}
use Rattle.route_session.specs.declared.turning.Toward.TheVariants.{Future, Past}
use Rattle.route_session.specs.Turning.{MayTurn, no_step, scene_toward, steps_toward, turn_command, turned_log}
use Rattle.route_session.specs.Upheld.{IsUpheld, turned_step}
use Rattle.route_session.proofs.Upholding.{done_again, may_redo, may_undo, nothing_ahead, nothing_behind, redo_free, redo_here, undo_here, undo_restorable, undone, working_of}

-- a turn is refused if a transaction is open, and otherwise only if there is no step
pub open_refuses : (toward : Toward) (l : Log Exchange) (s : Scene) (txn : Option Transaction) → is_some txn ≡ true → step (turn_command toward) (world_of l s (working_of txn)) ≡ Err (refused AlreadyOpen)
open_refuses toward l s None h = cc
open_refuses Past l s (Some t) h = refl
open_refuses Future l s (Some t) h = refl

pub nothing_there : (toward : Toward) (l : Log Exchange) (s : Scene) (txn : Option Transaction) (fault : SessionFault) → fault ≡ no_step toward → is_some txn ≡ false → slice_get (steps_toward toward l) 0 ≡ None
    → IsFaultOf (turn_command toward) (world_of l s (working_of txn)) fault
nothing_there Past l s txn fault is shut none = subst (IsFaultOf Undo (world_of l s (working_of txn))) (sym is) (nothing_behind l s txn shut none)
nothing_there Future l s txn fault is shut none = subst (IsFaultOf Redo (world_of l s (working_of txn))) (sym is) (nothing_ahead l s txn shut none)

pub may_go : (toward : Toward) (l : Log Exchange) (s : Scene) (txn : Option Transaction) (t : Step Exchange) → is_some txn ≡ false → slice_get (steps_toward toward l) 0 ≡ Some t
    → IsOk (step (turn_command toward) (world_of l s (working_of txn)))
may_go Past l s txn t shut some = may_undo l s txn t shut some
may_go Future l s txn t shut some = may_redo l s txn t shut some

module _ (scene : Scene) (graph : Drawing) (book : List Answer) (log : Log Exchange) (txn : Option Transaction) (up : IsUpheld scene graph book log txn) where
  pub may_turn : (toward : Toward) (t : Step Exchange) → slice_get (steps_toward toward log) 0 ≡ Some t → MayTurn toward t scene
  may_turn Past t some = undo_restorable scene graph book log txn up t some
  may_turn Future t some = redo_free scene graph book log txn up t some

  -- what the step keeps on this side are the answers of the book
  pub here_toward : (toward : Toward) (t : Step Exchange) → slice_get (steps_toward toward log) 0 ≡ Some t → t.changes.here ≡ book
  here_toward Past t some = undo_here scene graph book log txn up t some
  here_toward Future t some = redo_here scene graph book log txn up t some

  -- the session after the turn
  pub turned : (toward : Toward) (t : Step Exchange) (there : Scene) (drawn : Drawing) (answers : List Answer) (after : Log Exchange) → slice_get (steps_toward toward log) 0 ≡ Some t
      → there ≡ scene_toward toward t scene → drawn.floor ≡ floor_of there → IsFloor drawn.floor → answers ≡ t.changes.there → after ≡ turned_log toward log (turned_step t)
      → IsUpheld there drawn answers after None × (step (turn_command toward) (world_of log scene None) ≡ Ok (world_of after there None))
  turned Past t there drawn answers after some is floor fits right gone = undone scene graph book log txn up t there drawn answers after some is floor fits right gone
  turned Future t there drawn answers after some is floor fits right gone = done_again scene graph book log txn up t there drawn answers after some is floor fits right gone
