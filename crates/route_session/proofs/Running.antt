-- What the call of a commit writes.
use Rattle.std.proofs.Common.{◌≡◌, ℕ, Option, None, Some, Result, Ok, Err, refl, sym, ap, subst₂}
use Rattle.std.specs.Prelude.{IsErrOf, OnOk}
use Rattle.line_arena.specs.Count.{counted_by}
use Rattle.graph_repair.specs.Change.{CountsWrites}
use Rattle.scene_model.specs.declared.edit.Command.{Command}
use Rattle.scene_model.specs.declared.edit.Command.TheVariants.{Commit}
use Rattle.scene_model.specs.declared.fault.SessionFault.{SessionFault}
use Rattle.scene_model.specs.declared.fault.SessionFault.TheVariants.{Memory, NoTransaction}
use Rattle.scene_model.specs.Routing.{floor_of}
use Rattle.scene_model.specs.Scene.{Scene}
use Rattle.scene_model.specs.World.{World, refused, taken}
use Rattle.session_model.specs.Calls.{IsCall}
use Rattle.session_model.specs.State.{State}
use Rattle.route_session.specs.Runs.{Writes}

no_transaction : (w : World) (working : Option Scene) (f : SessionFault) → taken Commit working w ≡ Err (refused f) → f ≡ NoTransaction
no_transaction w None f h = cc
no_transaction w (Some s) f h = cc

done_writes : (answer : Result Unit SessionFault) (old new : State) → IsCall Commit answer old new
    → OnOk answer (CountsWrites (floor_of old.world.present) (floor_of new.world.present) old.written new.written)
    → (IsErrOf answer NoTransaction → new.written ≡ old.written) → (IsErrOf answer Memory → (n : ℕ) × (new.written ≡ counted_by n old.written)) → Writes Commit answer old new
done_writes (Ok done) old new call written none memory = written
done_writes (Err Memory) old new call written none memory = memory refl
done_writes (Err f) old new call written none memory = none (ap Err (no_transaction old.world old.world.working f call.fault))

-- the commit of a command that is one, in the state that it was left in
pub commit_writes : (c : Command) (answer : Result Unit SessionFault) (old left new : State) → c ≡ Commit → left ≡ old → IsCall Commit answer left new
    → OnOk answer (CountsWrites (floor_of left.world.present) (floor_of new.world.present) left.written new.written)
    → (IsErrOf answer NoTransaction → new.written ≡ left.written) → (IsErrOf answer Memory → (n : ℕ) × (new.written ≡ counted_by n left.written)) → Writes c answer old new
commit_writes c answer old left new is stays call written none memory =
    subst₂ (λ (d : Command) (s : State). Writes d answer s new) (sym is) stays (done_writes answer left new call written none memory)
