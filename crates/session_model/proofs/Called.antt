-- A session's calls in a row.
use Rattle.std.proofs.Common.{◌≡◌, [], ◌∷◌, take, map, Option, None, Some, Result, Ok, Err, sym, ap, subst, ◌∙◌}
use Rattle.scene_model.specs.declared.fault.SessionFault.{SessionFault}
use Rattle.scene_model.specs.declared.fault.SessionFault.TheVariants.{NoTransaction, AlreadyOpen, NothingToUndo, NothingToRedo, Edit, Memory}
use Rattle.scene_model.specs.declared.edit.Command.{Command}
use Rattle.scene_model.specs.declared.edit.Command.TheVariants.{Commit, Undo, Redo}
use Rattle.scene_model.specs.Scene.{Scene}
use Rattle.scene_model.specs.Answers.{AreAnswers}
use Rattle.scene_model.specs.World.{World, CommandRefusal, step, taken, or_rolled_back, next_world, played}
use Rattle.scene_model.proofs.ForRouting.OneList.{one_list}
use Rattle.session_model.specs.State.{State}
use Rattle.session_model.specs.Calls.{IsCall, effect, SessionsAreWorlds, CommitsAreGivenBack}

-- the world after a call is that after its command
call_steps : (c : Command) (answer : Result Unit SessionFault) (old new : State) → IsCall c answer old new → next_world (effect c answer) old.world ≡ new.world
call_steps c (Ok done) old new h = ap (or_rolled_back old.world) h.ok
call_steps c (Err Memory) old new h = sym h.err
call_steps c (Err NoTransaction) old new h = ap (or_rolled_back old.world) h.fault ∙ sym h.err
call_steps c (Err AlreadyOpen) old new h = ap (or_rolled_back old.world) h.fault ∙ sym h.err
call_steps c (Err NothingToUndo) old new h = ap (or_rolled_back old.world) h.fault ∙ sym h.err
call_steps c (Err NothingToRedo) old new h = ap (or_rolled_back old.world) h.fault ∙ sym h.err
call_steps c (Err (Edit f)) old new h = ap (or_rolled_back old.world) h.fault ∙ sym h.err

pub are_worlds : SessionsAreWorlds
are_worlds [] old new right h = (ap (λ s. s.world) h, subst (λ s. AreAnswers s.world.present s.book) (sym h) right)
are_worlds (t ∷ ts) old new right h =
    let rest = are_worlds ts h.0 new h.1.right h.2 in
    (rest.0 ∙ ap (played (map (λ u. effect u.command u.answer) ts)) (sym (call_steps t.command t.answer old h.0 h.1)), rest.1)

abbrev done : World → Result World CommandRefusal
done w = Ok w

same_ok : {v w : World} → done v ≡ Ok w → v ≡ w
same_ok h = cc

-- the worlds of a commit, its undo and the redo of that
abbrev committed : World → Scene → World
committed w s = record { past = take 100 (w.present ∷ w.past); present = s; future = []; working = None }

abbrev undone : World → Scene → World
undone w s = record { past = take 99 w.past; present = w.present; future = s ∷ []; working = None }

commit_gives : (w v : World) (working : Option Scene) → taken Commit working w ≡ Ok v → (s : Scene) × (committed w s ≡ v)
commit_gives w v None h = cc
commit_gives w v (Some s) h = (s, same_ok h)

turns : (w v x y : World) (s : Scene) → committed w s ≡ v → step Undo v ≡ Ok x → step Redo x ≡ Ok y → (x.present ≡ w.present) × (y ≡ v)
turns w v x y s is undo redo =
    let is_undone : undone w s ≡ x = same_ok (subst (λ z. step Undo z ≡ Ok x) (sym is) undo) in
    let is_redone : committed w s ≡ y = same_ok (subst (λ z. step Redo z ≡ Ok y) (sym is_undone) redo) in
    (sym (ap (λ z. z.present) is_undone), sym is_redone ∙ is)

pub are_given_back : CommitsAreGivenBack
are_given_back a b c d right commit undo redo =
    let made = commit_gives a.world b.world a.world.working commit.ok in
    let worlds = turns a.world b.world c.world d.world made.0 made.1 undo.ok redo.ok in (
      worlds.0,
      one_list a.world.present c.book a.book (subst (λ s. AreAnswers s c.book) worlds.0 undo.right) right,
      worlds.1,
      one_list b.world.present d.book b.book (subst (λ w. AreAnswers w.present d.book) worlds.1 redo.right) commit.right,
    )
