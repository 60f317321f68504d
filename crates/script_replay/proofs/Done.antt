-- A command that is done is replied to with what it searched.
use Rattle.std.proofs.Common.{◌≡◌, ℕ, ◌+◌, ◌<◌, ◌≤◌, ◌^◌, inl, inr, List, [], ◌∷◌, length, Ok, refl, sym, ap, subst, arith}
use Rattle.std.specs.Prelude.{◌-◌, not}
use Rattle.std.proofs.lemmas.List.Sums.{length-filter, count_by-le-length}
use Rattle.scene_model.specs.declared.edge.Edge.{Edge}
use Rattle.scene_model.specs.declared.edit.Command.{Command}
use Rattle.scene_model.specs.declared.edit.Command.TheVariants.{Commit, Undo, Redo}
use Rattle.scene_model.specs.Answers.{AreAnswers}
use Rattle.scene_model.specs.Scene.{Scene, connectors, is_loop}
use Rattle.scene_model.specs.Stale.{ArePicked, AreStale, IsCurrent, IsStale}
use Rattle.scene_model.specs.Valid.{IsValid}
use Rattle.scene_model.specs.World.{step, or_rolled_back}
use Rattle.report_text.specs.declared.reply.Reply.{Reply}
use Rattle.report_text.specs.declared.reply.Reply.TheVariants.{Kept, Searched}
use Rattle.session_model.specs.State.{State}
use Rattle.route_session.specs.Runs.{Searches}
use Rattle.script_replay.specs.Replies.{IsReplyOf, IsReplyOfDone, searched_by}
use Rattle.script_replay.specs.Replied.{IsReplied, done_reply}

-- no more are picked than there are
picked_few : (P Q : Edge → Type 0) (es : List Edge) (numbers : List ℕ) → ArePicked P Q es numbers → length numbers ≤ length es
picked_few P Q [] numbers h = omega (arith, ap length h)
picked_few P Q (e ∷ es) numbers (inl h) = omega (arith, ap length h.1.2, picked_few P Q es h.1.0 h.1.1)
picked_few P Q (e ∷ es) numbers (inr h) = omega (arith, picked_few P Q es numbers h.1)

-- a valid scene has few connectors
pub few_connectors : (s : Scene) → IsValid s → length (connectors s) ≤ 512
few_connectors s v =
    let loops : length (connectors s) ≤ length s.edges =
    rw (length-filter (λ (e : Edge). not (is_loop e)) s.edges) (count_by-le-length (λ (e : Edge). not (is_loop e)) s.edges) in
    let edges = v.few_edges in
    omega arith

-- a command is done, with this reply
is_done : (c : Command) (old new : State) (given : Reply) → step c old.world ≡ Ok new.world → new.searched ≡ old.searched + searched_by given → searched_by given ≤ 512
    → IsReplyOfDone c old.world.present new.world.present given → IsReplied c old new given
is_done c old new given ok searched few reply = record {
  reply = subst (λ made. IsReplyOf c old.world made given) (sym ok) reply;
  world = sym (ap (or_rolled_back old.world) ok);
  searched = searched;
  few = few;
}

-- a command that is done searched what the session's two counts differ by
pub done_replied : (c : Command) (old new : State) (searched : ℕ) → AreAnswers old.world.present old.book → IsValid new.world.present → old.searched + 512 < 2 ^ 64
    → searched ≡ new.searched - old.searched → step c old.world ≡ Ok new.world → Searches c (Ok tt) old new → IsReplied c old new (done_reply c searched)
done_replied Commit old new searched right valid countable is ok stale =
    let picked = picked_few (IsStale old.world.present old.book new.world.present) (IsCurrent old.world.present old.book new.world.present) (connectors new.world.present) stale.0 stale.1 in
    let connected = few_connectors new.world.present valid in
    let few : length stale.0 ≤ 512 = omega arith in
    let now : new.searched ≡ old.searched + length stale.0 = omega (arith, stale.2) in
    let all : searched ≡ length stale.0 = omega arith in
    is_done Commit old new (Searched searched) ok (omega arith) (omega arith) (record { answers = old.book; right = right; stale = stale.0; are_stale = stale.1; says = ap Searched all })
done_replied Undo old new searched right valid countable is ok same =
    let none : searched ≡ 0 = omega arith in
    is_done Undo old new (Searched searched) ok (omega arith) (omega arith) (ap Searched none)
done_replied Redo old new searched right valid countable is ok same =
    let none : searched ≡ 0 = omega arith in
    is_done Redo old new (Searched searched) ok (omega arith) (omega arith) (ap Searched none)
done_replied c old new searched right valid countable is ok same = is_done c old new Kept ok (omega (arith, same.1)) (omega arith) refl
