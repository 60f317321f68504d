-- What `commit_alone` leaves.
use Rattle.std.proofs.Common.{◌≡◌, ℕ, None, Some, Ok, sym, subst, subst₂}
use Rattle.line_arena.specs.Count.{counted_by}
use Rattle.graph_repair.specs.Change.{CountsWrites}
use Rattle.scene_model.specs.declared.edit.Command.TheVariants.{Commit}
use Rattle.scene_model.specs.Answers.{AreAnswers}
use Rattle.scene_model.specs.Routing.{floor_of}
use Rattle.scene_model.specs.Scene.{Scene}
use Rattle.scene_model.specs.Valid.{IsValid}
use Rattle.scene_model.specs.World.{step}
use Rattle.session_model.specs.Txn.{BeganOn}
use Rattle.session_model.specs.History.{IsHistory, world_of}
use Rattle.session_model.specs.State.{State}
use Rattle.route_book.specs.Exchange.{Exchange}
use Rattle.route_session.proofs.Upholding.{commit_writes}
use Rattle.route_session.proofs.session.Session.commit_alone.Goals as goal

pub exchange_on-requires-clause-valid : goal.exchange_on-requires-clause-valid
exchange_on-requires-clause-valid c = subst IsValid (sym c.follow_alone.ensures.scene) c.self.invariant.valid

pub exchange_on-requires-clause-history : goal.exchange_on-requires-clause-history
exchange_on-requires-clause-history c =
    subst (λ (s : Scene). IsHistory (λ (x : Exchange). x.here) (λ (x : Exchange). x.there) c.self.inside.log s) (sym c.follow_alone.ensures.scene) c.self.invariant.history

pub exchange_on-requires-clause-right : goal.exchange_on-requires-clause-right
exchange_on-requires-clause-right c = subst₂ AreAnswers (sym c.follow_alone.ensures.scene) (sym c.follow_alone.ensures.book) c.self.invariant.right

pub exchange_on-requires-clause-there : goal.exchange_on-requires-clause-there
exchange_on-requires-clause-there c = subst (λ (s : Scene). AreAnswers s c.in-Ok.changes.there) c.working.ensures c.in-Ok.ensures.there

pub exchange_on-requires-clause-begun : goal.exchange_on-requires-clause-begun
exchange_on-requires-clause-begun c =
    let open_is : c.self.inside.txn ≡ Some c.in-Some.txn = cc in
    let began : BeganOn c.self.inside.present.scene c.in-Some.txn = rw open_is at c.self.invariant.begun in
    subst (λ (s : Scene). BeganOn s c.in-Some.txn) (sym c.follow_alone.ensures.scene) began

pub invariant_of-self-2 : goal.invariant_of-self-2
invariant_of-self-2 c = rw c.take.ensures.after c.exchange_on.ensures.upheld

pub returns-clause-call : goal.returns-clause-call
returns-clause-call c =
    let open_is : c.self.inside.txn ≡ Some c.in-Some.txn = cc in
    let new = c.exchange_on.new in
    record {
      ok = rw (← c.self.view_is, c.take.ensures.after, open_is)
          (subst (λ (s : Scene). step Commit (world_of c.self.inside.log s (Some c.in-Some.txn.working)) ≡ Ok (world_of new.log new.present.scene None)) c.follow_alone.ensures.scene c.exchange_on.ensures.ok);
      fault = tt;
      err = tt;
      right = c.exchange_on.ensures.upheld.right;
    }

pub returns-clause-searched : goal.returns-clause-searched
returns-clause-searched c = rw (← c.self.view_is, c.exchange_on.ensures.scene, c.exchange_on.ensures.tally, ← c.working.ensures) c.in-Ok.ensures.tally

pub returns-clause-written : goal.returns-clause-written
returns-clause-written c =
    let here = c.self.inside.present in
    let there = c.exchange_on.new.present in
    subst (λ (s : State). CountsWrites (floor_of s.world.present) (floor_of there.scene) s.written there.graph.arena.written) c.self.view_is
    (commit_writes here.scene there.scene here.graph c.follow_alone.new.self.graph there.graph c.self.invariant.floor c.exchange_on.ensures.graph c.exchange_on.ensures.upheld.floor c.in-Ok.ensures.written)

pub returns-in_default-follow_alone-clause-memory_searched : goal.returns-in_default-follow_alone-clause-memory_searched
returns-in_default-follow_alone-clause-memory_searched c is =
    subst (λ (s : State). (n : ℕ) × (c.follow_alone.new.self.tally ≡ counted_by n s.searched)) c.self.view_is c.in_default-follow_alone.ensures.err_tally

pub returns-in_default-follow_alone-clause-memory_written : goal.returns-in_default-follow_alone-clause-memory_written
returns-in_default-follow_alone-clause-memory_written c is =
    subst (λ (s : State). (n : ℕ) × (c.follow_alone.new.self.graph.arena.written ≡ counted_by n s.written)) c.self.view_is c.in_default-follow_alone.ensures.err_written
