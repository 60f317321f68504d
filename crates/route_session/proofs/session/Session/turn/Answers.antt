-- What a turn refuses, and what it leaves.
use Rattle.std.proofs.Common.{rules, ◌≡◌, true, false, None, Some, Ok, slice_get, sym, ap, subst, ◌∙◌}
use Rattle.std.specs.Prelude.{IsOk, is_some, option_copied}
use Rattle.plane_geom.specs.Floor.{IsFloor}
use Rattle.visibility_graph.specs.Drawing.{Drawing}
use Rattle.scene_model.specs.Routing.{floor_of}
use Rattle.scene_model.specs.World.{step}
use Rattle.session_model.specs.History.{world_of}
use Rattle.route_session.specs.Turning.{scene_toward, steps_toward, turn_command}
use Rattle.route_session.specs.Upheld.{IsUpheld}
use Rattle.route_session.proofs.Turns.{here_toward, may_go, may_turn, nothing_there, open_refuses, turned}
use Rattle.route_session.proofs.Upholding.{none_by, working_of}
use Rattle.route_session.proofs.session.Session.turn.Goals as goal
use Rattle.route_session.proofs.session.Session.turn.Goals.{After-drop-repair-inside-5, In-Some}

pub returns-then-is_some-clause-call : goal.returns-then-is_some-clause-call
returns-then-is_some-clause-call c =
    let opened : is_some c.self.inside.txn ≡ true = cc in
    record {
      ok = tt;
      fault = rw (← c.self.view_is) (open_refuses c.args.toward c.self.inside.log c.self.inside.present.scene c.self.inside.txn opened);
      err = search rules;
      right = c.self.invariant.right;
    }

pub returns-in_default-clause-call : goal.returns-in_default-clause-call
returns-in_default-clause-call c =
    let shut : is_some c.self.inside.txn ≡ false = cc in
    let none : slice_get (steps_toward c.args.toward c.self.inside.log) 0 ≡ None = sym c.nearest_step.ensures ∙ ap option_copied c.in_default.is in
    record {
      ok = tt;
      fault = rw (← c.self.view_is) (nothing_there c.args.toward c.self.inside.log c.self.inside.present.scene c.self.inside.txn c.no_step.result c.no_step.ensures shut none);
      err = search rules;
      right = c.self.invariant.right;
    }

-- the step is the nearest one there
step_is : (c : In-Some) → slice_get (steps_toward c.args.toward c.self.inside.log) 0 ≡ Some c.in-Some.step.now
step_is c = sym c.nearest_step.ensures ∙ ap option_copied c.in-Some.is

-- so there is one to go to, and no transaction is open
goes : (c : In-Some) → IsOk (step (turn_command c.args.toward) (world_of c.self.inside.log c.self.inside.present.scene (working_of c.self.inside.txn)))
goes c = may_go c.args.toward c.self.inside.log c.self.inside.present.scene c.self.inside.txn c.in-Some.step.now (let shut : is_some c.self.inside.txn ≡ false = cc in shut) (step_is c)

pub scene_toward-requires : goal.scene_toward-requires
scene_toward-requires c =
    let some = step_is (goal.at.scene_toward-requires c).In-Some in
    may_turn c.self.inside.present.scene c.self.inside.present.graph c.self.inside.present.book c.self.inside.log c.self.inside.txn c.self.invariant c.args.toward c.in-Some.step.now some

pub returns-in_default-scene_toward-clause-call : goal.returns-in_default-scene_toward-clause-call
returns-in_default-scene_toward-clause-call c = record {
  ok = tt;
  fault = rw (← c.self.view_is) (goes (goal.at.returns-in_default-scene_toward-clause-call c).In-Some);
  err = search rules;
  right = c.self.invariant.right;
}

pub returns-in_default-repair-clause-call : goal.returns-in_default-repair-clause-call
returns-in_default-repair-clause-call c = record {
  ok = tt;
  fault = rw (← c.self.view_is) (goes (goal.at.returns-in_default-repair-clause-call c).In-Some);
  err = search rules;
  right = search rules;
}

pub exchange_toward-requires-clause-here : goal.exchange_toward-requires-clause-here
exchange_toward-requires-clause-here c =
    let some = step_is (goal.at.exchange_toward-requires-clause-here c).In-Some in
    rw some (here_toward c.self.inside.present.scene c.self.inside.present.graph c.self.inside.present.book c.self.inside.log c.self.inside.txn c.self.invariant c.args.toward c.in-Some.step.now some ∙ sym c.repair.ensures.book)

-- the scene, the graph, the book and the history after it
went : (c : After-drop-repair-inside-5) → let new = c.exchange_toward.new in
    IsUpheld new.present.scene new.present.graph new.present.book new.log None
    × (step (turn_command c.args.toward) (world_of c.self.inside.log c.self.inside.present.scene None) ≡ Ok (world_of new.log new.present.scene None))
went c =
    let t = c.in-Some.step.now in
    let some = step_is (goal.at.After-drop-repair-inside-5 c).In-Some in
    let is : c.exchange_toward.new.present.scene ≡ scene_toward c.args.toward t c.self.inside.present.scene =
    c.exchange_toward.ensures.scene ∙ c.in-Ok.ensures in
    let floor : c.exchange_toward.new.present.graph.floor ≡ floor_of c.exchange_toward.new.present.scene =
    ap (λ (g : Drawing). g.floor) c.exchange_toward.ensures.graph ∙ c.in-Ok-repair.ensures.floor ∙ ap floor_of (sym c.exchange_toward.ensures.scene) in
    let fits : IsFloor c.exchange_toward.new.present.graph.floor = subst (λ (g : Drawing). IsFloor g.floor) (sym c.exchange_toward.ensures.graph) c.repair.ensures.fits in
    turned c.self.inside.present.scene c.self.inside.present.graph c.self.inside.present.book c.self.inside.log c.self.inside.txn c.self.invariant c.args.toward t
    c.exchange_toward.new.present.scene c.exchange_toward.new.present.graph c.exchange_toward.new.present.book c.exchange_toward.new.log
    some is floor fits (rw some at c.exchange_toward.ensures.book) (rw some at c.exchange_toward.ensures.log)

pub invariant_of-self-2 : goal.invariant_of-self-2
invariant_of-self-2 c = rw c.take.ensures.after (went c).0

pub returns-clause-call : goal.returns-clause-call
returns-clause-call c =
    let shut : is_some c.self.inside.txn ≡ false = cc in
    record {
      ok = rw (← c.self.view_is, c.take.ensures.after, none_by c.self.inside.txn shut) (went c).1;
      fault = tt;
      err = tt;
      right = (went c).0.right;
    }
