-- A session's calls of a transaction, against the edits alone.
use Rattle.std.proofs.Common.{◌≡◌, ℕ, suc, ◌+◌, List, [], ◌∷◌, ◌++◌, length, map, Option, None, Some, Result, Ok, Err, refl, sym, ap, ◌∙◌, subst, arith}
use Rattle.scene_model.specs.declared.edit.Edit.{Edit}
use Rattle.scene_model.specs.declared.edit.Command.TheVariants as commands
use Rattle.scene_model.specs.declared.fault.SceneFault.{SceneFault}
use Rattle.scene_model.specs.declared.fault.SessionFault.TheVariants as faults
use Rattle.scene_model.specs.Scene.{Scene}
use Rattle.scene_model.specs.World.{World, CommandRefusal, refused, edit_working, taken, step}
use Rattle.scene_model.specs.Edits.{changed, edited_by, refusal}
use Rattle.scene_model.specs.Inverses.{redone}
use Rattle.scene_model.specs.Answers.{AreAnswers}
use Rattle.session_model.specs.State.{State}
use Rattle.session_model.specs.Calls.{AreCalls, CommandResult}
use Rattle.preview.specs.Commits.{CommitsArePreviewed, RefusalsArePreviewed, edit_done}
use Rattle.preview.specs.Previews.{first_refused, refused_or}

abbrev done : World → Result World CommandRefusal
done w = Ok w

same_ok : {v w : World} → done v ≡ Ok w → v ≡ w
same_ok h = cc

abbrev working_on : World → Scene → World
working_on w s = record w { working = Some s }

-- a transaction that begins is on the present scene
begins : (w v : World) (working : Option Scene) → taken commands.Begin working w ≡ Ok v → working_on w w.present ≡ v
begins w v None h = same_ok h
begins w v (Some s) h = cc

-- an edit that is done was not refused
goes : (w v : World) (fault : Option SceneFault) (after : Scene) → edit_working w (edited_by fault after) ≡ Ok v → (fault ≡ None) × (working_on w after ≡ v)
goes w v None after h = (refl, same_ok h)
goes w v (Some fault) after h = cc

-- one that is refused was refused so
stops : (w : World) (fault : Option SceneFault) (after : Scene) (reason : SceneFault) → edit_working w (edited_by fault after) ≡ Err (refused (faults.Edit reason)) → fault ≡ Some reason
stops w None after reason h = cc
stops w (Some fault) after reason h = cc

-- what edits that are done lead to
record Led (es : List Edit) (tail : List CommandResult) (w : World) (s : Scene) (new : State) : Type 0 where
  middle : State
  rest : AreCalls tail middle new
  world : middle.world ≡ working_on w (redone es s)
  unrefused : (place : ℕ) (more : List Edit) → first_refused place (es ++ more) s ≡ first_refused (place + length es) more (redone es s)

module _ (tail : List CommandResult) (w : World) (new : State) where
  edits_lead : (es : List Edit) (s : Scene) (old : State) → old.world ≡ working_on w s → AreCalls (map edit_done es ++ tail) old new → Led es tail w s new
  edits_lead [] s old at calls = record {
    middle = old;
    rest = calls;
    world = at;
    unrefused = λ place more. ap (λ n. first_refused n more s) (let e : place ≡ place + 0 = omega arith in e);
  }
  edits_lead (e ∷ es) s old at (next, call, calls) =
      let ok = subst (λ v. step (commands.Edit e) v ≡ Ok next.world) at call.ok in
      let done = goes (working_on w s) next.world (refusal e s) (changed e s) ok in
      let on = edits_lead es (changed e s) next (sym done.1) calls in
      record {
        middle = on.middle;
        rest = on.rest;
        world = on.world;
        unrefused = λ place more.
            ap (λ r. refused_or place r (first_refused (suc place) (es ++ more) (changed e s))) done.0
            ∙ on.unrefused (suc place) more
            ∙ ap (λ n. first_refused n more (redone es (changed e s))) (let at : suc place + length es ≡ place + suc (length es) = omega arith in at);
      }

commit_gives : (w v : World) (s : Scene) → step commands.Commit (working_on w s) ≡ Ok v → v.present ≡ s
commit_gives w v s h = ap (λ (z : World). z.present) (sym (same_ok h))

no_edit_more : (es : List Edit) → es ++ [] ≡ es
no_edit_more [] = refl
no_edit_more (e ∷ es) = ap (λ rest. e ∷ rest) (no_edit_more es)

pub commits : CommitsArePreviewed
commits edits old new right (begun, begin, calls) (numbers, stale, counts) =
    let w = old.world in
    let led = edits_lead _ w new edits w.present begun (sym (begins w begun.world w.working begin.ok)) calls in
    let commit = led.rest.1 in
    let same : led.rest.0 ≡ new = sym led.rest.2 in
    let is : new.world.present ≡ redone edits w.present =
    ap (λ (n : State). n.world.present) (sym same)
    ∙ commit_gives w led.rest.0.world (redone edits w.present) (subst (λ v. step commands.Commit v ≡ Ok led.rest.0.world) led.world commit.ok) in (
      length numbers,
      record {
        unrefused = ap (λ es. first_refused 1 es w.present) (sym (no_edit_more edits)) ∙ led.unrefused 1 [];
        scene = is;
        right = subst (λ (n : State). AreAnswers n.world.present n.book) same commit.right;
        stale = numbers;
        are_stale = stale;
        searches = refl;
      },
      counts,
    )

pub refusals : RefusalsArePreviewed
refusals edits more e fault old new (begun, begin, calls) =
    let w = old.world in
    let led = edits_lead _ w new edits w.present begun (sym (begins w begun.world w.working begin.ok)) calls in
    let call = led.rest.1 in
    let s = redone edits w.present in
    let why = stops (working_on w s) (refusal e s) (changed e s) fault
    (subst (λ v. step (commands.Edit e) v ≡ Err (refused (faults.Edit fault))) led.world call.fault) in
    led.unrefused 1 (e ∷ more)
    ∙ ap (λ r. refused_or (1 + length edits) r (first_refused (suc (1 + length edits)) more (changed e s))) why
    ∙ ap (λ n. Some (n, fault)) (let at : 1 + length edits ≡ length edits + 1 = omega arith in at)
