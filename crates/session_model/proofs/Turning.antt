-- A history through commits, undos and redos.
use Rattle.std.proofs.Common.{◌≡◌, ℕ, zero, suc, List, [], ◌∷◌, take, None, Result, Ok, refl, sym, ap, subst, ◌∙◌}
use Rattle.std.specs.List.{AllByRecursion as Each}
use Rattle.walk_model.specs.declared.route.Answer.{Answer}
use Rattle.scene_model.specs.declared.edit.Edit.{Edit}
use Rattle.scene_model.specs.declared.edit.Inverse.{Inverse}
use Rattle.scene_model.specs.declared.edit.Command.TheVariants.{Undo, Redo}
use Rattle.scene_model.specs.Scene.{Scene}
use Rattle.scene_model.specs.Valid.{IsValid}
use Rattle.scene_model.specs.Inverses.{taken_back, redone}
use Rattle.scene_model.specs.World.{World, CommandRefusal, step}
use Rattle.scene_model.proofs.TakingBack.Chains.{leads_back}
use Rattle.undo_log.specs.declared.step.Step.{Step}
use Rattle.undo_log.specs.Log.{most_steps}
use Rattle.undo_log.specs.Lending.{gone_back, gone_forth}
use Rattle.session_model.specs.History.{IsStep, befores, afters, world_of, LeadBack, LeadOn, IsHistory, IsTurned, CommitsExtendPast, UndosGoBack, RedosGoOn, ScenesAreValid}

abbrev done : World → Result World CommandRefusal
done w = Ok w

-- fewer steps lead to fewer scenes
befores-take : {C : Type 0} (m : ℕ) (ts : List (Step C)) (s : Scene) → befores (take m ts) s ≡ take m (befores ts s)
befores-take zero ts s = refl
befores-take (suc m) [] s = refl
befores-take (suc m) (t ∷ ts) s = ap (λ l. taken_back t.back s ∷ l) (befores-take m ts (taken_back t.back s))

-- the inverses of a step lead to the scene before it, its edits to the one after it, which is valid
pub step_leads_back : {before after : Scene} {forth : List Edit} {back : List Inverse} {these those : List Answer} → IsStep before forth back after these those → taken_back back after ≡ before
step_leads_back {before} {after} {forth} {back} h = (leads_back before after forth back h.valid h.leads).2

pub step_leads_on : {before after : Scene} {forth : List Edit} {back : List Inverse} {these those : List Answer} → IsStep before forth back after these those → redone forth before ≡ after
step_leads_on {before} {after} {forth} {back} h = (leads_back before after forth back h.valid h.leads).1

pub step_stays_valid : {before after : Scene} {forth : List Edit} {back : List Inverse} {these those : List Answer} → IsStep before forth back after these those → IsValid after
step_stays_valid {before} {after} {forth} {back} h = (leads_back before after forth back h.valid h.leads).0

module _ {C : Type 0} (here there : C → List Answer) where
  fewer : (m : ℕ) (ts : List (Step C)) (s : Scene) → LeadBack here there ts s → LeadBack here there (take m ts) s
  fewer zero ts s h = tt
  fewer (suc m) [] s h = tt
  fewer (suc m) (t ∷ ts) s h = (h.0, fewer m ts (taken_back t.back s) h.1)

  pub extends_past : CommitsExtendPast here there
  extends_past l s new t h is =
      let b : taken_back t.back new ≡ s = step_leads_back is in
      let joined : IsStep (taken_back t.back new) t.forth t.back new (there t.changes) (here t.changes) =
      subst (λ x. IsStep x t.forth t.back new (there t.changes) (here t.changes)) (sym b) is in
      let behind : LeadBack here there l.past (taken_back t.back new) = subst (LeadBack here there l.past) (sym b) h.behind in
      let scenes : befores (take most_steps (t ∷ l.past)) new ≡ take 100 (s ∷ befores l.past s) =
      befores-take most_steps (t ∷ l.past) new ∙ ap (λ x. take 100 (x ∷ befores l.past x)) b in (
        record { behind = fewer most_steps (t ∷ l.past) new (joined, behind); ahead = tt },
        ap (λ past. done (record { past = past; present = new; future = []; working = None })) (sym scenes),
      )

  -- the step that was undone leads on again
  ahead_again : (t u : Step C) (s : Scene) → IsTurned here there t u → IsStep (taken_back t.back s) t.forth t.back s (there t.changes) (here t.changes)
      → (redone u.forth (taken_back t.back s) ≡ s) × IsStep (taken_back t.back s) u.forth u.back s (here u.changes) (there u.changes)
  ahead_again t u s turned is =
      let these = subst (λ x. IsStep (taken_back t.back s) x t.back s (there t.changes) (here t.changes)) (sym turned.forth) is in
      let those = subst (λ x. IsStep (taken_back t.back s) u.forth x s (there t.changes) (here t.changes)) (sym turned.back) these in
      let right = subst (λ x. IsStep (taken_back t.back s) u.forth u.back s x (here t.changes)) (sym turned.here_is_there) those in
      let all = subst (λ x. IsStep (taken_back t.back s) u.forth u.back s (here u.changes) x) (sym turned.there_is_here) right in
      (step_leads_on all, all)

  -- the step that was done again leads back again
  behind_again : (t u : Step C) (s : Scene) → IsTurned here there t u → IsStep s t.forth t.back (redone t.forth s) (here t.changes) (there t.changes)
      → (taken_back u.back (redone t.forth s) ≡ s) × IsStep s u.forth u.back (redone t.forth s) (there u.changes) (here u.changes)
  behind_again t u s turned is =
      let these = subst (λ x. IsStep s x t.back (redone t.forth s) (here t.changes) (there t.changes)) (sym turned.forth) is in
      let those = subst (λ x. IsStep s u.forth x (redone t.forth s) (here t.changes) (there t.changes)) (sym turned.back) these in
      let right = subst (λ x. IsStep s u.forth u.back (redone t.forth s) x (there t.changes)) (sym turned.there_is_here) those in
      let all = subst (λ x. IsStep s u.forth u.back (redone t.forth s) (there u.changes) x) (sym turned.here_is_there) right in
      (step_leads_back all, all)

  -- the history and the world after the step has gone over
  abbrev IsUndone : List (Step C) → List (Step C) → Scene → Step C → Scene → Type 0
  IsUndone past future s u before =
      IsHistory here there (gone_back (record { past = past; future = future }) u) before
      × (step Undo (world_of (record { past = past; future = future }) s None) ≡ Ok (world_of (gone_back (record { past = past; future = future }) u) before None))

  undone : (past future : List (Step C)) (s : Scene) (t u : Step C) → LeadBack here there (t ∷ past) s → LeadOn here there future s → IsTurned here there t u
      → IsUndone (t ∷ past) future s u (taken_back t.back s)
  undone past future s t u behind ahead turned =
      let b = taken_back t.back s in
      let again = ahead_again t u s turned behind.0 in
      let next : IsStep b u.forth u.back (redone u.forth b) (here u.changes) (there u.changes) =
      subst (λ x. IsStep b u.forth u.back x (here u.changes) (there u.changes)) (sym again.0) again.1 in
      let on : LeadOn here there future (redone u.forth b) = subst (LeadOn here there future) (sym again.0) ahead in (
        record { behind = behind.1; ahead = (next, on) },
        ap (λ x. done (record { past = befores past b; present = b; future = x ∷ afters future x; working = None })) (sym again.0),
      )

  pub goes_back : UndosGoBack here there
  goes_back l s t u ts h is turned =
      subst (λ x. IsUndone x l.future s u (taken_back t.back s)) (sym is)
      (undone ts l.future s t u (subst (λ x. LeadBack here there x s) is h.behind) h.ahead turned)

  abbrev IsDoneAgain : List (Step C) → List (Step C) → Scene → Step C → Scene → Type 0
  IsDoneAgain past future s u next =
      IsHistory here there (gone_forth (record { past = past; future = future }) u) next
      × (step Redo (world_of (record { past = past; future = future }) s None) ≡ Ok (world_of (gone_forth (record { past = past; future = future }) u) next None))

  done_again : (past future : List (Step C)) (s : Scene) (t u : Step C) → LeadBack here there past s → LeadOn here there (t ∷ future) s → IsTurned here there t u
      → IsDoneAgain past (t ∷ future) s u (redone t.forth s)
  done_again past future s t u behind ahead turned =
      let n = redone t.forth s in
      let again = behind_again t u s turned ahead.0 in
      let before : IsStep (taken_back u.back n) u.forth u.back n (there u.changes) (here u.changes) =
      subst (λ x. IsStep x u.forth u.back n (there u.changes) (here u.changes)) (sym again.0) again.1 in
      let back : LeadBack here there past (taken_back u.back n) = subst (LeadBack here there past) (sym again.0) behind in (
        record { behind = (before, back); ahead = ahead.1 },
        ap (λ x. done (record { past = x ∷ befores past x; present = n; future = afters future n; working = None })) (sym again.0),
      )

  pub goes_on : RedosGoOn here there
  goes_on l s t u ts h is turned =
      subst (λ x. IsDoneAgain l.past x s u (redone t.forth s)) (sym is)
      (done_again l.past ts s t u h.behind (subst (λ x. LeadOn here there x s) is h.ahead) turned)

  befores_valid : (ts : List (Step C)) (s : Scene) → LeadBack here there ts s → Each IsValid (befores ts s)
  befores_valid [] s h = tt
  befores_valid (t ∷ ts) s h = (h.0.valid, befores_valid ts (taken_back t.back s) h.1)

  afters_valid : (ts : List (Step C)) (s : Scene) → LeadOn here there ts s → Each IsValid (afters ts s)
  afters_valid [] s h = tt
  afters_valid (t ∷ ts) s h = (step_stays_valid h.0, afters_valid ts (redone t.forth s) h.1)

  pub are_valid : ScenesAreValid here there
  are_valid l s working h valid w = record {
    past = befores_valid l.past s h.behind;
    present = valid;
    future = afters_valid l.future s h.ahead;
    working = w;
  }
