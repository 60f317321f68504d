-- One edit after the other.
use Rattle.std.proofs.Common.{◌≡◌, ◌≢◌, ℕ, suc, ◌+◌, ◌<◌, List, length, get_or, drop, Option, None, Some, Result, Ok, Err, refl, sym, ap, ◌∙◌, arith}
use Rattle.std.specs.Prelude.{IfOk}
use Rattle.std.proofs.lemmas.List.{at_drop_more}
use Rattle.scene_model.specs.declared.edit.Edit.{Edit}
use Rattle.scene_model.specs.declared.fault.SceneFault.{SceneFault}
use Rattle.scene_model.specs.declared.fault.SceneFault.TheVariants.{UnknownNode, UnknownEdge, NodeExists, NodeInUse, SameNode, OutOfRange, PinOutside, UnknownPinClass, NoSuchPlace, TooMany, PinInUse, Memory}
use Rattle.scene_model.specs.Scene.{Scene}
use Rattle.scene_model.specs.Edits.{changed, refusal, IsDone}
use Rattle.scene_model.specs.Inverses.{redone}
use Rattle.preview.specs.Previews.{first_refused, refused_or}

module _ (edits : List Edit) (i : ℕ) (d : Edit) (s : Scene) (l : i < length edits) where
  -- an edit that is done leaves those after it
  pub done_refused : (next : Scene) → refusal (get_or edits i d) s ≡ None → next ≡ changed (get_or edits i d) s →
      first_refused (suc i) (drop i edits) s ≡ first_refused (suc (i + 1)) (drop (i + 1) edits) next
  done_refused next free is =
      at_drop_more (λ es. first_refused (suc i) es s) edits i d l
      ∙ ap (λ r. refused_or (suc i) r (first_refused (suc (suc i)) (drop (i + 1) edits) (changed (get_or edits i d) s))) free
      ∙ ap (λ n. first_refused (suc n) (drop (i + 1) edits) (changed (get_or edits i d) s)) (let e : suc i ≡ i + 1 = omega arith in e)
      ∙ ap (first_refused (suc (i + 1)) (drop (i + 1) edits)) (sym is)

  pub done_left : (next : Scene) → next ≡ changed (get_or edits i d) s → redone (drop i edits) s ≡ redone (drop (i + 1) edits) next
  done_left next is = at_drop_more (λ es. redone es s) edits i d l ∙ ap (redone (drop (i + 1) edits)) (sym is)

  -- one that is refused is the first
  pub first_stop : (fault : SceneFault) → refusal (get_or edits i d) s ≡ Some fault → first_refused (suc i) (drop i edits) s ≡ Some (i + 1, fault)
  first_stop fault why =
      at_drop_more (λ es. first_refused (suc i) es s) edits i d l
      ∙ ap (λ r. refused_or (suc i) r (first_refused (suc (suc i)) (drop (i + 1) edits) (changed (get_or edits i d) s))) why
      ∙ ap (λ n. Some (n, fault)) (let e : suc i ≡ i + 1 = omega arith in e)

-- a fault that is not out of memory is the refusal
pub refused_so : (r : Option SceneFault) (after old new : Scene) (fault : SceneFault) → fault ≢ Memory → IsDone r after old new (Err fault) → r ≡ Some fault
refused_so r after old new (UnknownNode id) n h = h.0
refused_so r after old new (UnknownEdge number) n h = h.0
refused_so r after old new (NodeExists id) n h = h.0
refused_so r after old new (NodeInUse edge) n h = h.0
refused_so r after old new (SameNode id) n h = h.0
refused_so r after old new (OutOfRange word) n h = h.0
refused_so r after old new (PinOutside place) n h = h.0
refused_so r after old new (UnknownPinClass class) n h = h.0
refused_so r after old new (NoSuchPlace place) n h = h.0
refused_so r after old new (TooMany limit) n h = h.0
refused_so r after old new (PinInUse edge) n h = h.0
refused_so r after old new Memory n h = absurd (n refl)

pub IfOk-weaker : {A E : Type 0} (P Q : A → Type 0) (r : Result A E) → ((a : A) → P a → Q a) → IfOk r P → IfOk r Q
IfOk-weaker P Q (Ok a) f h = f a h
IfOk-weaker P Q (Err e) f h = tt
