-- The inverses of a step may be applied one after another, and so may its edits.
use Rattle.std.proofs.Common.{◌≡◌, ℕ, zero, suc, ◌-◌, ◌<◌, List, [], ◌∷◌, drop, slice_get, Some, sym, subst, arith}
use Rattle.scene_model.specs.declared.edit.Edit.{Edit}
use Rattle.scene_model.specs.declared.edit.Inverse.{Inverse}
use Rattle.scene_model.specs.Scene.{Scene}
use Rattle.scene_model.specs.Valid.{IsValid}
use Rattle.scene_model.specs.Edits.{changed}
use Rattle.scene_model.specs.Inverses.{IsRestorable, Leads, inverse_of, taken_back}
use Rattle.scene_model.proofs.TakingBack.Chains.{leads_back}
use Rattle.scene_model.proofs.Editing.Validity.{keeps_valid}
use Rattle.scene_model.proofs.TakingBack.Restoring.{takes_back}
use Rattle.route_session.specs.Upheld.{AreRestorable, AreFree}

pub restorable : (s : Scene) (es : List Edit) (is : List Inverse) (n : Scene) → IsValid s → Leads s es is n → AreRestorable is n
restorable s es [] n valid h = tt
restorable s [] (i ∷ is) n valid h = elim h [ ]
restorable s (e ∷ es) (i ∷ is) n valid h =
    let next = keeps_valid e s h.0 valid h.1 in
    let back : taken_back is n ≡ changed e s = (leads_back (changed e s) n es is next h.3).2 in
    let undo = takes_back e s valid h.1 in
    let here : IsRestorable (inverse_of e s) (changed e s) = record { fits = undo.0; valid = subst IsValid (sym undo.1) valid } in (
      subst (λ x. IsRestorable x (taken_back is n)) (sym h.2) (subst (IsRestorable (inverse_of e s)) (sym back) here),
      restorable (changed e s) es is n next h.3,
    )

pub free : (s : Scene) (es : List Edit) (is : List Inverse) (n : Scene) → Leads s es is n → AreFree es s
free s [] is n h = tt
free s (e ∷ es) [] n h = elim h [ ]
free s (e ∷ es) (i ∷ is) n h = (h.0, h.1, free (changed e s) es is n h.3)

-- the inverse at a place may be applied after those that follow it
restorable_at : (is : List Inverse) (s : Scene) (k : ℕ) (i : Inverse) → AreRestorable is s → slice_get is k ≡ Some i → IsRestorable i (taken_back (drop (suc k) is) s)
restorable_at [] s k i all at = cc
restorable_at (j ∷ is) s zero i all at = let same : j ≡ i = cc in subst (λ x. IsRestorable x (taken_back is s)) same all.0
restorable_at (j ∷ is) s (suc k) i all at = restorable_at is s k i all.1 at

pub restorable_before : (is : List Inverse) (s before : Scene) (place : ℕ) (i : Inverse) → AreRestorable is s → slice_get is (place - 1) ≡ Some i → 0 < place
    → before ≡ taken_back (drop place is) s → IsRestorable i before
restorable_before is s before place i all at some same =
    let next : suc (place - 1) ≡ place = omega arith in
    let there : IsRestorable i (taken_back (drop place is) s) = subst (λ k. IsRestorable i (taken_back (drop k is) s)) next (restorable_at is s (place - 1) i all at) in
    subst (IsRestorable i) (sym same) there
