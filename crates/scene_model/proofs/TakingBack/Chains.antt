-- Edits in a row, there and back.
use Rattle.std.proofs.Common.{◌≡◌, List, [], ◌∷◌, sym, ap, subst, ◌∙◌}
use Rattle.scene_model.specs.declared.edit.Edit.{Edit}
use Rattle.scene_model.specs.declared.edit.Inverse.{Inverse}
use Rattle.scene_model.specs.Scene.{Scene}
use Rattle.scene_model.specs.Valid.{IsValid}
use Rattle.scene_model.specs.Edits.{changed}
use Rattle.scene_model.specs.Inverses.{restored, inverse_of, Leads, taken_back, redone, LeadsBack}
use Rattle.scene_model.proofs.Editing.Validity.{keeps_valid}
use Rattle.scene_model.proofs.TakingBack.Restoring.{takes_back}

-- the edits give the scene after
gives_after : (s : Scene) (es : List Edit) (is : List Inverse) (n : Scene) → Leads s es is n → redone es s ≡ n
gives_after s [] [] n h = sym h
gives_after s [] (i ∷ is) n h = elim h [ ]
gives_after s (e ∷ es) [] n h = elim h [ ]
gives_after s (e ∷ es) (i ∷ is) n h = gives_after (changed e s) es is n h.3

-- all scenes on the way are valid
leads_valid : (s : Scene) (es : List Edit) (is : List Inverse) (n : Scene) → IsValid s → Leads s es is n → IsValid n
leads_valid s [] [] n valid h = subst IsValid (sym h) valid
leads_valid s [] (i ∷ is) n valid h = elim h [ ]
leads_valid s (e ∷ es) [] n valid h = elim h [ ]
leads_valid s (e ∷ es) (i ∷ is) n valid h = leads_valid (changed e s) es is n (keeps_valid e s h.0 valid h.1) h.3

-- the inverses, from the last to the first, give back the scene before
gives_back : (s : Scene) (es : List Edit) (is : List Inverse) (n : Scene) → IsValid s → Leads s es is n → taken_back is n ≡ s
gives_back s [] [] n valid h = h
gives_back s [] (i ∷ is) n valid h = elim h [ ]
gives_back s (e ∷ es) [] n valid h = elim h [ ]
gives_back s (e ∷ es) (i ∷ is) n valid h =
    let before = gives_back (changed e s) es is n (keeps_valid e s h.0 valid h.1) h.3 in
    ap (λ j. restored j (taken_back is n)) h.2 ∙ ap (restored (inverse_of e s)) before ∙ (takes_back e s valid h.1).1

pub leads_back : LeadsBack
leads_back s end es is valid h = (leads_valid s es is end valid h, gives_after s es is end h, gives_back s es is end valid h)
