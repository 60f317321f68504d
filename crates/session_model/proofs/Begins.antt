-- One edit more at the end.
use Rattle.std.proofs.Common.{◌≡◌, List, [], ◌∷◌, ◌++◌, None, sym, ap, ◌∙◌}
use Rattle.scene_model.specs.declared.edit.Edit.{Edit}
use Rattle.scene_model.specs.declared.edit.Inverse.{Inverse}
use Rattle.scene_model.specs.Scene.{Scene}
use Rattle.scene_model.specs.Edits.{changed, refusal, IsDirected}
use Rattle.scene_model.specs.Inverses.{inverse_of, Leads}
use Rattle.scene_model.proofs.TakingBack.Chains.{leads_back}
use Rattle.session_model.specs.Txn.{KeepsBegin, LeadsBackAndForth}

leads_more : (s : Scene) (es : List Edit) (is : List Inverse) (n : Scene) (e : Edit) → IsDirected e → refusal e n ≡ None → Leads s es is n
    → Leads s (es ++ e ∷ []) (is ++ inverse_of e n ∷ []) (changed e n)
leads_more s [] [] n e directed free h = (directed, ap (refusal e) (sym h) ∙ free, ap (inverse_of e) h, ap (changed e) h)
leads_more s [] (i ∷ is) n e directed free h = elim h [ ]
leads_more s (d ∷ es) [] n e directed free h = elim h [ ]
leads_more s (d ∷ es) (i ∷ is) n e directed free h = (h.0, h.1, h.2, leads_more (changed d s) es is n e directed free h.3)

pub keeps_begin : KeepsBegin
keeps_begin s e t directed free h = leads_more s t.forth t.back t.working e directed free h

pub back_and_forth : LeadsBackAndForth
back_and_forth s t valid h = let all = leads_back s t.working t.forth t.back valid h in (all.2, all.1)
