-- Transactions.
use Rattle.std.specs.Prelude.{◌≡◌, List, [], ◌∷◌, ◌++◌, None}
use Rattle.scene_model.specs.declared.edit.Edit.{Edit}
use Rattle.scene_model.specs.declared.edit.Inverse.{Inverse}
use Rattle.scene_model.specs.Scene.{Scene}
use Rattle.scene_model.specs.Valid.{IsValid}
use Rattle.scene_model.specs.Edits.{changed, refusal, IsDirected}
use Rattle.scene_model.specs.Inverses.{inverse_of, Leads, taken_back, redone}

-- the working scene, the inverses of the edits, and the edits, both in the order of the edits
pub record Transaction : Type 0 where
  pub working : Scene
  pub back : List Inverse
  pub forth : List Edit

-- the transaction before any edit
abbrev pub begun : Scene → Transaction
begun s = record { working = s; back = []; forth = [] }

-- the transaction after an edit that is not refused
abbrev pub applied : Edit → Transaction → Transaction
applied e t = record { working = changed e t.working; back = t.back ++ inverse_of e t.working ∷ []; forth = t.forth ++ e ∷ [] }

-- the edits, none of which is refused, lead from the scene to the working one, and these are their inverses
abbrev pub BeganOn : Scene → Transaction → Type 0
BeganOn s t = Leads s t.forth t.back t.working

-- the law: a transaction that has begun on a scene remains one of that scene after each edit that is not refused
abbrev pub KeepsBegin : Type 0
KeepsBegin = (s : Scene) (e : Edit) (t : Transaction) → IsDirected e → refusal e t.working ≡ None → BeganOn s t → BeganOn s (applied e t)

-- the law: its inverses, from last to first, restore the scene, and its edits give the working scene again
abbrev pub LeadsBackAndForth : Type 0
LeadsBackAndForth = (s : Scene) (t : Transaction) → IsValid s → BeganOn s t → (taken_back t.back t.working ≡ s) × (redone t.forth s ≡ t.working)
