-- No refusal is out of memory.
use Rattle.std.proofs.Common.{◌≡◌, ℕ, suc, List, [], ◌∷◌, Option, None, Some, ap, subst}
use Rattle.std.specs.Prelude.{option_map}
use Rattle.scene_model.specs.declared.edit.Edit.{Edit}
use Rattle.scene_model.specs.declared.fault.SceneFault.{SceneFault}
use Rattle.scene_model.specs.declared.fault.SceneFault.TheVariants.{Memory}
use Rattle.scene_model.specs.Scene.{Scene}
use Rattle.scene_model.specs.Edits.{changed, refusal}
use Rattle.scene_store.proofs.Memory.{calm_edit}
use Rattle.preview.specs.Previews.{RefusalsHoldNoMemory, first_refused, refused_or}

-- where neither this edit nor a later one is
none_of_both : (place at : ℕ) (r : Option SceneFault) (later : Option (ℕ × SceneFault)) → (r ≡ Some Memory → ⊥) → (later ≡ Some (at, Memory) → ⊥) →
    refused_or place r later ≡ Some (at, Memory) → ⊥
none_of_both place at (Some fault) later this others h = this (ap (option_map (λ (p : ℕ × SceneFault). p.1)) h)
none_of_both place at None later this others h = others h

none_of_all : (place at : ℕ) (edits : List Edit) (s : Scene) → first_refused place edits s ≡ Some (at, Memory) → ⊥
none_of_all place at [] s h = cc
none_of_all place at (e ∷ es) s h =
    none_of_both place at (refusal e s) (first_refused (suc place) es (changed e s)) (calm_edit e s) (none_of_all (suc place) at es (changed e s)) h

pub no_memory : RefusalsHoldNoMemory
no_memory s answers edits place fault h = λ (is : fault ≡ Memory). none_of_all 1 place edits s (subst (λ f. first_refused 1 edits s ≡ Some (place, f)) is h)
