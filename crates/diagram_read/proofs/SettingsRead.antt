-- Settings that are read leave the lists of a scene as they were.
use Rattle.std.proofs.Common.{◌≡◌, Option, Some, None, Result, Ok, Err, refl, subst}
use Rattle.std.specs.Prelude.{ℤ, codes, option_map, IfOk}
use Rattle.fixed_milli.specs.declared.milli.MilliFault.{MilliFault}
use Rattle.fixed_milli.specs.declared.milli.MilliFault.TheVariants as milli
use Rattle.gml_text.specs.Tree.{Pairs}
use Rattle.scene_model.specs.declared.settings.Setting.{Setting}
use Rattle.scene_model.specs.declared.settings.Setting.TheVariants.{Penalty, Buffer, Nudge}
use Rattle.scene_model.specs.declared.edit.Edit.TheVariants.{Set}
use Rattle.scene_model.specs.Scene.{Scene, empty_scene}
use Rattle.scene_model.specs.Edits.{changed, out_of_limits}
use Rattle.diagram_read.specs.declared.fault.Part.TheVariants.{Router}
use Rattle.diagram_read.specs.declared.fault.DiagramFault.TheVariants.{OutOfRange}
use Rattle.diagram_read.specs.Settings.{with_setting_read, with_setting_at, with_settings_in}
use Rattle.diagram_read.specs.Values.{value_at, milli_of}
use Rattle.diagram_read.proofs.Steps.{bound, chosen, ok_holds}

pub record HasLists (s t : Scene) : Type 0 where
  pub nodes : t.nodes ≡ s.nodes
  pub edges : t.edges ≡ s.edges
  pub next : t.next_edge ≡ s.next_edge

one_keeps : (what : Setting) (s t : Scene) (o : Option (Result ℤ MilliFault)) → HasLists s t → IfOk (with_setting_read what t o) (HasLists s)
one_keeps what s t None same = same
one_keeps what s t (Some (Err milli.NotNumber)) same = tt
one_keeps what s t (Some (Err milli.OutOfRange)) same = tt
one_keeps what s t (Some (Ok value)) same =
    chosen _ (out_of_limits what value) (Err (OutOfRange Router 0)) (Ok (changed (Set what value) t)) (λ far. tt) (λ near. record { nodes = same.nodes; edges = same.edges; next = same.next })

all_keep : (o : Option Pairs) (s : Scene) → IfOk (with_settings_in o s) (HasLists s)
all_keep None s = record { nodes = refl; edges = refl; next = refl }
all_keep (Some router) s =
    bound _ (with_setting_at Penalty (codes "penalty") router s) _ (λ first a.
    bound _ (with_setting_at Buffer (codes "buffer") router first) _ (λ second b.
    let one = ok_holds (with_setting_at Penalty (codes "penalty") router s) first (HasLists s) a (one_keeps Penalty s s (option_map milli_of (value_at (codes "penalty") router)) (record { nodes = refl; edges = refl; next = refl })) in
    let two = ok_holds (with_setting_at Buffer (codes "buffer") router first) second (HasLists s) b (one_keeps Buffer s first (option_map milli_of (value_at (codes "buffer") router)) one) in
    one_keeps Nudge s second (option_map milli_of (value_at (codes "nudge") router)) two))

-- so an empty scene has none yet
pub still_empty : (o : Option Pairs) (s t : Scene) → s ≡ empty_scene → with_settings_in o s ≡ Ok t → HasLists empty_scene t
still_empty o s t empty is = subst (λ (e : Scene). HasLists e t) empty (ok_holds (with_settings_in o s) t (HasLists s) is (all_keep o s))
