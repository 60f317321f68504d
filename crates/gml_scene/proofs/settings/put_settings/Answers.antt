-- The first list of the key is changed in its place, if there is one.
use Rattle.std.proofs.Common.{sym, ap, ◌∙◌, arith}
use Rattle.std.specs.Prelude.{codes}
use Rattle.gml_text.specs.View.{pairs}
use Rattle.gml_scene.specs.Changes.{list_place}
use Rattle.gml_scene.specs.Tree.{put_settings}
use Rattle.gml_scene.proofs.PairLists.{place_within, changed_here, no_place}
use Rattle.gml_scene.proofs.Walks.{on_ok}
use Rattle.gml_scene.proofs.settings.put_settings.Goals as goal

pub index_mut-requires : goal.index_mut-requires
index_mut-requires c =
    let within = place_within (codes "router") c.deref.result.now c.in-Some.index (sym c.in-Some.ensures) in
    omega (arith, within, c.deref.ensures.len)

pub returns-in-Some : goal.returns-in-Some
returns-in-Some c =
    let place = sym (c.in-Some.ensures ∙ ap (λ ps. list_place (codes "router") (pairs ps)) c.deref.ensures.value) in
    on_ok c.put_settings_in.result
    (λ h. changed_here (codes "router") (put_settings c.args.was c.args.now) c.args.graph.now.items c.in-Some.index c.index_mut.result.now c.put_settings_in.new.value place c.index_mut.ensures.value h)
    c.put_settings_in.ensures

pub returns-in-None : goal.returns-in-None
returns-in-None c = sym (no_place (codes "router") (put_settings c.args.was c.args.now) (pairs c.args.graph.now.items) (sym (ap (λ ps. list_place (codes "router") (pairs ps)) c.deref.ensures.value) ∙ sym c.list_place.ensures ∙ c.in-None.is))
