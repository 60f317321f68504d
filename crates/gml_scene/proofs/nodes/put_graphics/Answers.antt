-- The first list of the key is changed in its place, if there is one.
use Rattle.std.proofs.Common.{sym, ap, ◌∙◌, arith}
use Rattle.std.specs.Prelude.{codes}
use Rattle.gml_text.specs.View.{pairs}
use Rattle.gml_scene.specs.Changes.{list_place}
use Rattle.gml_scene.specs.Nodes.{put_box}
use Rattle.gml_scene.proofs.PairLists.{place_within, changed_here, no_place}
use Rattle.gml_scene.proofs.Walks.{on_ok}
use Rattle.gml_scene.proofs.nodes.put_graphics.Goals as goal

pub index_mut-requires : goal.index_mut-requires
index_mut-requires c =
    let within = place_within (codes "graphics") c.deref.result.now c.in-Some.index (sym c.in-Some.ensures) in
    omega (arith, within, c.deref.ensures.len)

pub returns-in-Some : goal.returns-in-Some
returns-in-Some c =
    let place = sym (c.in-Some.ensures ∙ ap (λ ps. list_place (codes "graphics") (pairs ps)) c.deref.ensures.value) in
    on_ok c.put_box_in.result
    (λ h. changed_here (codes "graphics") (put_box c.args.was.now c.args.node.now) c.args.list.now.items c.in-Some.index c.index_mut.result.now c.put_box_in.new.value place c.index_mut.ensures.value h)
    c.put_box_in.ensures

pub returns-in-None : goal.returns-in-None
returns-in-None c = sym (no_place (codes "graphics") (put_box c.args.was.now c.args.node.now) (pairs c.args.list.now.items) (sym (ap (λ ps. list_place (codes "graphics") (pairs ps)) c.deref.ensures.value) ∙ sym c.list_place.ensures ∙ c.in-None.is))
