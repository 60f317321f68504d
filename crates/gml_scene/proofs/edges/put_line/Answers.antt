-- The line is put into the first `graphics`, or into one that goes last.
use Rattle.std.proofs.Common.{sym, ap, ◌∙◌, arith}
use Rattle.std.specs.Prelude.{codes, option_map}
use Rattle.gml_text.specs.View.{pairs}
use Rattle.gml_scene.specs.Changes.{list_place}
use Rattle.gml_scene.specs.Edges.{put_line_in}
use Rattle.gml_scene.proofs.PairLists.{place_within, changed_here}
use Rattle.gml_scene.proofs.LinesPut.{line_here, line_last}
use Rattle.gml_scene.proofs.Walks.{on_ok}
use Rattle.gml_scene.proofs.edges.put_line.Goals as goal

pub index_mut-requires : goal.index_mut-requires
index_mut-requires c =
    let within = place_within (codes "graphics") c.deref.result.now c.in-Some.index (sym c.in-Some.ensures) in
    omega (arith, within, c.deref.ensures.len)

pub returns-in-Some : goal.returns-in-Some
returns-in-Some c =
    let line = option_map (λ l. l.now) c.args.line in
    let ps = c.args.list.now.items in
    let place = sym (c.in-Some.ensures ∙ ap (λ qs. list_place (codes "graphics") (pairs qs)) c.deref.ensures.value) in
    on_ok c.put_line_in.result
    (λ h. changed_here (codes "graphics") (put_line_in line) ps c.in-Some.index c.index_mut.result.now c.put_line_in.new.value place c.index_mut.ensures.value h
    ∙ line_here line (pairs ps) c.in-Some.index place)
    c.put_line_in.ensures

pub returns-in-None : goal.returns-in-None
returns-in-None c =
    let line = option_map (λ l. l.now) c.args.line in
    let ps = c.args.list.now.items in
    on_ok c.push_line.result
    (λ h. h ∙ line_last line (pairs ps) (sym (ap (λ qs. list_place (codes "graphics") (pairs qs)) c.deref.ensures.value) ∙ sym c.list_place.ensures ∙ c.in-None.is))
    c.push_line.ensures
