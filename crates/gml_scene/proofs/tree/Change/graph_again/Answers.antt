-- What is kept stands first, then what is appended.
use Rattle.std.proofs.Common.{◌≡◌, ap, ◌∙◌}
use Rattle.std.specs.Prelude.{codes, is_some, if◌then◌else◌}
use Rattle.gml_text.specs.Tree.{no_pairs, ◌then◌}
use Rattle.gml_text.specs.View.{pairs}
use Rattle.diagram_read.specs.Values.{list_at}
use Rattle.gml_scene.specs.Changes.{change_list}
use Rattle.gml_scene.specs.Tree.{kept_from, put_settings, router_pairs, new_nodes, new_edges}
use Rattle.gml_scene.proofs.Walks.{put_together}
use Rattle.gml_scene.proofs.tree.Change.graph_again.Goals as goal

pub returns : goal.returns
returns c =
    let was = c.args.self.now.was.now in
    let s = c.args.self.now.scene.now in
    let labels = c.args.self.now.labels.now in
    let routes = c.args.self.now.routes.now in
    let graph = pairs c.args.graph.now in
    let all = kept_from was s routes 0 graph in
    let set = change_list (codes "router") (put_settings was.settings s.settings) all in
    let has = is_some (list_at (codes "router") graph) in
    let kept : pairs c.push_kept.new.out.items ≡ all = c.in_ok-push_kept.ensures ∙ ap (λ xs. pairs xs then all) c.new-out.ensures.items in
    let changed : pairs c.put_settings.new.graph.items ≡ set =
    c.in_ok-put_settings.ensures
    ∙ ap (λ t. change_list (codes "router") (put_settings t c.settings-settings.result) (pairs c.push_kept.new.out.items)) c.settings.ensures.value
    ∙ ap (λ t. change_list (codes "router") (put_settings was.settings t) (pairs c.push_kept.new.out.items)) c.settings-settings.ensures.value
    ∙ ap (change_list (codes "router") (put_settings was.settings s.settings)) kept in
    let routed : pairs c.push_settings.new.graph.items ≡ set then (if has then no_pairs else router_pairs s.settings) =
    c.in_ok-push_settings.ensures
    ∙ ap (λ ps. ps then (if c.has_list-has_router.result then no_pairs else router_pairs c.settings-settings.result)) changed
    ∙ ap (λ b. set then (if b then no_pairs else router_pairs c.settings-settings.result)) c.has_list-has_router.ensures
    ∙ ap (λ t. set then (if has then no_pairs else router_pairs t)) c.settings-settings.ensures.value in
    put_together set (pairs c.push_settings.new.graph.items) (pairs c.push_new_nodes.new.out.items) (pairs c.push_new_edges.new.out.items)
    (if has then no_pairs else router_pairs s.settings) (new_nodes labels s.nodes) (new_edges labels routes s.edges)
    routed c.in_ok-push_new_nodes.ensures c.in_ok-push_new_edges.ensures
