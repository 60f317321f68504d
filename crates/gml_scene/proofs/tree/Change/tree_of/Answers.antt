-- The graph is changed in its place.
use Rattle.std.proofs.Common.{◌≡◌, take, sym, ap, subst, ◌∙◌, arith, rules}
use Rattle.std.specs.Prelude.{codes, IfOk}
use Rattle.std.proofs.lemmas.List.{length-take}
use Rattle.gml_text.specs.Tree.{◌then◌}
use Rattle.gml_text.specs.View.{pairs}
use Rattle.gml_scene.specs.Tree.{graph_again}
use Rattle.gml_scene.proofs.PairLists.{place_within, no_place}
use Rattle.gml_scene.proofs.Walks.{written_around}
use Rattle.gml_scene.proofs.tree.Change.tree_of.Goals as goal

pub returns-in_default : goal.returns-in_default
returns-in_default c =
    let change = graph_again c.args.self.now.was.now c.args.self.now.scene.now c.args.self.now.labels.now c.args.self.now.routes.now in
    subst (λ ps. IfOk c.copy_pairs.result (λ v. pairs v.items ≡ ps)) (sym (no_place (codes "graph") change (pairs c.args.tree.now) (sym c.list_place.ensures ∙ c.in_default.is))) c.copy_pairs.ensures

pub slice_bounds-push_copies-end : goal.slice_bounds-push_copies-end
slice_bounds-push_copies-end c =
    let within = place_within (codes "graph") c.args.tree.now c.in-Some.index (sym c.in-Some.ensures) in
    let front = length-take c.in-Some.index c.args.tree.now in
    omega (arith, within, front)

pub offset_bounds-tree-index : goal.offset_bounds-tree-index
offset_bounds-tree-index c = let within = place_within (codes "graph") c.args.tree.now c.in-Some.index (sym c.in-Some.ensures) in omega (arith, within)

pub bounds-tree-index : goal.bounds-tree-index
bounds-tree-index c = place_within (codes "graph") c.args.tree.now c.in-Some.index (sym c.in-Some.ensures)

pub overflow_add-index : goal.overflow_add-index
overflow_add-index c = let within = place_within (codes "graph") c.args.tree.now c.in-Some.index (sym c.in-Some.ensures) in omega (arith, within)

pub offset_bounds-tree-index-2 : goal.offset_bounds-tree-index-2
offset_bounds-tree-index-2 c = let within = place_within (codes "graph") c.args.tree.now c.in-Some.index (sym c.in-Some.ensures) in omega (arith, within)

pub slice_bounds-push_copies-count : goal.slice_bounds-push_copies-count
slice_bounds-push_copies-count c = let within = place_within (codes "graph") c.args.tree.now c.in-Some.index (sym c.in-Some.ensures) in omega (arith, within)

pub slice_bounds-push_copies-start : goal.slice_bounds-push_copies-start
slice_bounds-push_copies-start c = let within = place_within (codes "graph") c.args.tree.now c.in-Some.index (sym c.in-Some.ensures) in search (rules, within)

pub returns : goal.returns
returns c =
    written_around (codes "graph") (graph_again c.args.self.now.was.now c.args.self.now.scene.now c.args.self.now.labels.now c.args.self.now.routes.now) c.args.tree.now c.in-Some.index c.index-tree-index.result
    (pairs c.push_copies.new.out.items) (pairs c.push_graph.new.out.items) (pairs c.push_copies-2.new.out.items) (sym c.in-Some.ensures)
    (c.in_ok-push_copies.ensures ∙ ap (λ xs. pairs xs then pairs (take c.in-Some.index c.args.tree.now)) c.new-out.ensures.items)
    c.in_ok-push_graph.ensures c.in_ok-push_copies-2.ensures
