-- Node by node, what was read is what the graph has.
use Rattle.std.proofs.Common.{◌≡◌, ◌+◌, ℕ, drop, Ok, ap, sym, subst, ◌∙◌, rules}
use Rattle.std.specs.Prelude.{codes}
use Rattle.gml_text.specs.View.{pairs}
use Rattle.scene_model.specs.Scene.{Scene}
use Rattle.diagram_read.specs.Faults.{each}
use Rattle.diagram_read.specs.Nodes.{with_node_in, with_nodes_in}
use Rattle.diagram_read.specs.Values.{entries_from}
use Rattle.diagram_read.proofs.Lists.{entries_here, entries_past, entries_no}
use Rattle.diagram_read.proofs.Steps.{one_more}
use Rattle.diagram_read.proofs.scene.Reader.load_nodes.Goals as goal
use Rattle.diagram_read.proofs.scene.Reader.load_nodes.Goals.{
  then-has_key+in-Some+in_ok-origin_of+in_ok-load_node,
  else-has_key,
  else-has_key-via-else-has_key,
  else-has_key-via-then-has_key+in-None-1,
}

pub loop-index-preserved : goal.loop-index-preserved
loop-index-preserved c =
    let key = codes "node" in
    let graph = c.args.graph.now in
    let i = c.loop-index.index in
    let p = c.index-graph-index.result in
    let s = c.loop-index.self.scene in
    let within = c.loop-index-test.true in
    let is = c.index-graph-index.is in
    let rest = entries_from (i + 1) key (pairs (drop (i + 1) graph)) in
    elim c.if-has_key.branch [
      | then-has_key+in-Some+in_ok-origin_of+in_ok-load_node w ↦
          (let inner = pairs w.in-Some.list.now in
          let here = entries_here key graph i p inner within is (sym c.has_key.ensures ∙ w.if-has_key.true) (sym w.in-Some.ensures) in
          let read = subst (λ (o : ℕ). with_node_in s (o, inner) ≡ Ok w.load_node.new.self.scene) w.in_ok-origin_of.ensures.ok w.in_ok-load_node.ensures in
          one_more with_node_in (with_nodes_in c.args.self.now.scene (entries_from 0 key (pairs graph))) s w.load_node.new.self.scene (i, inner) rest
          (c.loop-index.invariant ∙ ap (each with_node_in s) here) read
          ∙ ap (λ (r : Scene). with_nodes_in r rest) (sym (ap (λ r. r.scene) w.self-is)))
      | else-has_key w ↦ elim w.else-has_key.branch [
        | else-has_key-via-else-has_key v ↦
            c.loop-index.invariant
            ∙ ap (with_nodes_in s) (entries_past key graph i p within is (sym c.has_key.ensures ∙ v.if-has_key.false))
            ∙ ap (λ (r : Scene). with_nodes_in r rest) (sym (ap (λ r. r.scene) w.self-is))
        | else-has_key-via-then-has_key+in-None-1 v ↦
            c.loop-index.invariant
            ∙ ap (with_nodes_in s) (entries_no key graph i p within is (search rules))
            ∙ ap (λ (r : Scene). with_nodes_in r rest) (sym (ap (λ r. r.scene) w.self-is))
      ]
    ]
