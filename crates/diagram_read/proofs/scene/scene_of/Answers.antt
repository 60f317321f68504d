-- Before any node and edge the scene has none.
use Rattle.std.proofs.Common.{length, suc, ap, sym, ◌∙◌, arith}
use Rattle.std.specs.Prelude.{codes}
use Rattle.std.specs.List.{sum_by}
use Rattle.gml_text.specs.View.{pairs}
use Rattle.scene_model.specs.declared.node.Node.{Node}
use Rattle.scene_model.specs.declared.edge.Edge.{Edge}
use Rattle.diagram_read.specs.Values.{list_at}
use Rattle.diagram_read.proofs.SettingsRead.{still_empty}
use Rattle.diagram_read.proofs.scene.scene_of.Goals as goal

pub invariant_of-reader : goal.invariant_of-reader
invariant_of-reader c =
    let lists = still_empty (list_at (codes "router") (pairs c.in_ok-graph.graph.now)) c.new-scene.result c.load_settings.new.scene c.new-scene.ensures c.in_ok-load_settings.ensures in
    record {
      nodes_counted = sym (ap length lists.nodes);
      pins_counted = sym (ap (sum_by (λ (n : Node). length n.pins)) lists.nodes);
      edges_counted = sym (ap length lists.edges);
      via_counted = sym (ap (sum_by (λ (e : Edge). length e.via)) lists.edges);
      few_pins = omega arith;
      few_via = omega arith;
      numbered = lists.next ∙ sym (ap (λ es. suc (length es)) lists.edges);
    }
