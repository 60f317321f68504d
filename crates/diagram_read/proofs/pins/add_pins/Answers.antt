-- Pair by pair, what was read is what the list has.
use Rattle.std.proofs.Common.{◌+◌, drop, ap, sym, ◌∙◌}
use Rattle.std.specs.Prelude.{codes}
use Rattle.scene_model.specs.declared.node.Node.{Node}
use Rattle.gml_text.specs.View.{content, pairs}
use Rattle.diagram_read.specs.Nodes.{with_pin}
use Rattle.diagram_read.specs.Faults.{each}
use Rattle.diagram_read.specs.Values.{values_at}
use Rattle.diagram_read.proofs.Lists.{values_here, values_past}
use Rattle.diagram_read.proofs.Steps.{one_more}
use Rattle.diagram_read.proofs.pins.add_pins.Goals as goal
use Rattle.diagram_read.proofs.pins.add_pins.Goals.{then-has_key+in_ok-add_pin, else-has_key}

pub loop-pair-preserved : goal.loop-pair-preserved
loop-pair-preserved c =
    let key = codes "pin" in
    let list = c.args.list.now in
    let i = c.loop-pair.pair-index in
    let p = c.pair-item.result in
    let so_far = c.loop-pair.node in
    let within = c.loop-pair-test.true in
    let is = c.pair-item.is in
    let step = with_pin c.args.place c.args.before in
    let rest = values_at key (pairs (drop (i + 1) list)) in
    elim c.if-has_key.branch [
      | then-has_key+in_ok-add_pin w ↦
          (let here = values_here key list i p within is (sym c.has_key.ensures ∙ w.if-has_key.true) in
          one_more step (each step c.args.node.now (values_at key (pairs list))) so_far w.add_pin.new.node (content p.value) rest (c.loop-pair.invariant ∙ ap (each step so_far) here) w.in_ok-add_pin.ensures
          ∙ ap (λ (n : Node). each step n rest) (sym w.node-is))
      | else-has_key w ↦
          c.loop-pair.invariant
          ∙ ap (each step so_far) (values_past key list i p within is (sym c.has_key.ensures ∙ w.if-has_key.false))
          ∙ ap (λ (n : Node). each step n rest) (sym w.node-is)
    ]
