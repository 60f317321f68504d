-- The steps of a node in order.
use Rattle.std.proofs.lemmas.Int.{ints}
use Rattle.std.proofs.Common.{w64, to_z, of_z, ◌≡◌, ◌+◌, Some, false, ap, sym, subst, ◌∙◌, arith}
use Rattle.std.specs.Prelude.{codes, option_and_then, is_some}
use Rattle.gml_text.specs.View.{pairs}
use Rattle.scene_model.specs.Scene.{node_with}
use Rattle.diagram_read.specs.Faults.{◌>>=◌, each, IsRead}
use Rattle.diagram_read.specs.Nodes.{node_in, with_pin}
use Rattle.diagram_read.specs.Values.{ListEntry, id_of, value_at, values_at}
use Rattle.diagram_read.proofs.NodesRead.{node_read_as, copied}
use Rattle.diagram_read.proofs.Steps.{fault_is, passed_on}
use Rattle.diagram_read.proofs.scene.Reader.node_in.Goals as goal

pub returns-in_err-node : goal.returns-in_err-node
returns-in_err-node c =
    let r = c.args.self.now in
    let list = pairs c.args.list.now in
    let entry : ListEntry = (c.args.origin, list) in
    let fault = c.in_err-node.field-0.0 in
    let id = to_z w64 (of_z w64 c.in_ok-id.id) in
    let same : id ≡ c.in_ok-id.id = omega (arith, ints) in
    let known : option_and_then id_of (value_at (codes "id") list) ≡ Some id = sym c.id_at.ensures ∙ c.in_ok-id.ensures.ok_part ∙ ap Some (sym same) in
    let new : is_some (node_with r.scene id) ≡ false = sym (ap is_some c.node.ensures) ∙ copied c.node.result ∙ sym c.is_some.ensures ∙ c.if-is_some.false in
    let counted = r.nodes_counted in
    let is = node_read_as r.scene entry id (r.nodes + 1) r.pins (omega (arith, counted)) r.pins_counted (omega (arith, counted, c.if-self-ge-MOST_NODES.false)) known new in
    passed_on (node_in r.scene entry) fault c.from_residual-in_err-node.result
    (fault_is fault (node_in r.scene entry) (is ∙ ap (λ b. b >>= (λ n. each (with_pin (r.nodes + 1) r.pins) n (values_at (codes "pin") list))) (sym c.in_err-node.ensures)))
    c.from_residual-in_err-node.ensures.1

pub returns : goal.returns
returns c =
    let r = c.args.self.now in
    let list = pairs c.args.list.now in
    let id = to_z w64 (of_z w64 c.in_ok-id.id) in
    let same : id ≡ c.in_ok-id.id = omega (arith, ints) in
    let known : option_and_then id_of (value_at (codes "id") list) ≡ Some id = sym c.id_at.ensures ∙ c.in_ok-id.ensures.ok_part ∙ ap Some (sym same) in
    let new : is_some (node_with r.scene id) ≡ false = sym (ap is_some c.node.ensures) ∙ copied c.node.result ∙ sym c.is_some.ensures ∙ c.if-is_some.false in
    let counted = r.nodes_counted in
    let is = node_read_as r.scene (c.args.origin, list) id (r.nodes + 1) r.pins (omega (arith, counted)) r.pins_counted (omega (arith, counted, c.if-self-ge-MOST_NODES.false)) known new in
    subst (λ t. IsRead t c.with_pins.result)
    (sym (is ∙ ap (λ b. b >>= (λ n. each (with_pin (r.nodes + 1) r.pins) n (values_at (codes "pin") list))) (sym c.in_ok-node.ensures)))
    c.with_pins.ensures
