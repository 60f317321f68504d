-- The steps of an edge in order.
use Rattle.std.proofs.Common.{◌≡◌, ◌+◌, w64, of_z, Some, ap, sym, subst, ◌∙◌, arith}
use Rattle.std.specs.Prelude.{codes}
use Rattle.std.specs.Option.{option_copied}
use Rattle.gml_text.specs.View.{pairs}
use Rattle.diagram_read.specs.Edges.{end_node}
use Rattle.diagram_read.specs.Faults.{IsRead}
use Rattle.diagram_read.specs.Values.{value_at}
use Rattle.diagram_read.proofs.EdgesRead.{edge_read_as, other_ends}
use Rattle.diagram_read.proofs.scene.Reader.edge_in.Goals as goal

pub returns : goal.returns
returns c =
    let r = c.args.self.now in
    let list = pairs c.args.list.now in
    let from = c.in_ok-from.from.now in
    let to = c.in_ok-to.to.now in
    let source : end_node r.scene (value_at (codes "source") list) ≡ Some from = sym c.end_at.ensures ∙ ap option_copied c.in_ok-from.ensures.ok_part in
    let target : end_node r.scene (value_at (codes "target") list) ≡ Some to = sym c.end_at-2.ensures ∙ ap option_copied c.in_ok-to.ensures.ok_part in
    let counted = r.edges_counted in
    let is = edge_read_as r.scene (c.args.origin, list) from to (r.edges + 1) r.via (omega (arith, counted)) r.via_counted (omega (arith, counted, c.if-self-ge-MOST_EDGES.false)) source target
    (other_ends from.id to.id (λ e. c.if-from-to.false (ap (of_z w64) e))) in
    subst (λ t. IsRead t c.connector_in.result) (sym is) c.connector_in.ensures
