-- One edge on.
use Rattle.std.proofs.Common.{subst, ◌∙◌}
use Rattle.std.specs.List.{AllZip}
use Rattle.gml_text.specs.View.{tree}
use Rattle.scene_store.proofs.Items.{all_items, item_at}
use Rattle.form_check.specs.Checks.{IsFinding}
use Rattle.form_check.proofs.Findings.{at_place, edge_found, fault_later, fault_on, no_fault, zipped_more}
use Rattle.form_check.proofs.checking.findings_of.Goals as goal

pub finding_of-requires-clause-edge : goal.finding_of-requires-clause-edge
finding_of-requires-clause-edge c =
    let s = c.args.scene.now in
    let k = c.loop-edge.edge-index in
    let e = c.edge-item.result in
    let read = c.edges-edge-items in
    edge_found s k e read.ensures.valid (item_at read.result.now s.edges k e read.ensures.value c.loop-edge-test.true c.edge-item.is)

pub returns-in_err-finding_of-clause-err : goal.returns-in_err-finding_of-clause-err
returns-in_err-finding_of-clause-err c =
    let s = c.args.scene.now in
    let k = c.loop-edge.edge-index in
    let e = c.edge-item.result in
    let read = c.edges-edge-items in
    let at = at_place s.edges k e (item_at read.result.now s.edges k e read.ensures.value c.loop-edge-test.true c.edge-item.is) in
    fault_on (tree c.args.doc.now) s.edges k e c.in_err-finding_of.field-0.0 c.from_residual-in_err-finding_of.result at
    c.loop-edge.invariant.later c.in_err-finding_of.ensures.err c.from_residual-in_err-finding_of.ensures.1

pub loop-edge-preserved : goal.loop-edge-preserved
loop-edge-preserved c =
    let s = c.args.scene.now in
    let t = tree c.args.doc.now in
    let k = c.loop-edge.edge-index in
    let e = c.edge-item.result in
    let f = c.in_ok-finding_of.field-0 in
    let read = c.edges-edge-items in
    let at = at_place s.edges k e (item_at read.result.now s.edges k e read.ensures.value c.loop-edge-test.true c.edge-item.is) in
    record {
      found = rw c.in_ok-push.ensures.items (zipped_more (IsFinding t s) s.edges c.loop-edge.findings.items k e f at c.loop-edge.invariant.found c.in_ok-finding_of.ensures.ok);
      later = c.loop-edge.invariant.later ∙ fault_later t s.edges k e at (no_fault t s e f c.in_ok-finding_of.ensures.ok);
    }

pub returns-clause-ok : goal.returns-clause-ok
returns-clause-ok c =
    let s = c.args.scene.now in
    let read = c.edges-edge-items in
    subst (λ es. AllZip (IsFinding (tree c.args.doc.now) s) es c.loop-edge.findings.items)
    (all_items read.result.now s.edges c.loop-edge.edge-index read.ensures.value c.loop-edge-test.false) c.loop-edge.invariant.found
