-- One edge more, a connector or a loop; in the end all of them.
use Rattle.std.proofs.Common.{◌≡◌, ◌≢◌, ◌+◌, ◌≤◌, List, length, take, filter, sym, ap, subst, ◌∙◌, arith, w64, of_z}
use Rattle.std.specs.List.{AllZip}
use Rattle.std.proofs.lemmas.Int.{ints}
use Rattle.scene_model.specs.declared.edge.Edge.{Edge}
use Rattle.scene_store.proofs.Items.{all_items, item_at}
use Rattle.proof_model.specs.LeastLabels.{IsLeastProof}
use Rattle.proof_search.specs.declared.prover.Prover.{Prover}
use Rattle.proof_search.proofs.WholeScenes.Connectors.{IsProvedUpto, at_place, connects, edge_found, zipped_more, zipped_past}
use Rattle.proof_search.proofs.scene.proofs_of.Goals as goal
use Rattle.proof_search.proofs.scene.proofs_of.Goals.{then-edge+in_ok-proof+in_ok-push, else-edge}

pub proof_of-requires-clause-is : goal.proof_of-requires-clause-is
proof_of-requires-clause-is c =
    let s = c.args.scene.now in
    let read = c.edges-edge-items in
    edge_found s c.loop-edge.edge-index c.edge-item.result read.ensures.valid
    (item_at read.result.now s.edges c.loop-edge.edge-index c.edge-item.result read.ensures.value c.loop-edge-test.true c.edge-item.is)

pub loop-edge-preserved : goal.loop-edge-preserved
loop-edge-preserved c =
    let s = c.args.scene.now in
    let k = c.loop-edge.edge-index in
    let e : Edge = c.edge-item.result in
    let read = c.edges-edge-items in
    let at = at_place s.edges k e (item_at read.result.now s.edges k e read.ensures.value c.loop-edge-test.true c.edge-item.is) in
    let before = c.loop-edge.invariant in
    let within : k + 1 ≤ length s.edges = omega (arith, at.within) in
    elim c.if-edge.branch as (λ _. IsProvedUpto c.args.scene.now c.args.prover.now c.if-edge.prover c.if-edge.proofs.items (k + 1)) [
      | then-edge+in_ok-proof+in_ok-push w ↦ (
          let apart : e.from ≢ e.to = λ same. w.if-edge.true (ap (of_z w64) same) in
          let made = w.in_ok-proof.ensures in
          let items = ap (λ v. v.items) w.proofs-is ∙ w.in_ok-push.ensures.items in
          subst (λ (q : Prover). IsProvedUpto s c.args.prover.now q c.if-edge.proofs.items (k + 1)) (sym w.prover-is) (record {
            proved = subst (AllZip (IsLeastProof s) (filter connects (take (k + 1) s.edges))) (sym items)
                (zipped_more (IsLeastProof s) s.edges k e at c.loop-edge.proofs.items before.proved apart w.in_ok-proof.proof made.least);
            within = within;
            arena = made.arena ∙ before.arena;
            solids = made.solids ∙ before.solids;
            spots = made.spots;
          }))
      | else-edge w ↦ (
          let same : e.from ≡ e.to = omega (arith, ints, w.if-edge.false) in
          subst (λ (q : Prover). IsProvedUpto s c.args.prover.now q c.if-edge.proofs.items (k + 1)) (sym w.prover-is) (record {
            proved = subst (AllZip (IsLeastProof s) (filter connects (take (k + 1) s.edges))) (sym (ap (λ v. v.items) w.proofs-is))
                (zipped_past (IsLeastProof s) s.edges k e at c.loop-edge.proofs.items before.proved same);
            within = within;
            arena = before.arena;
            solids = before.solids;
            spots = before.spots;
          }))
    ]

pub returns : goal.returns
returns c =
    let s = c.args.scene.now in
    let read = c.edges-edge-items in
    let whole = all_items read.result.now s.edges c.loop-edge.edge-index read.ensures.value c.loop-edge-test.false in
    subst (λ (es : List Edge). AllZip (IsLeastProof s) (filter connects es) c.loop-edge.proofs.items) whole c.loop-edge.invariant.proved
