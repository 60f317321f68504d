-- One edge on.
use Rattle.std.proofs.Common.{◌≡◌, ◌≢◌, ◌+◌, ◌≤◌, drop, length, w64, of_z, sym, ap, subst, arith}
use Rattle.std.specs.Prelude.{option_copied}
use Rattle.std.proofs.lemmas.Int.{ints}
use Rattle.line_arena.specs.Stands.{StandsFor}
use Rattle.scene_store.proofs.Items.{item_at}
use Rattle.route_audit.proofs.Audited.{Decides, connectors_from, failed, from_connector, from_loop, goes_on, is_connector, proof_at}
use Rattle.route_audit.proofs.Audited.{all_proved, too_many}
use Rattle.route_audit.proofs.connectors.audit_all.Goals as goal
use Rattle.route_audit.proofs.connectors.audit_all.Goals.{then-edge+in_ok-audit_at, else-edge}

pub audit_at-requires-clause-connector : goal.audit_at-requires-clause-connector
audit_at-requires-clause-connector c =
    let s = c.args.scene.now in
    let i = c.loop-edge.edge-index in
    let e = c.edge-item.result in
    let read = c.edges-edge-items in
    let at = item_at read.result.now s.edges i e read.ensures.value c.loop-edge-test.true c.edge-item.is in
    is_connector s i e read.ensures.valid at (λ same. c.if-edge.true (ap (of_z w64) same))

pub returns-in_err-audit_at-clause-audited : goal.returns-in_err-audit_at-clause-audited
returns-in_err-audit_at-clause-audited c =
    let s = c.args.scene.now in
    let proofs = c.args.proofs.now in
    let e = c.edge-item.result in
    let i = c.loop-edge.edge-index in
    let read = c.edges-edge-items in
    let at = item_at read.result.now s.edges i e read.ensures.value c.loop-edge-test.true c.edge-item.is in
    let apart : e.from ≢ e.to = λ same. c.if-edge.true (ap (of_z w64) same) in
    let here = from_connector s i e at apart in
    failed s proofs e (connectors_from s (i + 1)) c.loop-edge.audited (option_copied c.get.result) c.in_err-audit_at.field-0.0 c.from_residual.result
    (proof_at proofs c.loop-edge.audited c.get.result c.get.ensures.lookup)
    (subst (λ es. Decides s es (drop c.loop-edge.audited proofs) proofs) here c.loop-edge.invariant.decides) c.in_err-audit_at.ensures c.from_residual.ensures.1

pub loop-edge-preserved : goal.loop-edge-preserved
loop-edge-preserved c =
    let s = c.args.scene.now in
    let proofs = c.args.proofs.now in
    let e = c.edge-item.result in
    let i = c.loop-edge.edge-index in
    let k = c.loop-edge.audited in
    let read = c.edges-edge-items in
    let at = item_at read.result.now s.edges i e read.ensures.value c.loop-edge-test.true c.edge-item.is in
    elim c.if-edge.branch [
      | then-edge+in_ok-audit_at w ↦
          let apart : e.from ≢ e.to = λ same. w.if-edge.true (ap (of_z w64) same) in
          let here = subst (λ es. Decides s es (drop k proofs) proofs) (from_connector s i e at apart) c.loop-edge.invariant.decides in
          let on = goes_on s proofs e (connectors_from s (i + 1)) k (option_copied w.get.result) (proof_at proofs k w.get.result w.get.ensures.lookup) here
          w.in_ok-audit_at.ensures in
          record {
            decides = subst (λ n. Decides s (connectors_from s (i + 1)) (drop n proofs) proofs) (sym w.audited-is) on.0;
            within = subst (λ n. n ≤ length proofs) (sym w.audited-is) on.1;
          }
      | else-edge w ↦
          let h = w.if-edge.false in
          let same : e.from ≡ e.to = omega (arith, ints, h) in
          let here = subst (λ es. Decides s es (drop k proofs) proofs) (from_loop s i e at same) c.loop-edge.invariant.decides in
          record {
            decides = subst (λ n. Decides s (connectors_from s (i + 1)) (drop n proofs) proofs) (sym w.audited-is) here;
            within = subst (λ n. n ≤ length proofs) (sym w.audited-is) c.loop-edge.invariant.within;
          }
    ]

pub returns-then-audited-proofs-clause-audited : goal.returns-then-audited-proofs-clause-audited
returns-then-audited-proofs-clause-audited c =
    let read = c.edges-edge-items in
    too_many c.args.scene.now c.args.proofs.now read.result.now c.loop-edge.edge-index c.loop-edge.audited read.ensures.value c.loop-edge-test.false
    c.loop-edge.invariant.decides c.if-audited-proofs.true

pub returns-clause-audited : goal.returns-clause-audited
returns-clause-audited c =
    let read = c.edges-edge-items in
    all_proved c.args.scene.now c.args.proofs.now read.result.now c.loop-edge.edge-index c.loop-edge.audited read.ensures.value c.loop-edge-test.false
    c.loop-edge.invariant.decides c.if-audited-proofs.false

pub returns-clause-claims : goal.returns-clause-claims
returns-clause-claims c =
    let s = c.args.scene.now in
    let a = c.arena-arena.result.now in
    let read = c.edges-edge-items in
    let proved = all_proved s c.args.proofs.now read.result.now c.loop-edge.edge-index c.loop-edge.audited read.ensures.value c.loop-edge-test.false
    c.loop-edge.invariant.decides c.if-audited-proofs.false in
    c.proved_scenes_hold.ensures s a c.args.proofs.now read.ensures.valid c.laws.ensures.arena
    (subst (λ f. StandsFor f a) c.requires c.arena-arena.ensures.stands) proved
