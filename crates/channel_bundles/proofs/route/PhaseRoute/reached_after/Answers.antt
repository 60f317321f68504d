-- The port, the tip and the checkpoints of the run after are those that it has to keep.
use Rattle.std.proofs.Common.{◌≡◌, ◌↔◌, ℕ, ◌+◌, ◌<◌, ◌==◌, ℤ, List, length, ap, subst, ◌∙◌, arith, w64, FitsSigned, rules}
use Rattle.std.specs.Prelude.{Contains, IsTrue}
use Rattle.std.proofs.lemmas.Int.{to_z-of_z}
use Rattle.std.proofs.lemmas.Bool.Decides.{Decides-eqb}
use Rattle.plane_geom.specs.declared.point.Point.{Point}
use Rattle.plane_geom.specs.declared.point.Dir.{Dir}
use Rattle.plane_geom.specs.Along.{across}
use Rattle.plane_geom.specs.Floor.{Holds}
use Rattle.plane_geom.specs.Point.{opposite}
use Rattle.segment_order.specs.declared.run.Run.{Run}
use Rattle.segment_order.specs.Run.{end_of_run, line_of_run, run_at}
use Rattle.channel_bundles.specs.declared.route.PhaseRoute.{PhaseRoute}
use Rattle.channel_bundles.specs.Route.{HasToLeave}
use Rattle.channel_bundles.specs.Limits.{IsReached}
use Rattle.channel_bundles.proofs.Neighbours.{left}
use Rattle.channel_bundles.proofs.route.PhaseRoute.reached_after.Goals as goal

same : {A B T : Type 0} (d e : Dir) (m n z : ℤ) → d ≡ e → m ≡ n → (B ↔ (A × (T → IsReached d m z))) → B ↔ (A × (T → IsReached e n z))
same {A} {B} {T} d e m n z p q is = subst (λ x. B ↔ (A × (T → IsReached x n z))) p (subst (λ y. B ↔ (A × (T → IsReached d y z))) q is)

after_of : (route : PhaseRoute) (k : ℕ) (z : ℤ) (r b : Run) (d : Dir) (tip : Point) (port_at tip_at : ℤ) (via : List Point) {A B C D T U : Type 0} → r ≡ run_at route.runs.items k → b ≡ run_at route.runs.items (k + 1) → d ≡ (opposite (run_at route.runs.items (k + 1)).heading) → tip ≡ end_of_run b →
    port_at ≡ across r.way route.anchors.target_port → tip_at ≡ across r.way tip → via ≡ route.anchors.via.items → (B ↔ (A × (T → IsReached d port_at z))) → (C ↔ (B × (U → IsReached d tip_at z))) →
    (D ↔ (C × ((p : Point) → Contains via p → Holds (line_of_run b) p → IsReached d (across r.way p) z))) → (T ↔ ((k + 1) + 1 ≡ length route.runs.items)) → (U ↔ (((k + 1) + 1 < length route.runs.items) × ((run_at route.runs.items ((k + 1) + 1)).way ≡ (run_at route.runs.items (k + 1)).way))) →
    D ↔ (A × ((p : Point) → HasToLeave route (k + 1) p → IsReached (opposite (run_at route.runs.items (k + 1)).heading) (across (run_at route.runs.items k).way p) z))
after_of route k z r b d tip port_at tip_at via {A} {B} {C} {D} {T} {U} own other heading is_tip at_port at_tip is_via port end checkpoints has_port has_tip =
    let way = ap (λ (s : Run). s.way) own in
    left route (k + 1) (λ p. IsReached (opposite (run_at route.runs.items (k + 1)).heading) (across (run_at route.runs.items k).way p) z)
    (same d (opposite (run_at route.runs.items (k + 1)).heading) port_at (across (run_at route.runs.items k).way route.anchors.target_port) z heading (at_port ∙ ap (λ w. across w route.anchors.target_port) way) port)
    (same d (opposite (run_at route.runs.items (k + 1)).heading) tip_at (across (run_at route.runs.items k).way (end_of_run (run_at route.runs.items (k + 1)))) z heading (at_tip ∙ ap (λ w. across w tip) way ∙ ap (λ p. across (run_at route.runs.items k).way p) (is_tip ∙ ap end_of_run other)) end)
    (subst (λ w. D ↔ (C × ((p : Point) → Contains route.anchors.via.items p → Holds (line_of_run (run_at route.runs.items (k + 1))) p → IsReached (opposite (run_at route.runs.items (k + 1)).heading) (across w p) z))) way
    (subst (λ x. D ↔ (C × ((p : Point) → Contains route.anchors.via.items p → Holds (line_of_run (run_at route.runs.items (k + 1))) p → IsReached x (across r.way p) z))) heading
    (subst (λ s. D ↔ (C × ((p : Point) → Contains route.anchors.via.items p → Holds (line_of_run s) p → IsReached d (across r.way p) z))) other
    (subst (λ xs. D ↔ (C × ((p : Point) → Contains xs p → Holds (line_of_run b) p → IsReached d (across r.way p) z))) is_via checkpoints))))
    has_port has_tip

is_last : (k count n : ℕ) → count ≡ n → IsTrue (k + 2 == count) ↔ (k + 1 + 1 ≡ n)
is_last k count n e = (λ t. let f = (Decides-eqb (k + 2) count).0 t in omega arith, λ f. (Decides-eqb (k + 2) count).1 (omega arith))

pub returns : goal.returns
returns c =
    let port_fits : FitsSigned w64 c.across.result = search rules in
    let tip_fits : FitsSigned w64 c.across-2.result = search rules in
    let port = simp to_z-of_z at c.reached_if-port.ensures in
    let end = simp to_z-of_z at c.reached_if-tip.ensures in
    λ z. after_of c.args.self.now c.args.k z c.run-way.result c.run-after.result c.opposite-dir.result c.end.result c.across.result c.across-2.result c.deref.result.now
    c.run-way.ensures c.run-after.ensures (c.opposite-dir.ensures ∙ ap (λ (s : Run). opposite s.heading) c.run-after.ensures) c.end.ensures c.across.ensures c.across-2.ensures c.deref.ensures.value (port z) (end z) (c.reached_checkpoints.ensures z) (is_last c.args.k c.len.result (length c.args.self.now.runs.items) (omega (arith, c.len.ensures, c.args.self.now.runs.ok.0))) c.ends_at_tip.ensures
