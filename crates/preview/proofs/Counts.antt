-- A commit searches few connectors, so their number is exact.
use Rattle.std.proofs.Common.{◌≡◌, ℕ, ◌≤◌, inl, inr, List, [], ◌∷◌, length, ap, arith}
use Rattle.std.specs.Prelude.{not}
use Rattle.std.proofs.lemmas.List.Sums.{length-filter, count_by-le-length}
use Rattle.scene_model.specs.declared.edge.Edge.{Edge}
use Rattle.scene_model.specs.Scene.{Scene, connectors, is_loop}
use Rattle.scene_model.specs.Stale.{ArePicked, AreStale, IsCurrent, IsStale}
use Rattle.scene_model.specs.Valid.{IsValid}
use Rattle.walk_model.specs.declared.route.Answer.{Answer}
use Rattle.line_arena.specs.Count.{counted_by}

picked_few : (P Q : Edge → Type 0) (es : List Edge) (numbers : List ℕ) → ArePicked P Q es numbers → length numbers ≤ length es
picked_few P Q [] numbers h = omega (arith, ap length h)
picked_few P Q (e ∷ es) numbers (inl h) = omega (arith, ap length h.1.2, picked_few P Q es h.1.0 h.1.1)
picked_few P Q (e ∷ es) numbers (inr h) = omega (arith, picked_few P Q es numbers h.1)

few_connectors : (s : Scene) → IsValid s → length (connectors s) ≤ 512
few_connectors s v =
    let loops : length (connectors s) ≤ length s.edges =
    rw (length-filter (λ (e : Edge). not (is_loop e)) s.edges) (count_by-le-length (λ (e : Edge). not (is_loop e)) s.edges) in
    let edges = v.few_edges in
    omega arith

-- counted from 0 it is their number
pub counted : (old : Scene) (answers : List Answer) (new : Scene) (numbers : List ℕ) (count : ℕ) → IsValid new → AreStale old answers new numbers →
    count ≡ counted_by (length numbers) 0 → count ≡ length numbers
counted old answers new numbers count valid stale is =
    let picked = picked_few (IsStale old answers new) (IsCurrent old answers new) (connectors new) numbers stale in
    let few = few_connectors new valid in
    omega (arith, is, picked, few)
