-- No edit that makes the scene is refused.
use Rattle.std.proofs.Common.{◌≡◌, ◌≢◌, ℕ, ◌+◌, ◌*◌, ◌/◌, ◌%◌, ◌^◌, ◌<◌, ◌≤◌, Bool, false, List, [], ◌∷◌, length, Some, None, is_some, refl, sym, ap, arith}
use Rattle.std.specs.Prelude.{ℤ, pos, ◌==◌, nat_le, int_lt, unsigned_abs, find}
use Rattle.std.specs.Ordering.{int_eq}
use Rattle.std.proofs.lemmas.Int.{ints}
use Rattle.std.proofs.lemmas.Bool.{le-ltb, lt-leb}
use Rattle.std.proofs.lemmas.Bool.Decides.{nat_tests}
use Rattle.scene_model.specs.declared.edge.Edge.{Edge}
use Rattle.scene_model.specs.declared.fault.SceneFault.{SceneFault}
use Rattle.scene_model.specs.declared.fault.SceneFault.TheVariants.{NodeExists, OutOfRange, TooMany}
use Rattle.scene_model.specs.declared.edit.Edit.TheVariants.{AddNode, AddEdge}
use Rattle.scene_model.specs.Scene.{Scene, empty_scene, node_with}
use Rattle.scene_model.specs.Edits.{half, when, first_some, is_no_size, is_off, refusal}
use Rattle.form_make.specs.Draws.{first}
use Rattle.form_make.specs.Made.{made_coordinate, made_size, made_node}
use Rattle.form_make.proofs.DrawLemmas.{length-first}
use Rattle.form_make.proofs.Nodes.{no_node, has_node, other_ids}

-- six tests that fail
six_fail : (a b c d e f : Bool) (u v w x y z : SceneFault) → a ≡ false → b ≡ false → c ≡ false → d ≡ false → e ≡ false → f ≡ false
    → first_some (when a u ∷ when b v ∷ when c w ∷ when d x ∷ when e y ∷ when f z ∷ []) ≡ None
six_fail a b c d e f u v w x y z p q r s t o = rw (p, q, r, s, t, o) refl

size_fits : (c : ℕ) → c < 61 → is_no_size (made_size c) ≡ false
size_fits c low =
    let small : int_lt (pos (1000 * (20 + c))) (pos 0) ≡ false = le-ltb (1000 * (20 + c)) 0 (omega arith) in
    let large : int_lt (pos (2 * 10 ^ 9)) (pos (1000 * (20 + c))) ≡ false = le-ltb (2 * 10 ^ 9) (1000 * (20 + c)) (omega arith) in
    rw (small, large) refl

coordinate_fits : (line a c : ℕ) → line < 6 → a < 61 → c < 61 → is_off (made_coordinate line a) (half (made_size c)) ≡ false
coordinate_fits line a c p q r =
    let z = made_coordinate line a in
    let far : unsigned_abs (made_coordinate line a) ≤ 1100000 = omega (arith, ints) in
    let wide : (1000 * (20 + c) + 1) / 2 ≤ 50000 = omega arith in
    le-ltb (10 ^ 9) (unsigned_abs (made_coordinate line a) + unsigned_abs (half (made_size c))) (omega (arith, ints, far, wide))

-- a node is not
pub node_unrefused : (seed place : ℕ) (i x y w h : ℤ) (a b c d : ℕ) → place < 36 → a < 61 → b < 61 → c < 61 → d < 61
    → i ≡ pos (place + 1) → x ≡ made_coordinate (place % 6) a → y ≡ made_coordinate (place / 6) b → w ≡ made_size c → h ≡ made_size d
    → (s : Scene) → s ≡ record empty_scene { nodes = first place (made_node seed) }
    → refusal (AddNode i x y w h) s ≡ None
node_unrefused seed place i x y w h a b c d low p q r t i-is x-is y-is w-is h-is s s-is =
    let column : place % 6 < 6 = omega arith in
    let row : place / 6 < 6 = omega arith in
    let many : nat_le 256 (length (first place (made_node seed))) ≡ false = lt-leb 256 (length (first place (made_node seed))) (rw length-first (omega arith)) in
    rw (s-is, i-is, x-is, y-is, w-is, h-is)
    (six_fail (is_some (node_with (record empty_scene { nodes = first place (made_node seed) }) (pos (place + 1)))) (nat_le 256 (length (first place (made_node seed))))
    (is_no_size (made_size c)) (is_no_size (made_size d))
    (is_off (made_coordinate (place % 6) a) (half (made_size c))) (is_off (made_coordinate (place / 6) b) (half (made_size d)))
    (NodeExists (pos (place + 1))) (TooMany 256) (OutOfRange 5) (OutOfRange 6) (OutOfRange 3) (OutOfRange 4)
    (ap is_some (no_node seed place place (omega arith))) many (size_fits c r) (size_fits d t)
    (coordinate_fits (place % 6) a c column p r) (coordinate_fits (place / 6) b d row q t))

-- an edge is not
pub edge_unrefused : (seed from to next : ℕ) (edges : List Edge) (i j : ℤ) → from < 36 → to < 36 → to ≢ from → length edges < 512 → next < 512
    → i ≡ pos (from + 1) → j ≡ pos (to + 1)
    → (s : Scene) → s ≡ record empty_scene { nodes = first 36 (made_node seed); edges = edges; next_edge = next }
    → refusal (AddEdge i j 0 0) s ≡ None
edge_unrefused seed from to next edges i j f t differ few low i-is j-is s s-is =
    let many : nat_le 512 (length edges) ≡ false = lt-leb 512 (length edges) few in
    let one : int_eq (pos (from + 1)) (pos (to + 1)) ≡ false = other_ids from to (λ e. differ (sym e)) in
    let there : find (λ n. int_eq n.id (pos (from + 1))) (first 36 (made_node seed)) ≡ Some (made_node seed from) = has_node seed from 36 f in
    let here : find (λ n. int_eq n.id (pos (to + 1))) (first 36 (made_node seed)) ≡ Some (made_node seed to) = has_node seed to 36 t in
    let last : (next == 4294967295) ≡ false = grind (arith, nat_tests, low) in
    rw (s-is, i-is, j-is, there, here, many, one, last) refl
