-- An edge that is read may be loaded, and the diagram has no more checkpoints than its limit with it.
use Rattle.std.proofs.Common.{◌≡◌, ℕ, suc, ◌+◌, ◌-◌, ◌≤◌, ◌<◌, true, false, List, [], ◌∷◌, length, Option, Some, None, Ok, refl, sym, ◌∙◌, arith, length-append, leb-false, int_eq}
use Rattle.std.specs.Prelude.{ℤ, ◌||◌, ◌&&◌, nat_le, codes, IfOk, IfSome}
use Rattle.std.proofs.lemmas.Bool.{and_parts, false≢true}
use Rattle.std.proofs.lemmas.Bool.Decides.{nat_tests, Decides-int_eq}
use Rattle.plane_geom.specs.declared.point.Point.{Point}
use Rattle.gml_text.specs.Tree.{Content, number, text, list}
use Rattle.scene_model.specs.declared.node.Node.{Node}
use Rattle.scene_model.specs.declared.edge.Edge.{Edge}
use Rattle.scene_model.specs.Scene.{Scene, via_count}
use Rattle.scene_model.specs.Loads.{IsLoadableEdge}
use Rattle.scene_model.proofs.Editing.Refusals.{or_none}
use Rattle.scene_model.proofs.Directions.{tested}
use Rattle.scene_model.proofs.Directions.Tested.{yes, no}
use Rattle.diagram_read.specs.declared.fault.Part.TheVariants as part
use Rattle.diagram_read.specs.declared.fault.DiagramFault.TheVariants.{BadEnd, TooMany, BadVia, BadWeight}
use Rattle.diagram_read.specs.Checkpoints.{checkpoint_of}
use Rattle.diagram_read.specs.Faults.{need, refuse, each}
use Rattle.diagram_read.specs.Values.{ListEntry, value_at, values_at}
use Rattle.diagram_read.specs.Edges.{end_node, class_in, weight_of, weight_in, with_via, loop_at, connector_in, edge_in}
use Rattle.diagram_read.proofs.Steps.{bound, chosen, kept, ok_holds, not_refused, there}
use Rattle.diagram_read.proofs.PinsRead.{some_holds}

-- the edge may be loaded, and has few checkpoints
pub record IsRoomyEdge (s : Scene) (e : Edge) : Type 0 where
  pub loadable : IsLoadableEdge s e
  pub few : via_count s + length e.via ≤ 256
  pub number : e.number ≡ suc (length s.edges)

abbrev AreFew : ℕ → List Point → Type 0
AreFew before points = before + length points ≤ 256

via_kept : (place before : ℕ) (points : List Point) (value : Content) → AreFew before points → IfOk (with_via place before points value) (AreFew before)
via_kept place before points value few =
    bound _ (refuse (TooMany part.Via) (nat_le 4 (length points) || nat_le 256 (before + length points))) _ (λ room is.
    bound _ (need (BadVia place) (checkpoint_of value)) _ (λ point got.
    let fits = or_none (nat_le 4 (length points)) (nat_le 256 (before + length points)) (not_refused (TooMany part.Via) (nat_le 4 (length points) || nat_le 256 (before + length points)) room is) in
    let below = leb-false 256 (before + length points) fits.1 in
    let more = length-append points (point ∷ []) in
    omega (arith, below, more)))

record IsWeight (weight : ℕ) : Type 0 where
  pub some : 0 < weight
  pub low : weight ≤ 4

digit_weighs : (b : ℕ) → (nat_le 49 b && nat_le b 52) ≡ true → IsWeight (b - 48)
digit_weighs b h = (let parts = and_parts (nat_le 49 b) (nat_le b 52) h in record { some = grind (arith, nat_tests, parts); low = grind (arith, nat_tests, parts) })

digits_weigh : (bytes : List ℕ) → IfSome (weight_of bytes) IsWeight
digits_weigh [] = tt
digits_weigh (b ∷ []) = elim (tested (nat_le 49 b && nat_le b 52)) as (λ _. IfSome (weight_of (b ∷ [])) IsWeight) [ yes h ↦ rw h (digit_weighs b h) | no h ↦ rw h tt ]
digits_weigh (b ∷ c ∷ more) = tt

weighs : (value : Option Content) → IfSome (weight_in value) IsWeight
weighs None = record { some = omega arith; low = omega arith }
weighs (Some (number bytes)) = digits_weigh bytes
weighs (Some (text bytes)) = tt
weighs (Some (list inner)) = tt

apart : (a b : ℤ) → int_eq a b ≡ false → a ≡ b → ⊥
apart a b h same = false≢true (sym h ∙ (Decides-int_eq a b).1 same)

-- numbers that differ are distinguished
pub other_ends : (a b : ℤ) → (a ≡ b → ⊥) → int_eq a b ≡ false
other_ends a b differ = elim (tested (int_eq a b)) as (λ _. int_eq a b ≡ false) [ yes h ↦ absurd (differ ((Decides-int_eq a b).0 h)) | no h ↦ h ]

connector_roomy : (s : Scene) (place : ℕ) (from to : Node) (entry : ListEntry) → int_eq from.id to.id ≡ false → place ≡ suc (length s.edges) → s.next_edge ≤ place → place < 4294967295 → via_count s ≤ 256
    → IfOk (connector_in place (via_count s) from to entry) (IsRoomyEdge s)
connector_roomy s place from to entry other here next low few =
    bound _ (need (BadEnd place) (class_in from (value_at (codes "sourcePin") entry.1))) _ (λ from_class a.
    bound _ (need (BadEnd place) (class_in to (value_at (codes "targetPin") entry.1))) _ (λ to_class b.
    bound _ (each (with_via place (via_count s)) [] (values_at (codes "via") entry.1)) _ (λ via c.
    bound _ (need (BadWeight place) (weight_in (value_at (codes "nudgeWeight") entry.1))) _ (λ weight d.
    let w = some_holds (weight_in (value_at (codes "nudgeWeight") entry.1)) weight IsWeight (there (BadWeight place) (weight_in (value_at (codes "nudgeWeight") entry.1)) weight d) (weighs (value_at (codes "nudgeWeight") entry.1)) in
    let v = ok_holds (each (with_via place (via_count s)) [] (values_at (codes "via") entry.1)) via (AreFew (via_count s)) c
    (kept (AreFew (via_count s)) (with_via place (via_count s)) (via_kept place (via_count s)) [] (values_at (codes "via") entry.1) (omega (arith, few))) in
    record {
      loadable = record { next = next; low = low; loop = λ same. absurd (apart from.id to.id other same); some_weight = w.some; low_weight = w.low };
      few = v;
      number = here;
    }))))

pub edge_roomy : (s : Scene) (entry : ListEntry) → s.next_edge ≡ suc (length s.edges) → via_count s ≤ 256 → IfOk (edge_in s entry) (IsRoomyEdge s)
edge_roomy s entry numbered few =
    let place = suc (length s.edges) in
    bound _ (refuse (TooMany part.Edge) (nat_le 512 (length s.edges))) _ (λ room is.
    let below = leb-false 512 (length s.edges) (not_refused (TooMany part.Edge) (nat_le 512 (length s.edges)) room is) in
    bound _ (need (BadEnd place) (end_node s (value_at (codes "source") entry.1))) _ (λ from a.
    bound _ (need (BadEnd place) (end_node s (value_at (codes "target") entry.1))) _ (λ to b.
    chosen _ (int_eq from.id to.id) (Ok (loop_at place from.id entry.0)) (connector_in place (via_count s) from to entry)
    (λ same. record {
      loadable = record { next = omega (arith, numbered); low = omega (arith, below); loop = λ e. record { from_class = refl; to_class = refl; via = refl; weight = refl }; some_weight = omega arith; low_weight = omega arith };
      few = omega (arith, few);
      number = refl;
    })
    (λ other. connector_roomy s place from to entry other refl (omega (arith, numbered)) (omega (arith, below)) few))))

fits : (m n : ℕ) → m < n → nat_le n m ≡ false
fits m n below = grind (arith, nat_tests)

-- the edge of a list between two nodes
pub edge_read_as : (s : Scene) (entry : ListEntry) (from to : Node) (place before : ℕ) → place ≡ suc (length s.edges) → before ≡ via_count s → length s.edges < 512
    → end_node s (value_at (codes "source") entry.1) ≡ Some from → end_node s (value_at (codes "target") entry.1) ≡ Some to → int_eq from.id to.id ≡ false
    → edge_in s entry ≡ connector_in place before from to entry
edge_read_as s entry from to place before here counted few source target other = rw (here, counted, fits (length s.edges) 512 few, source, target, other) refl
