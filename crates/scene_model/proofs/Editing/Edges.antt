-- A scene with one edge changed, and with other edges.
use Rattle.std.proofs.Common.{◌≡◌, ◌≢◌, ℕ, ◌+◌, ◌<◌, ◌≤◌, ◌^◌, eqb, Some, List, length, sym, subst, subst₂, arith}
use Rattle.std.specs.Prelude.{if◌then◌else◌, All, AllPairs, ◌==◌}
use Rattle.std.proofs.lemmas.List.{length-map}
use Rattle.std.proofs.lemmas.Bool.Decides.{Decides-eqb}
use Rattle.std.proofs.lemmas.List.Elements.{All-from_recursion, recursion_from_All, All-weaker}
use Rattle.scene_model.specs.declared.edge.Edge.{Edge}
use Rattle.scene_model.specs.Scene.{Scene, edge_with, via_count}
use Rattle.scene_model.specs.Valid.{IsEdge, IsValid}
use Rattle.scene_model.specs.Edits.{change_edge}
use Rattle.scene_model.proofs.Editing.Entries.{pairs_to, pairs_from, pairs_map, pairs_weaker, Differ, IsOnly, only_found, each_changed, sum_changed, key_changed, found_has}

abbrev pub number_of : Edge → ℕ
number_of e = e.number

-- the edge stands in a scene with the same nodes
pub same_nodes : (s : Scene) (es : List Edge) (next : ℕ) (e : Edge) → IsEdge s e → IsEdge (record s { edges = es; next_edge = next }) e
same_nodes s es next e h =
    record { from = h.from; to = h.to; loop = h.loop; some_weight = h.some_weight; low_weight = h.low_weight; few_via = h.few_via; via = h.via }

-- what is asked of other edges
pub record AreFitting (s : Scene) (es : List Edge) (next : ℕ) : Type 0 where
  pub rise : AllPairs (λ d e. d.number < e.number) es
  pub below : All (λ e. e.number < next) es
  pub edges : All (IsEdge s) es
  pub few : length es ≤ 512
  pub via : via_count (record s { edges = es; next_edge = next }) ≤ 256
  pub low : next < 2 ^ 32

pub with_edges : (s : Scene) (es : List Edge) (next : ℕ) → IsValid s → AreFitting s es next → IsValid (record s { edges = es; next_edge = next })
with_edges s es next v h = record {
  ids_differ = v.ids_differ;
  nodes = v.nodes;
  few_nodes = v.few_nodes;
  few_pins = v.few_pins;
  numbers_rise = h.rise;
  below_next = h.below;
  edges = All-weaker (IsEdge s) (IsEdge (record s { edges = es; next_edge = next })) (same_nodes s es next) es h.edges;
  few_edges = h.few;
  few_via = h.via;
  settings = v.settings;
  next = h.low;
}

lt_differ : (d e : Edge) → d.number < e.number → d.number ≢ e.number
lt_differ d e l h = absurd (omega (arith, l, h))

pub numbers_differ : (s : Scene) → IsValid s → Differ number_of eqb Decides-eqb s.edges
numbers_differ s v = pairs_weaker (λ d e. d.number < e.number) (λ d e. d.number ≢ e.number) lt_differ s.edges (pairs_from (λ d e. d.number < e.number) s.edges v.numbers_rise)

-- what holds of each edge holds of the one that is found
pub edge_found : (s : Scene) (number : ℕ) (e : Edge) → IsValid s → edge_with s number ≡ Some e → IsEdge s e
edge_found s number e v known = found_has (λ d. d.number == number) (IsEdge s) s.edges e known (recursion_from_All (IsEdge s) s.edges v.edges)

pub found_below : (s : Scene) (number : ℕ) (e : Edge) → IsValid s → edge_with s number ≡ Some e → e.number < s.next_edge
found_below s number e v known = found_has (λ d. d.number == number) (λ d. d.number < s.next_edge) s.edges e known (recursion_from_All (λ d. d.number < s.next_edge) s.edges v.below_next)

-- what is asked of the change of an edge
pub record IsFitting (s : Scene) (number : ℕ) (f : Edge → Edge) (e : Edge) : Type 0 where
  pub known : edge_with s number ≡ Some e
  pub keeps : (d : Edge) → (f d).number ≡ d.number
  pub edge : IsEdge s (f e)
  pub via : via_count s + length (f e).via ≤ 256 + length e.via

pub edge_changed : (s : Scene) (number : ℕ) (f : Edge → Edge) (e : Edge) → IsValid s → IsFitting s number f e → IsValid (change_edge s number f)
edge_changed s number f e v h =
    let differ : Differ number_of eqb Decides-eqb s.edges = numbers_differ s v in
    let only : IsOnly number_of eqb Decides-eqb number e s.edges = only_found number_of eqb Decides-eqb number s.edges e differ h.known in
    let at = key_changed number_of eqb Decides-eqb number f h.keeps in
    let es : List Edge = (change_edge s number f).edges in
    with_edges s es s.next_edge v (record {
      rise = pairs_to (λ c d. c.number < d.number) es
          (pairs_map (λ c d. c.number < d.number) (λ d. if d.number == number then f d else d)
          (λ c d l. subst₂ (λ x y. x < y) (sym (at c)) (sym (at d)) l) s.edges (pairs_from (λ c d. c.number < d.number) s.edges v.numbers_rise));
      below = All-from_recursion (λ d. d.number < s.next_edge) es
          (each_changed number_of eqb Decides-eqb (λ d. d.number < s.next_edge) number f e
          (rw (h.keeps e) (found_below s number e v h.known)) s.edges only (recursion_from_All (λ d. d.number < s.next_edge) s.edges v.below_next));
      edges = All-from_recursion (IsEdge s) es
          (each_changed number_of eqb Decides-eqb (IsEdge s) number f e h.edge s.edges only (recursion_from_All (IsEdge s) s.edges v.edges));
      few = subst (λ k. k ≤ 512) (sym (length-map s.edges (λ d. if d.number == number then f d else d))) v.few_edges;
      via =
          let sum : via_count (change_edge s number f) + length e.via ≡ via_count s + length (f e).via = sum_changed number_of eqb Decides-eqb (λ d. length d.via) number f e s.edges differ h.known in
          omega (arith, sum, h.via);
      low = v.next;
    })
