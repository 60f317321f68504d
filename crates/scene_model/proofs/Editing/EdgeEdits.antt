-- Edits of edges and settings keep a scene valid.
use Rattle.std.proofs.Common.{◌≡◌, ◌≢◌, ℕ, suc, ◌+◌, ◌-◌, ◌^◌, ◌<◌, ◌≤◌, Bool, true, false, not, Option, None, Some, List, [], ◌∷◌, ◌++◌, length, take, drop, refl, sym, ap, subst, ◌∙◌, arith, int_eq, ltb-false, leb-false, true≢false}
use Rattle.std.specs.Prelude.{ℤ, pos, ◌≤ℤ◌, unsigned_abs, int_lt, IsTrue, IsSomeAnd, filter, insert, remove, ◌==◌, nat_le}
use Rattle.std.proofs.lemmas.Bool.{eqb-false}
use Rattle.std.proofs.lemmas.Int.{ints}
use Rattle.std.proofs.lemmas.Bool.Decides.{Decides-int_eq}
use Rattle.std.proofs.lemmas.List.{length_push}
use Rattle.std.proofs.lemmas.List.Edits.{length-remove, length-insert}
use Rattle.std.proofs.lemmas.List.Sums.{sum_by_push}
use Rattle.std.proofs.lemmas.List.Filters.{length-filter_both, sum_by-filter_both}
use Rattle.std.proofs.lemmas.List.Elements.{recursion_from_All, All-take, All-drop, All-append, All-push, All-weaker, All-nil, All-filter, All-cons}
use Rattle.plane_geom.specs.declared.point.Point.{Point}
use Rattle.scene_model.specs.declared.node.Node.{Node}
use Rattle.scene_model.specs.declared.edge.Edge.{Edge}
use Rattle.scene_model.specs.declared.edit.Edit.TheVariants.{AddEdge, CutEdge, SetClasses, AddVia, DropVia, Set}
use Rattle.scene_model.specs.declared.fault.SceneFault.TheVariants.{TooMany, NoSuchPlace, SameNode, UnknownPinClass}
use Rattle.scene_model.specs.declared.settings.Setting.{Setting}
use Rattle.scene_model.specs.declared.settings.Setting.TheVariants.{Penalty, Buffer, Nudge}
use Rattle.scene_model.specs.declared.settings.Settings.{Settings}
use Rattle.scene_model.specs.Scene.{Scene, node_with, edge_with, has_class, is_loop, via_count}
use Rattle.scene_model.specs.Valid.{IsEdge, IsValid, IsOnField, AreSettings}
use Rattle.scene_model.specs.Edits.{refusal, refusals, changed, unknown_class, when, is_off, is_no_place, out_of_limits, with_setting, new_edge}
use Rattle.scene_model.proofs.Editing.Entries.{pairs_to, pairs_from, pairs_push, pairs_filter, twice_not}
use Rattle.scene_model.proofs.Editing.Refusals.{all_none, when_none, known_node, known_edge, said_at, or_none, place_within}
use Rattle.scene_model.proofs.Editing.Nodes.{Serves}
use Rattle.scene_model.proofs.Editing.Edges.{with_edges, edge_changed, edge_found}

true_unless : (b : Bool) → not b ≡ false → b ≡ true
true_unless true h = refl
true_unless false h = absurd (true≢false h)

-- where the class is not refused, the node has it
pub serves_class : (s : Scene) (id : ℤ) (class : ℕ) (n : Node) → node_with s id ≡ Some n → unknown_class s id class ≡ None → Serves s id class
serves_class s id class n known h =
    subst (λ o. IsSomeAnd o (λ m. IsTrue (has_class m class))) (sym known)
    (true_unless (has_class n class) (when_none _ _ (said_at (node_with s id) n (λ m. when (not (has_class m class)) (UnknownPinClass class)) known h)))

-- the node at an end
pub found_by : (o : Option Node) (class : ℕ) → IsSomeAnd o (λ m. IsTrue (has_class m class)) → (n : Node) × (o ≡ Some n)
found_by None class h = absurd h
found_by (Some n) class h = (n, refl)

different : (a b : ℤ) → int_eq a b ≡ false → a ≢ b
different a b h e = true≢false (sym ((Decides-int_eq a b).1 e) ∙ h)

-- one more edge, last
pub edge_added : (s : Scene) (e : Edge) → IsValid s → IsEdge s e → s.next_edge ≤ e.number → e.number < 4294967295 → length s.edges < 512 → via_count s + length e.via ≤ 256
    → IsValid (record s { edges = s.edges ++ e ∷ []; next_edge = suc e.number })
edge_added s e v edge next low room via =
    let es : List Edge = s.edges ++ e ∷ [] in
    with_edges s es (suc e.number) v (record {
      rise = pairs_to (λ c d. c.number < d.number) es
          (pairs_push (λ c d. c.number < d.number) s.edges e (pairs_from (λ c d. c.number < d.number) s.edges v.numbers_rise)
          (recursion_from_All (λ d. d.number < e.number) s.edges (All-weaker (λ d. d.number < s.next_edge) (λ d. d.number < e.number) (λ d l. omega (arith, l, next)) s.edges v.below_next)));
      below = All-push (λ d. d.number < suc e.number) s.edges e
          (All-weaker (λ d. d.number < s.next_edge) (λ d. d.number < suc e.number) (λ d l. omega (arith, l, next)) s.edges v.below_next) (omega arith);
      edges = All-push (IsEdge s) s.edges e v.edges edge;
      few = let l = length_push s.edges e in omega (arith, room, l);
      via = let l = sum_by_push (λ d. length d.via) s.edges e in omega (arith, via, l);
      low = omega (arith, low);
    })

pub add_edge : (s : Scene) (from to : ℤ) (from_class to_class : ℕ) → IsValid s → refusal (AddEdge from to from_class to_class) s ≡ None → IsValid (changed (AddEdge from to from_class to_class) s)
add_edge s from to from_class to_class v free =
    let new : Edge = new_edge s.next_edge from to from_class to_class in
    let r = all_none (refusals (AddEdge from to from_class to_class) s) free in
    let source = known_node s from r.0 in
    let target = known_node s to r.1.0 in
    let apart = different from to (when_none _ _ r.1.1.0) in
    let numbers = eqb-false s.next_edge 4294967295 (when_none _ _ r.1.1.1.1.1.1.0) in
    edge_added s new v
    (record {
      from = serves_class s from from_class source.0 source.1 r.1.1.1.0;
      to = serves_class s to to_class target.0 target.1 r.1.1.1.1.0;
      loop = λ same. absurd (apart same);
      some_weight = omega arith;
      low_weight = omega arith;
      few_via = omega arith;
      via = All-nil IsOnField;
    })
    (omega arith)
    (let next = v.next in omega (arith, next, numbers))
    (leb-false 512 (length s.edges) (when_none _ _ r.1.1.1.1.1.0))
    (let few = v.few_via in omega (arith, few))

pub cut_edge : (s : Scene) (number : ℕ) → IsValid s → IsValid (changed (CutEdge number) s)
cut_edge s number v =
    let es : List Edge = filter (λ e. not (e.number == number)) s.edges in
    with_edges s es s.next_edge v (record {
      rise = pairs_to (λ d e. d.number < e.number) es
          (pairs_filter (λ d e. d.number < e.number) (λ e. not (e.number == number)) s.edges (pairs_from (λ d e. d.number < e.number) s.edges v.numbers_rise));
      below = All-filter (λ e. not (e.number == number)) (λ e. e.number < s.next_edge) s.edges v.below_next;
      edges = All-filter (λ e. not (e.number == number)) (IsEdge s) s.edges v.edges;
      few = let few = v.few_edges in let l = length-filter_both (λ e. not (e.number == number)) (λ e. e.number == number) (λ e. twice_not (e.number == number)) s.edges in omega (arith, few, l);
      via = let few = v.few_via in let l = sum_by-filter_both (λ e. not (e.number == number)) (λ e. e.number == number) (λ e. twice_not (e.number == number)) (λ e. length e.via) s.edges in omega (arith, few, l);
      low = v.next;
    })

pub set_classes : (s : Scene) (number from_class to_class : ℕ) → IsValid s → refusal (SetClasses number from_class to_class) s ≡ None → IsValid (changed (SetClasses number from_class to_class) s)
set_classes s number from_class to_class v free =
    let r = all_none (refusals (SetClasses number from_class to_class) s) free in
    let known = known_edge s number r.0 in
    let e = known.0 in
    let was = edge_found s number e v known.1 in
    let apart = different e.from e.to (when_none _ _ (said_at (edge_with s number) e (λ d. when (is_loop d) (SameNode d.from)) known.1 r.1.0)) in
    let source = found_by (node_with s e.from) e.from_class was.from in
    let target = found_by (node_with s e.to) e.to_class was.to in
    edge_changed s number (λ d. record d { from_class = from_class; to_class = to_class }) e v (record {
      known = known.1;
      keeps = λ d. refl;
      edge = record {
        from = serves_class s e.from from_class source.0 source.1 (said_at (edge_with s number) e (λ d. unknown_class s d.from from_class) known.1 r.1.1.0);
        to = serves_class s e.to to_class target.0 target.1 (said_at (edge_with s number) e (λ d. unknown_class s d.to to_class) known.1 r.1.1.1.0);
        loop = λ same. absurd (apart same);
        some_weight = was.some_weight;
        low_weight = was.low_weight;
        few_via = was.few_via;
        via = was.via;
      };
      via = let few = v.few_via in omega (arith, few);
    })

pub within_field : (x : ℤ) → is_off x (pos 0) ≡ false → unsigned_abs x ≤ 10 ^ 9
within_field x e = let l = ltb-false (10 ^ 9) (unsigned_abs x + unsigned_abs (pos 0)) e in omega (arith, ints, l)

pub add_via : (s : Scene) (number place : ℕ) (x y : ℤ) → IsValid s → refusal (AddVia number place x y) s ≡ None → IsValid (changed (AddVia number place x y) s)
add_via s number place x y v free =
    let p : Point = record { x = x; y = y } in
    let r = all_none (refusals (AddVia number place x y) s) free in
    let known = known_edge s number r.0 in
    let e = known.0 in
    let was = edge_found s number e v known.1 in
    let apart = different e.from e.to (when_none _ _ (said_at (edge_with s number) e (λ d. when (is_loop d) (SameNode d.from)) known.1 r.1.0)) in
    let within = place_within (suc (length e.via)) place (when_none _ _ (said_at (edge_with s number) e (λ d. when (is_no_place (suc (length d.via)) place) (NoSuchPlace place)) known.1 r.1.1.0)) in
    let on : IsOnField p = record { x = within_field x (when_none _ _ r.1.1.1.0); y = within_field y (when_none _ _ r.1.1.1.1.0) } in
    let short = leb-false 4 (length e.via) (when_none _ _ (said_at (edge_with s number) e (λ d. when (nat_le 4 (length d.via)) (TooMany 4)) known.1 r.1.1.1.1.1.0)) in
    let room = leb-false 256 (via_count s) (when_none _ _ r.1.1.1.1.1.1.0) in
    let k : ℕ = place - 1 in
    let low : k ≤ length e.via = omega (arith, within.0, within.1) in
    let l = length-insert e.via k p low in
    edge_changed s number (λ d. record d { via = insert d.via (place - 1) p }) e v (record {
      known = known.1;
      keeps = λ d. refl;
      edge = record {
        from = was.from;
        to = was.to;
        loop = λ same. absurd (apart same);
        some_weight = was.some_weight;
        low_weight = was.low_weight;
        few_via = omega (arith, l, short);
        via = All-append IsOnField (take k e.via) (p ∷ drop k e.via) (All-take IsOnField k e.via was.via) (All-cons IsOnField p (drop k e.via) on (All-drop IsOnField k e.via was.via));
      };
      via = omega (arith, l, room);
    })

pub drop_via : (s : Scene) (number place : ℕ) → IsValid s → refusal (DropVia number place) s ≡ None → IsValid (changed (DropVia number place) s)
drop_via s number place v free =
    let r = all_none (refusals (DropVia number place) s) free in
    let known = known_edge s number r.0 in
    let e = known.0 in
    let was = edge_found s number e v known.1 in
    let within = place_within (length e.via) place (when_none _ _ (said_at (edge_with s number) e (λ d. when (is_no_place (length d.via) place) (NoSuchPlace place)) known.1 r.1.0)) in
    let k : ℕ = place - 1 in
    let low : k < length e.via = omega (arith, within.0, within.1) in
    let l = length-remove e.via k low in
    edge_changed s number (λ d. record d { via = remove d.via (place - 1) }) e v (record {
      known = known.1;
      keeps = λ d. refl;
      edge = record {
        from = was.from;
        to = was.to;
        loop = λ same. let none = ap length (was.loop same).via in absurd (omega (arith, none, low));
        some_weight = was.some_weight;
        low_weight = was.low_weight;
        few_via = let few = was.few_via in omega (arith, l, few);
        via = All-append IsOnField (take k e.via) (drop (suc k) e.via) (All-take IsOnField k e.via was.via) (All-drop IsOnField (suc k) e.via was.via);
      };
      via = let few = v.few_via in omega (arith, l, few);
    })

not_below : (a b : ℤ) → int_lt a b ≡ false → b ≤ℤ a
not_below a b h = omega (arith, ints, h)

set_by : (what : Setting) (value : ℤ) (t : Settings) → AreSettings t → out_of_limits what value ≡ false → AreSettings (with_setting what value t)
set_by Penalty value t a h =
    let c = or_none (int_lt value (pos 1)) (int_lt (pos (10 ^ 9)) value) h in
    record { penalty = not_below value (pos 1) c.0; low_penalty = not_below (pos (10 ^ 9)) value c.1; buffer = a.buffer; low_buffer = a.low_buffer; nudge = a.nudge; low_nudge = a.low_nudge }
set_by Buffer value t a h =
    let c = or_none (int_lt value (pos 1)) (int_lt (pos (10 ^ 6)) value) h in
    record { penalty = a.penalty; low_penalty = a.low_penalty; buffer = not_below value (pos 1) c.0; low_buffer = not_below (pos (10 ^ 6)) value c.1; nudge = a.nudge; low_nudge = a.low_nudge }
set_by Nudge value t a h =
    let c = or_none (int_lt value (pos 0)) (int_lt (pos (10 ^ 6)) value) h in
    record { penalty = a.penalty; low_penalty = a.low_penalty; buffer = a.buffer; low_buffer = a.low_buffer; nudge = not_below value (pos 0) c.0; low_nudge = not_below (pos (10 ^ 6)) value c.1 }

pub set_value : (s : Scene) (what : Setting) (value : ℤ) → IsValid s → refusal (Set what value) s ≡ None → IsValid (changed (Set what value) s)
set_value s what value v free =
    let r = all_none (refusals (Set what value) s) free in
    record {
      ids_differ = v.ids_differ;
      nodes = v.nodes;
      few_nodes = v.few_nodes;
      few_pins = v.few_pins;
      numbers_rise = v.numbers_rise;
      below_next = v.below_next;
      edges = All-weaker (IsEdge s) (IsEdge (record s { settings = with_setting what value s.settings }))
          (λ e h. record { from = h.from; to = h.to; loop = h.loop; some_weight = h.some_weight; low_weight = h.low_weight; few_via = h.few_via; via = h.via }) s.edges v.edges;
      few_edges = v.few_edges;
      few_via = v.few_via;
      settings = set_by what value s.settings v.settings (when_none _ _ r.0);
      next = v.next;
    }
