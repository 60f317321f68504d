-- No refusal is out of memory.
use Rattle.std.proofs.Common.{◌≡◌, ℕ, ◌+◌, ◌-◌, ℤ, Bool, true, false, if◌then◌else◌, Option, None, Some, List, [], ◌∷◌, suc, refl, sym, ap, ◌∙◌, true≢false}
use Rattle.std.specs.Prelude.{option_map, option_and_then, slice_get, remove, find, position, Err, ◌==◌}
use Rattle.std.specs.List.{list_any}
use Rattle.std.proofs.lemmas.Option.{none-some, same_Some}
use Rattle.plane_geom.specs.declared.point.Point.{Point}
use Rattle.scene_model.specs.declared.pin.Pin.{Pin}
use Rattle.scene_model.specs.declared.node.Node.{Node}
use Rattle.scene_model.specs.declared.edge.Edge.{Edge}
use Rattle.scene_model.specs.declared.edit.Edit.{Edit}
use Rattle.scene_model.specs.declared.edit.Edit.TheVariants.{AddNode, MoveNode, SizeNode, DropNode, AddPin, DropPin, AddEdge, CutEdge, SetClasses, AddVia, DropVia, Set}
use Rattle.scene_model.specs.declared.fault.SceneFault.{SceneFault}
use Rattle.scene_model.specs.declared.fault.SceneFault.TheVariants.{UnknownNode, UnknownEdge, NodeExists, NodeInUse, SameNode, OutOfRange, PinOutside, UnknownPinClass, NoSuchPlace, TooMany, PinInUse, Memory}
use Rattle.scene_model.specs.Scene.{Scene, node_with, edge_with, pin_count, via_count}
use Rattle.scene_model.specs.Edits.{when, first_some, refusal, refusals, in_use, uses, touches, half, is_outside, IsDone}
use Rattle.scene_model.specs.Loads.{pin_refusals, via_refusals, node_refusal, node_refusals, edge_refusal, edge_refusals}

abbrev is_memory : SceneFault → Bool
is_memory Memory = true
is_memory f = false

-- it is not out of memory
abbrev pub Calm : Option SceneFault → Type 0
Calm o = o ≡ Some Memory → ⊥

abbrev AreCalm : List (Option SceneFault) → Type 0
AreCalm [] = Unit {0}
AreCalm (r ∷ rs) = Calm r × AreCalm rs

first_calm : (rs : List (Option SceneFault)) → AreCalm rs → Calm (first_some rs)
first_calm [] c h = absurd (none-some Memory h)
first_calm (None ∷ rs) c h = first_calm rs c.1 h
first_calm (Some f ∷ rs) c h = c.0 h

calm_some : (f : SceneFault) → is_memory f ≡ false → Calm (Some f)
calm_some f other h = true≢false (sym (ap is_memory (same_Some f Memory h)) ∙ other)

calm_when : (b : Bool) (f : SceneFault) → is_memory f ≡ false → Calm (when b f)
calm_when true f other h = calm_some f other h
calm_when false f other h = absurd (none-some Memory h)

calm_at : {X : Type 0} (o : Option X) (says : X → Option SceneFault) → ((x : X) → Calm (says x)) → Calm (option_and_then says o)
calm_at None says c h = absurd (none-some Memory h)
calm_at (Some x) says c h = c x h

calm_map : {X : Type 0} (o : Option X) (f : X → SceneFault) → ((x : X) → is_memory (f x) ≡ false) → Calm (option_map f o)
calm_map None f other h = absurd (none-some Memory h)
calm_map (Some x) f other h = calm_some (f x) (other x) h

calm_use_by : (b : Bool) (o : Option Edge) → Calm (if b then None else option_map (λ e. PinInUse e.number) o)
calm_use_by true o h = absurd (none-some Memory h)
calm_use_by false o h = calm_map o (λ e. PinInUse e.number) (λ e. refl) h

calm_use : (s : Scene) (n : Node) (place : ℕ) (p : Pin) → Calm (in_use s n place p)
calm_use s n place p = calm_use_by (list_any (λ other. other.class == p.class) (remove n.pins (place - 1))) (find (uses n.id p.class) s.edges)

calm_node : (s : Scene) (id : ℤ) (test : Node → Bool) (f : Node → SceneFault) → ((n : Node) → is_memory (f n) ≡ false) → Calm (option_and_then (λ n. when (test n) (f n)) (node_with s id))
calm_node s id test f other = calm_at (node_with s id) (λ n. when (test n) (f n)) (λ n. calm_when (test n) (f n) (other n))

calm_edge : (s : Scene) (number : ℕ) (test : Edge → Bool) (f : Edge → SceneFault) → ((e : Edge) → is_memory (f e) ≡ false) → Calm (option_and_then (λ e. when (test e) (f e)) (edge_with s number))
calm_edge s number test f other = calm_at (edge_with s number) (λ e. when (test e) (f e)) (λ e. calm_when (test e) (f e) (other e))

calm_refusals : (e : Edit) (s : Scene) → AreCalm (refusals e s)
calm_refusals (AddNode id x y w h) s = (calm_when _ _ refl, (calm_when _ _ refl, (calm_when _ _ refl, (calm_when _ _ refl, (calm_when _ _ refl, (calm_when _ _ refl, tt))))))
calm_refusals (MoveNode id x y) s = (calm_when _ _ refl, (calm_node s id _ _ (λ n. refl), (calm_node s id _ _ (λ n. refl), tt)))
calm_refusals (SizeNode id w h) s = (calm_when _ _ refl, (calm_when _ _ refl, (calm_node s id _ _ (λ n. refl), (calm_when _ _ refl, (calm_node s id _ _ (λ n. refl), (calm_at (node_with s id) _ (λ n. calm_map (position (is_outside (half w) (half h)) n.pins) (λ k. PinOutside (suc k)) (λ k. refl)), tt))))))
calm_refusals (DropNode id) s = (calm_when _ _ refl, (calm_map (find (touches id) s.edges) (λ e. NodeInUse e.number) (λ e. refl), tt))
calm_refusals (AddPin id class dx dy dirs) s = (calm_when _ _ refl, (calm_when _ _ refl, (calm_when _ _ refl, (calm_node s id _ _ (λ n. refl), tt))))
calm_refusals (DropPin id place) s = (calm_when _ _ refl, (calm_node s id _ _ (λ n. refl), (calm_at (node_with s id) _ (λ n. calm_at (slice_get n.pins (place - 1)) (in_use s n place) (calm_use s n place)), tt)))
calm_refusals (AddEdge from to from_class to_class) s = (calm_when _ _ refl, (calm_when _ _ refl, (calm_when _ _ refl, (calm_node s from _ _ (λ n. refl), (calm_node s to _ _ (λ n. refl), (calm_when _ _ refl, (calm_when _ _ refl, tt)))))))
calm_refusals (CutEdge number) s = (calm_when _ _ refl, tt)
calm_refusals (SetClasses number from_class to_class) s = (calm_when _ _ refl, (calm_edge s number _ _ (λ e. refl), (calm_at (edge_with s number) _ (λ e. calm_node s e.from _ _ (λ n. refl)), (calm_at (edge_with s number) _ (λ e. calm_node s e.to _ _ (λ n. refl)), tt))))
calm_refusals (AddVia number place x y) s = (calm_when _ _ refl, (calm_edge s number _ _ (λ e. refl), (calm_edge s number _ _ (λ e. refl), (calm_when _ _ refl, (calm_when _ _ refl, (calm_edge s number _ _ (λ e. refl), (calm_when _ _ refl, tt)))))))
calm_refusals (DropVia number place) s = (calm_when _ _ refl, (calm_edge s number _ _ (λ e. refl), tt))
calm_refusals (Set what value) s = (calm_when _ _ refl, tt)

pub calm_edit : (e : Edit) (s : Scene) → Calm (refusal e s)
calm_edit e s = first_calm (refusals e s) (calm_refusals e s)

calm_pins : (half_w half_h : ℤ) (count place : ℕ) (ps : List Pin) → AreCalm (pin_refusals half_w half_h count place ps)
calm_pins half_w half_h count place [] = tt
calm_pins half_w half_h count place (p ∷ ps) = (calm_when _ _ refl, (calm_when _ _ refl, (calm_when _ _ refl, calm_pins half_w half_h (count + 1) (place + 1) ps)))

calm_via : (own count : ℕ) (ps : List Point) → AreCalm (via_refusals own count ps)
calm_via own count [] = tt
calm_via own count (p ∷ ps) = (calm_when _ _ refl, (calm_when _ _ refl, (calm_when _ _ refl, (calm_when _ _ refl, calm_via (own + 1) (count + 1) ps))))

pub calm_load_node : (n : Node) (s : Scene) → Calm (node_refusal n s)
calm_load_node n s = first_calm (node_refusals n s) (calm_when _ _ refl, (calm_when _ _ refl, (calm_when _ _ refl, (calm_when _ _ refl, (calm_when _ _ refl, (calm_when _ _ refl, calm_pins n.half_w n.half_h (pin_count s) 1 n.pins))))))

pub calm_load_edge : (e : Edge) (s : Scene) → Calm (edge_refusal e s)
calm_load_edge e s = first_calm (edge_refusals e s) (calm_when _ _ refl, (calm_when _ _ refl, (calm_node s e.from _ _ (λ n. refl), (calm_node s e.to _ _ (λ n. refl), (calm_when _ _ refl, calm_via 0 (via_count s) e.via)))))

-- a refusal is answered as it is
pub refused : (r : Option SceneFault) (after old new : Scene) (f : SceneFault) → Calm r → r ≡ Some f → new ≡ old → IsDone r after old new (Err f)
refused r after old new Memory calm h same = absurd (calm h)
refused r after old new (UnknownNode id) calm h same = (h, same)
refused r after old new (UnknownEdge number) calm h same = (h, same)
refused r after old new (NodeExists id) calm h same = (h, same)
refused r after old new (NodeInUse edge) calm h same = (h, same)
refused r after old new (SameNode id) calm h same = (h, same)
refused r after old new (OutOfRange word) calm h same = (h, same)
refused r after old new (PinOutside place) calm h same = (h, same)
refused r after old new (UnknownPinClass class) calm h same = (h, same)
refused r after old new (NoSuchPlace place) calm h same = (h, same)
refused r after old new (TooMany limit) calm h same = (h, same)
refused r after old new (PinInUse edge) calm h same = (h, same)
