-- A node that is read may be loaded, and the diagram has no more pins than its limit with it.
use Rattle.std.proofs.Common.{◌≡◌, ℕ, suc, ◌+◌, ◌≤◌, ◌<◌, false, [], ◌∷◌, length, Option, Some, None, Result, refl, sym, ap, subst, arith, length-append, leb-false, Bor}
use Rattle.std.specs.Prelude.{ℤ, pos, ◌||◌, int_lt, nat_le, codes, option_and_then, is_some, IfOk}
use Rattle.std.specs.Option.{option_copied}
use Rattle.std.proofs.lemmas.Bool.Decides.{nat_tests}
use Rattle.std.proofs.lemmas.List.Elements.{All-nil, All-push}
use Rattle.fixed_milli.specs.declared.milli.MilliFault.{MilliFault}
use Rattle.gml_text.specs.Tree.{Content}
use Rattle.scene_model.specs.declared.node.Node.{Node}
use Rattle.scene_model.specs.Scene.{Scene, node_with, pin_count}
use Rattle.scene_model.specs.Edits.{half, is_off}
use Rattle.scene_model.specs.Loads.{IsLoadablePin, IsLoadableNode}
use Rattle.diagram_read.specs.declared.fault.Part.TheVariants as part
use Rattle.diagram_read.specs.declared.fault.DiagramFault.TheVariants.{BadId, SameId, NoPlace, BadNumber, OutOfRange, TooMany, BadPin}
use Rattle.diagram_read.specs.Faults.{◌>>=◌, need, refuse, each}
use Rattle.diagram_read.specs.Values.{ListEntry, value_at, values_at, as_list, milli_of, in_range, is_no_number, id_of}
use Rattle.diagram_read.specs.Pins.{pin_of}
use Rattle.diagram_read.specs.Nodes.{size_in, boxed, bare_node, with_pin, node_in}
use Rattle.diagram_read.proofs.Steps.{bound, kept, ok_holds, not_refused, there}
use Rattle.diagram_read.proofs.PinsRead.{pin_loadable, some_holds}

-- the node may be loaded, where the nodes before it have `before` pins
pub record IsRoomy (before : ℕ) (n : Node) : Type 0 where
  pub loadable : IsLoadableNode n
  pub few : before + length n.pins ≤ 256

pin_kept : (place before : ℕ) (n : Node) (value : Content) → IsRoomy before n → IfOk (with_pin place before n value) (IsRoomy before)
pin_kept place before n value roomy =
    bound _ (refuse (TooMany part.Pin) (nat_le 256 (before + length n.pins))) _ (λ few is.
    bound _ (need (BadPin place) (pin_of n value)) _ (λ pin got.
    let room = leb-false 256 (before + length n.pins) (not_refused (TooMany part.Pin) (nat_le 256 (before + length n.pins)) few is) in
    let more = length-append n.pins (pin ∷ []) in
    record {
      loadable = All-push IsLoadablePin n.pins pin roomy.loadable (some_holds (pin_of n value) pin IsLoadablePin (there (BadPin place) (pin_of n value) pin got) (pin_loadable n value));
      few = omega (arith, room, more);
    }))

abbrev IsBare : Node → Type 0
IsBare n = n.pins ≡ []

boxed_bare : (place : ℕ) (id : ℤ) (entry : ListEntry) (x y w h : Result ℤ MilliFault) → IfOk (boxed place id entry x y w h) IsBare
boxed_bare place id entry x y w h =
    bound _ (refuse (BadNumber part.Node place) (is_no_number x || (is_no_number y || (is_no_number w || is_no_number h)))) _ (λ numbers a.
    bound _ (need (OutOfRange part.Node place) (in_range x)) _ (λ x b.
    bound _ (need (OutOfRange part.Node place) (in_range y)) _ (λ y c.
    bound _ (need (OutOfRange part.Node place) (in_range w)) _ (λ w d.
    bound _ (need (OutOfRange part.Node place) (in_range h)) _ (λ h e.
    bound _ (refuse (OutOfRange part.Node place) (int_lt w (pos 0) || int_lt h (pos 0))) _ (λ sizes f.
    bound _ (refuse (OutOfRange part.Node place) (is_off x (half w) || is_off y (half h))) _ (λ corners g. refl)))))))

bare : (place : ℕ) (id : ℤ) (entry : ListEntry) → IfOk (bare_node place id entry) IsBare
bare place id entry =
    bound _ (need (NoPlace place) (option_and_then as_list (value_at (codes "graphics") entry.1))) _ (λ graphics a.
    bound _ (need (NoPlace place) (value_at (codes "x") graphics)) _ (λ x b.
    bound _ (need (NoPlace place) (value_at (codes "y") graphics)) _ (λ y c.
    boxed_bare place id entry (milli_of x) (milli_of y) (size_in (value_at (codes "w") graphics)) (size_in (value_at (codes "h") graphics)))))

begins : (before : ℕ) (n : Node) → IsBare n → before ≤ 256 → IsRoomy before n
begins before n bare few = record {
  loadable = subst (λ pins. IsLoadableNode (record n { pins = pins })) (sym bare) (All-nil IsLoadablePin);
  few = (let none = ap length bare in omega (arith, none));
}

pub node_roomy : (s : Scene) (entry : ListEntry) → pin_count s ≤ 256 → IfOk (node_in s entry) (IsRoomy (pin_count s))
node_roomy s entry few =
    let place = suc (length s.nodes) in
    bound _ (refuse (TooMany part.Node) (nat_le 256 (length s.nodes))) _ (λ nodes a.
    bound _ (need (BadId place) (option_and_then id_of (value_at (codes "id") entry.1))) _ (λ id b.
    bound _ (refuse (SameId place) (is_some (node_with s id))) _ (λ new c.
    bound _ (bare_node place id entry) _ (λ n d.
    kept (IsRoomy (pin_count s)) (with_pin place (pin_count s)) (pin_kept place (pin_count s)) n (values_at (codes "pin") entry.1)
    (begins (pin_count s) n (ok_holds (bare_node place id entry) n IsBare d (bare place id entry)) few)))))

fits : (m n : ℕ) → m < n → nat_le n m ≡ false
fits m n below = grind (arith, nat_tests)

-- the node of a list whose id is new
pub node_read_as : (s : Scene) (entry : ListEntry) (id : ℤ) (place before : ℕ) → place ≡ suc (length s.nodes) → before ≡ pin_count s → length s.nodes < 256
    → option_and_then id_of (value_at (codes "id") entry.1) ≡ Some id → is_some (node_with s id) ≡ false
    → node_in s entry ≡ (bare_node place id entry >>= (λ n. each (with_pin place before) n (values_at (codes "pin") entry.1)))
node_read_as s entry id place before here counted few known new = rw (here, counted, fits (length s.nodes) 256 few, known, new) refl

-- the value of a reference exists if the reference does
pub copied : {A : Type 0} (o : Option (Bor A)) → is_some (option_copied o) ≡ is_some o
copied None = refl
copied (Some r) = refl
