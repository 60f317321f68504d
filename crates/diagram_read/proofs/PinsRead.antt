-- A pin that is read may be loaded.
use Rattle.std.proofs.Common.{◌≡◌, true, false, Option, Some, None, refl, subst, arith}
use Rattle.std.specs.Prelude.{ℤ, pos, ◌≤ℤ◌, ◌^◌, ◌||◌, int_lt, codes, option_and_then, IfSome}
use Rattle.std.proofs.lemmas.Int.{ints}
use Rattle.scene_model.proofs.Editing.Refusals.{or_none}
use Rattle.gml_text.specs.Tree.{Content, number, text, list}
use Rattle.scene_model.specs.declared.node.Node.{Node}
use Rattle.scene_model.specs.declared.pin.Pin.{Pin}
use Rattle.scene_model.specs.declared.pin.Dirs.{Dirs}
use Rattle.scene_model.specs.Valid.{HasDirection}
use Rattle.scene_model.specs.Edits.{is_outside}
use Rattle.scene_model.specs.Loads.{IsLoadablePin}
use Rattle.scene_model.proofs.Directions.{dirs_lead, tested}
use Rattle.scene_model.proofs.Directions.Tested.{yes, no}
use Rattle.diagram_read.specs.Values.{value_at, as_list, class_of, exact_at, in_range, milli_of}
use Rattle.diagram_read.specs.Pins.{added_class, dirs_in, in_costs, cost_in, within_box, pin_of}

-- what holds of what follows a value that is there
followed : {A B : Type 0} (P : B → Type 0) (o : Option A) (next : A → Option B) → ((x : A) → o ≡ Some x → IfSome (next x) P) → IfSome (option_and_then next o) P
followed P None next holds = tt
followed P (Some x) next holds = holds x refl

-- the directions of a pin lead somewhere
lead : (value : Option Content) (d : Dirs) → dirs_in value ≡ Some d → HasDirection d
lead None d is = subst HasDirection (let e : record { east = true; south = true; west = true; north = true } ≡ d = cc in e) refl
lead (Some (number bytes)) d is = cc
lead (Some (text letters)) d is = dirs_lead letters d is
lead (Some (list inner)) d is = cc

-- the bounds of a cost
record IsCost (cost : ℤ) : Type 0 where
  pub low : pos 0 ≤ℤ cost
  pub high : cost ≤ℤ pos (10 ^ 9)

not_below : (a b : ℤ) → int_lt a b ≡ false → b ≤ℤ a
not_below a b h = omega (arith, ints, h)

in_cost : (cost : ℤ) → IfSome (in_costs cost) IsCost
in_cost cost = elim (tested (int_lt cost (pos 0) || int_lt (pos (10 ^ 9)) cost)) as (λ _. IfSome (in_costs cost) IsCost) [
  | yes h ↦ rw h tt
  | no h ↦
      (let within = or_none (int_lt cost (pos 0)) (int_lt (pos (10 ^ 9)) cost) h in
      rw h (record { low = not_below cost (pos 0) within.0; high = not_below (pos (10 ^ 9)) cost within.1 }))
]

costs : (value : Option Content) → IfSome (cost_in value) IsCost
costs None = record { low = omega (arith, ints); high = omega (arith, ints) }
costs (Some value) = followed _ (in_range (milli_of value)) _ (λ cost is. in_cost cost)

-- a fact of a value, where it is known
pub some_holds : {A : Type 0} (o : Option A) (x : A) (P : A → Type 0) → o ≡ Some x → IfSome o P → P x
some_holds o x P is holds = subst (λ q. IfSome q P) is holds

inside : (n : Node) (p : Pin) → IsLoadablePin p → IfSome (within_box n p) IsLoadablePin
inside n p loadable = elim (tested (is_outside n.half_w n.half_h p)) as (λ _. IfSome (within_box n p) IsLoadablePin) [ yes h ↦ rw h tt | no h ↦ rw h loadable ]

pub pin_loadable : (n : Node) (value : Content) → IfSome (pin_of n value) IsLoadablePin
pin_loadable n value =
    followed _ (as_list value) _ (λ pairs a.
    followed _ (option_and_then class_of (value_at (codes "class") pairs)) _ (λ class b.
    followed _ (added_class class) _ (λ added c.
    followed _ (exact_at (codes "x") pairs) _ (λ dx d.
    followed _ (exact_at (codes "y") pairs) _ (λ dy e.
    followed _ (dirs_in (value_at (codes "dirs") pairs)) _ (λ dirs f.
    followed _ (cost_in (value_at (codes "cost") pairs)) _ (λ cost g.
    let bounds = some_holds (cost_in (value_at (codes "cost") pairs)) cost IsCost g (costs (value_at (codes "cost") pairs)) in
    inside n (record { class = added; dx = dx; dy = dy; dirs = dirs; cost = cost })
    (record { direction = lead (value_at (codes "dirs") pairs) dirs f; cost = bounds.low; low_cost = bounds.high }))))))))
