-- What is known where an edit is not refused.
use Rattle.std.proofs.Common.{◌≡◌, ◌⊎◌, inl, inr, ℕ, zero, suc, ◌+◌, ◌<◌, ◌≤◌, Bool, true, false, cond, not, ◌||◌, Option, None, Some, is_some, List, [], ◌∷◌, ◌++◌, length, refl, sym, subst, arith, true≢false, ltb-false}
use Rattle.std.specs.Prelude.{position, remove, slice_get, is_none, option_map, option_and_then, ℤ, ◌==◌, nat_lt}
use Rattle.std.specs.List.{AllByRecursion as Each, position_or_len, list_any}
use Rattle.std.proofs.lemmas.Bool.{eqb-false}
use Rattle.std.proofs.lemmas.Option.{same_Some}
use Rattle.scene_model.specs.declared.node.Node.{Node}
use Rattle.scene_model.specs.declared.edge.Edge.{Edge}
use Rattle.scene_model.specs.declared.fault.SceneFault.{SceneFault}
use Rattle.scene_model.specs.declared.fault.SceneFault.TheVariants.{UnknownNode, UnknownEdge}
use Rattle.scene_model.specs.Scene.{Scene, node_with, edge_with}
use Rattle.scene_model.specs.Edits.{when, first_some, unknown_node, unknown_edge, is_no_place}
use Rattle.scene_model.proofs.Editing.Entries.{some_none}

-- none of the refusals holds
abbrev pub AreNone : List (Option SceneFault) → Type 0
AreNone [] = Unit {0}
AreNone (r ∷ rs) = (r ≡ None) × AreNone rs

pub all_none : (rs : List (Option SceneFault)) → first_some rs ≡ None → AreNone rs
all_none [] h = tt
all_none (None ∷ rs) h = (refl, all_none rs h)
all_none (Some f ∷ rs) h = absurd (some_none f h)

pub when_none : (b : Bool) (f : SceneFault) → when b f ≡ None → b ≡ false
when_none true f h = absurd (some_none f h)
when_none false f h = refl

pub some_of : {X : Type 0} (o : Option X) → is_none o ≡ false → (x : X) × (o ≡ Some x)
some_of None h = absurd (true≢false h)
some_of (Some x) h = (x, refl)

pub none_of : {X : Type 0} (o : Option X) → is_some o ≡ false → o ≡ None
none_of None h = refl
none_of (Some x) h = absurd (true≢false h)

pub known_node : (s : Scene) (id : ℤ) → unknown_node s id ≡ None → (n : Node) × (node_with s id ≡ Some n)
known_node s id h = some_of (node_with s id) (when_none (is_none (node_with s id)) (UnknownNode id) h)

pub known_edge : (s : Scene) (number : ℕ) → unknown_edge s number ≡ None → (e : Edge) × (edge_with s number ≡ Some e)
known_edge s number h = some_of (edge_with s number) (when_none (is_none (edge_with s number)) (UnknownEdge number) h)

pub said_at : {X Y : Type 0} (o : Option X) (x : X) (says : X → Option Y) → o ≡ Some x → option_and_then says o ≡ None → says x ≡ None
said_at o x says e h = subst (λ z. option_and_then says z ≡ None) e h

pub map_none : {X Y : Type 0} (f : X → Y) (o : Option X) → option_map f o ≡ None → o ≡ None
map_none f None h = refl
map_none f (Some x) h = absurd (some_none (f x) h)

pub or_none : (b c : Bool) → (b || c) ≡ false → (b ≡ false) × (c ≡ false)
or_none true c h = absurd (true≢false h)
or_none false c h = (refl, h)

pub place_within : (count place : ℕ) → is_no_place count place ≡ false → (0 < place) × (place ≤ count)
place_within count place h =
    let c = or_none (place == 0) (nat_lt count place) h in
    let l = ltb-false count place c.1 in
    let m = eqb-false place 0 c.0 in
    (omega (arith, m), l)

passes_by : {X : Type 0} (p : X → Bool) (x : X) (xs : List X) (b : Bool) → p x ≡ b → suc (length xs) ≤ cond (not b) (1 + position_or_len p xs) 0 → (b ≡ false) × (length xs ≤ position_or_len p xs)
passes_by p x xs true e h = absurd (omega (arith, h))
passes_by p x xs false e h = (refl, omega (arith, h))

none_from_len : {X : Type 0} (p : X → Bool) (xs : List X) → length xs ≤ position_or_len p xs → Each (λ x. p x ≡ false) xs
none_from_len p [] h = tt
none_from_len p (x ∷ xs) h = let c = passes_by p x xs (p x) refl h in (c.0, none_from_len p xs c.1)

len_by : (b : Bool) (n : ℕ) → cond b (Some n) None ≡ None → b ≡ false
len_by true n h = absurd (some_none n h)
len_by false n h = refl

-- where there is no first one that passes, none passes
pub none_at : {X : Type 0} (p : X → Bool) (xs : List X) → position p xs ≡ None → Each (λ x. p x ≡ false) xs
none_at p xs h = none_from_len p xs (ltb-false (position_or_len p xs) (length xs) (len_by (nat_lt (position_or_len p xs) (length xs)) (position_or_len p xs) h))

any_by : (b c : Bool) → (b || c) ≡ true → (b ≡ true) ⊎ (c ≡ true)
any_by true c h = inl refl
any_by false c h = inr h

any_later : (b c : Bool) → c ≡ true → (b || c) ≡ true
any_later true c h = refl
any_later false c h = h

any_here : (b c : Bool) → b ≡ true → (b || c) ≡ true
any_here b c h = rw h refl

pub any_more : {X : Type 0} (q : X → Bool) (xs ys : List X) → list_any q xs ≡ true → list_any q (xs ++ ys) ≡ true
any_more q [] ys h = absurd (true≢false (sym h))
any_more q (x ∷ xs) ys h = elim (any_by (q x) (list_any q xs) h) [
  | inl e ↦ any_here (q x) (list_any q (xs ++ ys)) e
  | inr e ↦ any_later (q x) (list_any q (xs ++ ys)) (any_more q xs ys e)
]

-- without one of them there is another, or it was that one
pub any_left : {X : Type 0} (q : X → Bool) (xs : List X) (k : ℕ) (x : X) → slice_get xs k ≡ Some x → list_any q xs ≡ true → (list_any q (remove xs k) ≡ true) ⊎ (q x ≡ true)
any_left q [] k x g h = absurd (true≢false (sym h))
any_left q (y ∷ ys) zero x g h = elim (any_by (q y) (list_any q ys) h) [
  | inl e ↦ inr (subst (λ z. q z ≡ true) (same_Some y x g) e)
  | inr e ↦ inl e
]
any_left q (y ∷ ys) (suc k) x g h = elim (any_by (q y) (list_any q ys) h) [
  | inl e ↦ inl (any_here (q y) (list_any q (remove ys k)) e)
  | inr e ↦ elim (any_left q ys k x g e) [
    | inl f ↦ inl (any_later (q y) (list_any q (remove ys k)) f)
    | inr f ↦ inr f
  ]
]
