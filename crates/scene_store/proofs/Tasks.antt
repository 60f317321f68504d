-- Routing accepts the floor of a valid scene and the task of a connector.
use Rattle.std.proofs.Common.{◌≡◌, ◌≢◌, ℕ, Bool, true, false, not, Option, None, Some, List, [], ◌∷◌, refl, sym, subst, arith, int_eq, cond, eqb}
use Rattle.std.specs.Prelude.{ℤ, Result, Ok, Err, IfOk, IfSome, IsSomeAnd, Contains, filter}
use Rattle.std.specs.List.{AllByRecursion as Each}
use Rattle.std.specs.declared.alloc.AllocError.{AllocError}
use Rattle.std.proofs.lemmas.Bool.Decides.{Decides-int_eq}
use Rattle.std.proofs.lemmas.List.Elements.{Contains-append_right}
use Rattle.plane_geom.specs.declared.floor.Floor.{Floor}
use Rattle.plane_geom.specs.Floor.{IsFloor}
use Rattle.walk_model.specs.declared.task.Task.{Task}
use Rattle.walk_model.specs.Floors.{IsTaskOn}
use Rattle.scene_model.specs.declared.edge.Edge.{Edge}
use Rattle.scene_model.specs.Scene.{Scene, edge_with, connectors, is_loop}
use Rattle.scene_model.specs.Valid.{IsValid}
use Rattle.scene_model.specs.Routing.{floor_of, solids, task_of}
use Rattle.scene_model.proofs.Editing.Entries.{each_weaker, found_has}
use Rattle.scene_model.proofs.ForRouting.Floors.{floors_fit, floors_hold_tasks}

module _ {X : Type 0} where
  here : (x : X) (xs : List X) (b : Bool) → b ≡ true → Contains (cond b (x ∷ xs) xs) x
  here x xs b h = subst (λ c. Contains (cond c (x ∷ xs) xs) x) (sym h) (0, omega arith, refl)

  later : (x y : X) (xs : List X) (b : Bool) → Contains xs y → Contains (cond b (x ∷ xs) xs) y
  later x y xs true has = Contains-append_right (x ∷ []) xs y has
  later x y xs false has = has

  -- an entry that passes is among those that pass
  pub passing : (p : X → Bool) (xs : List X) → Each (λ x. p x ≡ true → Contains (filter p xs) x) xs
  passing p [] = tt
  passing p (x ∷ xs) =
      (here x (filter p xs) (p x), each_weaker (λ y. p y ≡ true → Contains (filter p xs) y) (λ y. p y ≡ true → Contains (filter p (x ∷ xs)) y) (λ y has h. later x y (filter p xs) (p x) (has h)) xs (passing p xs))

apart : (a b : ℤ) → a ≢ b → not (int_eq a b) ≡ true
apart a b differ = by (int_eq a b) refl
  where
    by : (c : Bool) → int_eq a b ≡ c → not c ≡ true
    by true e = absurd (differ ((Decides-int_eq a b).0 e))
    by false e = refl

pub is_connector : (s : Scene) (number : ℕ) (e : Edge) → edge_with s number ≡ Some e → e.from ≢ e.to → Contains (connectors s) e
is_connector s number e known differ =
    found_has (λ d. eqb d.number number) (λ d. not (is_loop d) ≡ true → Contains (connectors s) d) s.edges e known (passing (λ d. not (is_loop d)) s.edges) (apart e.from e.to differ)

pub floor_fits : (s : Scene) (r : Result Floor AllocError) → IsValid s → IfOk r (λ f. f ≡ floor_of s) → IfOk r IsFloor
floor_fits s (Ok f) v made = subst IsFloor (sym made) (floors_fit s v)
floor_fits s (Err e) v made = tt

pub task_fits : (s : Scene) (number : ℕ) (r : Result Task AllocError) → IsValid s → IsSomeAnd (edge_with s number) (λ e. e.from ≢ e.to)
    → IfOk r (λ t. IfSome (edge_with s number) (λ e. t ≡ task_of s e)) → IfOk r (IsTaskOn (solids s))
task_fits s number (Err e) v there made = tt
task_fits s number (Ok t) v there made = by (edge_with s number) refl there made
  where
    by : (o : Option Edge) → edge_with s number ≡ o → IsSomeAnd o (λ e. e.from ≢ e.to) → IfSome o (λ e. t ≡ task_of s e) → IsTaskOn (solids s) t
    by None known differ is = absurd differ
    by (Some e) known differ is = subst (IsTaskOn (solids s)) (sym is) (floors_hold_tasks s e v (is_connector s number e known differ)).task
