-- Bends, runs, sums of run coordinates and free steps of two lists of steps, one after the other.
use Rattle.std.proofs.Common.{◌≡◌, ◌≢◌, ℕ, ◌+◌, ◌-◌, ◌≤◌, ℤ, ◌+ℤ◌, Option, Some, List, [], ◌∷◌, ◌++◌, length, take, drop, get_or, All, inl, inr, refl, sym, ap, subst, ◌∙◌, arith}
use Rattle.std.proofs.lemmas.Bool.{cases_lt}
use Rattle.std.proofs.lemmas.Int.{ints}
use Rattle.std.proofs.lemmas.List.{take-append-le, take_at, drop_at, get_or-drop, get_or_append_left}
use Rattle.std.proofs.Math.Seq.{take-add}
use Rattle.plane_geom.specs.declared.point.Point.{Point}
use Rattle.plane_geom.specs.declared.point.Dir.{Dir}
use Rattle.plane_geom.specs.declared.point.Dir.TheVariants.{East}
use Rattle.plane_geom.specs.declared.rect.Solid.{Solid}
use Rattle.plane_geom.specs.Point.{forward}
use Rattle.plane_geom.specs.Rect.{StepMeets}
use Rattle.walk_model.specs.Walk.{Walk, after, point_at, step_at, MeetsAt}
use Rattle.walk_model.specs.Cost.{bends_after, runs_after}
use Rattle.walk_model.specs.Lean.{lean_after}
use Rattle.walk_model.specs.Legal.{IsFree}
use Rattle.walk_model.proofs.CornerByCorner.Scan.{after-append}

-- the last of some steps
abbrev pub last_of : Dir → List Dir → Dir
last_of d [] = d
last_of d (e ∷ es) = last_of e es

-- for the steps after them, only the last step in front matters
pub bends_after-append : (d : Dir) (xs ds : List Dir) → bends_after d (xs ++ ds) ≡ bends_after d xs + bends_after (last_of d xs) ds
bends_after-append d [] ds = omega arith
bends_after-append d (e ∷ xs) ds = omega (arith, bends_after-append e xs ds)

pub runs_after-append : (d : Dir) (xs ds : List Dir) → runs_after d (xs ++ ds) ≡ runs_after d xs + runs_after (last_of d xs) ds
runs_after-append d [] ds = omega arith
runs_after-append d (e ∷ xs) ds = omega (arith, runs_after-append e xs ds)

pub lean_after-append : (d : Dir) (p : Point) (xs ds : List Dir) → lean_after d p (xs ++ ds) ≡ lean_after d p xs +ℤ lean_after (last_of d xs) (after p xs) ds
lean_after-append d p [] ds = omega (arith, ints)
lean_after-append d p (e ∷ xs) ds = omega (arith, ints, lean_after-append e (forward e 1 p) xs ds)

-- free steps in two ranges
pub free_together : (solids : List Solid) (may : Option ℤ) (w : Walk) (from mid to : ℕ) → IsFree solids may w from mid → IsFree solids may w mid to → IsFree solids may w from to
free_together solids may w from mid to h k n low high = elim (cases_lt n mid) as (λ _. All (λ s. Some s.node ≢ may → MeetsAt s.rect w n → ⊥) solids) [
  | inl l ↦ h n low l
  | inr l ↦ k n l high
]

-- what is free along the steps in front or after them is free along all
module _ (solids : List Solid) (may : Option ℤ) (p : Point) (xs ys : List Dir) where
  abbrev front : Walk
  front = record { start = p; steps = xs }

  abbrev behind : Walk
  behind = record { start = after p xs; steps = ys }

  abbrev whole : Walk
  whole = record { start = p; steps = xs ++ ys }

  pub free_in_front : (from to : ℕ) → to ≤ length xs → IsFree solids may front from to → IsFree solids may whole from to
  free_in_front from to h free n low high =
      let there : point_at front n ≡ point_at whole n = ap (after p) (sym (take-append-le n xs ys (omega (arith, h, high)))) in
      let step : step_at front n ≡ step_at whole n = sym (get_or_append_left xs ys East n (omega (arith, h, high))) in
      subst (λ q. All (λ s. Some s.node ≢ may → StepMeets s.rect q (step_at whole n) → ⊥) solids) there
      (subst (λ d. All (λ s. Some s.node ≢ may → StepMeets s.rect (point_at front n) d → ⊥) solids) step (free n low high))

  pub free_behind : (from to : ℕ) → IsFree solids may behind from to → IsFree solids may whole (length xs + from) (length xs + to)
  free_behind from to free n low high =
      let k = n - length xs in
      let number : n ≡ length xs + k = omega (arith, low) in
      let rest : drop (length xs) (xs ++ ys) ≡ ys = drop_at xs ys (length xs) refl in
      let there : point_at behind k ≡ point_at whole n =
      sym (ap (λ i. after p (take i (xs ++ ys))) number ∙ ap (after p) (take-add (length xs) k (xs ++ ys))
      ∙ ap (λ ds. after p (ds ++ take k (drop (length xs) (xs ++ ys)))) (take_at xs ys (length xs) refl) ∙ ap (λ ds. after p (xs ++ take k ds)) rest ∙ after-append p xs (take k ys)) in
      let step : step_at behind k ≡ step_at whole n =
      sym (ap (λ i. get_or (xs ++ ys) i East) number ∙ sym (get_or-drop (length xs) (xs ++ ys) k East) ∙ ap (λ ds. get_or ds k East) rest) in
      subst (λ q. All (λ s. Some s.node ≢ may → StepMeets s.rect q (step_at whole n) → ⊥) solids) there
      (subst (λ d. All (λ s. Some s.node ≢ may → StepMeets s.rect (point_at behind k) d → ⊥) solids) step (free k (omega (arith, low)) (omega (arith, low, high))))
