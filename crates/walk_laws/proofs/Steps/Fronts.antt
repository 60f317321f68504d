-- What the steps in front leave to those after them: their last direction.
use Rattle.std.proofs.Common.{◌≡◌, ◌+◌, ◌+ℤ◌, List, [], ◌∷◌, ◌++◌, Option, Some, None, refl, ap, subst, arith}
use Rattle.std.proofs.lemmas.Int.{ints}
use Rattle.plane_geom.specs.declared.point.Point.{Point}
use Rattle.plane_geom.specs.declared.point.Dir.{Dir}
use Rattle.plane_geom.specs.Point.{forward}
use Rattle.walk_model.specs.Walk.{after}
use Rattle.walk_model.specs.Cost.{bends, runs}
use Rattle.walk_model.specs.Lean.{lean}
use Rattle.walk_model.proofs.CornerByCorner.Appending.{last_of, bends_after-append, runs_after-append, lean_after-append}
use Rattle.walk_model.proofs.CornerByCorner.Bends.{bends_from}
use Rattle.walk_model.proofs.CornerByCorner.Shapes.{runs_from, lean_from}

-- all that the steps in front leave to those after them is their last direction
pub record Leave (front : List Dir) (last : Option Dir) : Type 0 where
  pub bends_on : (ds : List Dir) → bends (front ++ ds) ≡ bends front + bends_from last ds
  pub runs_on : (ds : List Dir) → runs (front ++ ds) ≡ runs front + runs_from last ds
  pub lean_on : (p : Point) (ds : List Dir) → lean p (front ++ ds) ≡ lean p front +ℤ lean_from last (after p front) ds

pub leave : (front : List Dir) → (last : Option Dir) × Leave front last
leave [] = (None, record { bends_on = λ ds. omega arith; runs_on = λ ds. omega arith; lean_on = λ p ds. omega (arith, ints) })
leave (d ∷ xs) = (
  Some (last_of d xs),
  record {
    bends_on = λ ds. bends_after-append d xs ds;
    runs_on = λ ds. omega (arith, runs_after-append d xs ds);
    lean_on = λ p ds. omega (arith, ints, lean_after-append d (forward d 1 p) xs ds);
  },
)

last_end : (d : Dir) (xs : List Dir) (u : Dir) → last_of d (xs ++ u ∷ []) ≡ u
last_end d [] u = refl
last_end d (e ∷ xs) u = last_end e xs u

-- steps that end with a step leave its direction
pub leave_end : (front : List Dir) (u : Dir) → Leave (front ++ u ∷ []) (Some u)
unfolding leave
leave_end [] u = (leave (u ∷ [])).1
leave_end (d ∷ xs) u = subst (Leave (d ∷ (xs ++ u ∷ []))) (ap Some (last_end d xs u)) (leave (d ∷ (xs ++ u ∷ []))).1
