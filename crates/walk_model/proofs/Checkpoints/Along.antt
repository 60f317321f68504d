-- Checkpoints on one stretch: where the next one stands, and which are left.
use Rattle.std.proofs.Common.{◌≡◌, ◌↔◌, ℕ, ◌+◌, ◌<◌, ◌≤◌, max, min, Option, Some, List, length, drop, get_or, sym, subst, ◌∙◌, arith, add-zero}
use Rattle.std.proofs.lemmas.List.{drop_more}
use Rattle.plane_geom.specs.declared.point.Point.{Point}
use Rattle.walk_model.specs.declared.stretch.Stretch.{Stretch}
use Rattle.walk_model.specs.Walk.{Walk, point_at}
use Rattle.walk_model.specs.Legal.{PassesMost}
use Rattle.walk_model.specs.Stretch.{GoesAlong, IsPointOf}
use Rattle.walk_model.proofs.Checkpoints.Passing.{most-first, most_none}

-- the first `count` checkpoints are passed by point number `place`: those passed from there on are added
pub record PassedSoFar (s : Stretch) (from to : ℕ) (via : List Point) (place count : ℕ) : Type 0 where
  pub begun : s.number ≤ place
  pub ahead : (w : Walk) → GoesAlong w s → (k : ℕ) → PassesMost w place (min to (s.number + s.steps)) (drop count via) k →
      PassesMost w (max from s.number) (min to (s.number + s.steps)) via (count + k)

-- a walk along the stretch stands on a point only where the point has that number
pub stands_where : (w : Walk) (s : Stretch) (p : Point) (j : ℕ) → GoesAlong w s → s.number ≤ j → j ≤ s.number + s.steps → point_at w j ≡ p → IsPointOf s j p
stands_where w s p j g low high e = subst (IsPointOf s j) e (g.at j low high)

-- and that is one number
pub stands_once : (w : Walk) (s : Stretch) (p : Point) (o : Option ℕ) (number j : ℕ) → GoesAlong w s → ((k : ℕ) → (o ≡ Some k) ↔ IsPointOf s k p) → o ≡ Some number → s.number ≤ j → j ≤ s.number + s.steps → point_at w j ≡ p → number ≤ j
stands_once w s p o number j g is found low high e =
    let same : Some number ≡ Some j = sym found ∙ (is j).1 (stands_where w s p j g low high e) in
    let equal : number ≡ j = cc in
    omega (arith, equal)

-- the next checkpoint is passed where it lies on the stretch
pub so_far_more : (s : Stretch) (from to : ℕ) (via : List Point) (place i number : ℕ) (d : Point) (o : Option ℕ) → i < length via → ((k : ℕ) → (o ≡ Some k) ↔ IsPointOf s k (get_or via i d)) → o ≡ Some number → place ≤ number → number ≤ to → PassedSoFar s from to via place i → PassedSoFar s from to via number (i + 1)
so_far_more s from to via place i number d o some is found after before so = record {
  begun = omega (arith, so.begun);
  ahead = λ w g k most.
      let c = get_or via i d in
      let last = min to (s.number + s.steps) in
      let here = (is number).0 found in
      let stands : point_at w number ≡ c = sym (g.at number here.begun here.within).at ∙ here.at in
      let only : (j : ℕ) → place ≤ j → j ≤ last → point_at w j ≡ c → number ≤ j = λ j low high. stands_once w s c o number j g is found (omega (arith, so.begun)) (omega arith) in
      let first = most-first w place number last c (drop (i + 1) via) k after (omega (arith, here.within)) stands only most in
      subst (PassesMost w (max from s.number) last via) (omega arith) (so.ahead w g (k + 1) (rw (drop_more via i d some) first));
}

-- and where it does not, none of those left is passed
pub so_far_stop : (s : Stretch) (from to : ℕ) (via : List Point) (place i : ℕ) (d : Point) (o : Option ℕ) → i < length via → ((k : ℕ) → (o ≡ Some k) ↔ IsPointOf s k (get_or via i d)) → ((k : ℕ) → o ≡ Some k → place ≤ k → k ≤ to → ⊥) → PassedSoFar s from to via place i → (w : Walk) → GoesAlong w s → PassesMost w (max from s.number) (min to (s.number + s.steps)) via i
so_far_stop s from to via place i d o some is not so w g =
    let c = get_or via i d in
    let last = min to (s.number + s.steps) in
    let nowhere : (j : ℕ) → place ≤ j → j ≤ last → point_at w j ≡ c → ⊥ = λ j low high e. not j ((is j).1 (stands_where w s c j g (omega (arith, so.begun)) (omega arith) e)) low (omega arith) in
    let none = most_none w place last c (drop (i + 1) via) nowhere in
    subst (PassesMost w (max from s.number) last via) (add-zero i) (so.ahead w g 0 (rw (drop_more via i d some) none))
