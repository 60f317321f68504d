-- The first slanted segment, segment by segment.
use Rattle.std.proofs.Common.{ℕ, zero, suc, ◌+◌, ◌<◌, ◌≤◌, List, length, drop, sym, arith, subst, zero-add}
use Rattle.std.proofs.lemmas.List.{drop_all, drop_more}
use Rattle.plane_geom.specs.declared.point.Point.{Point}
use Rattle.plane_geom.specs.Point.{IsStraight}
use Rattle.walk_model.specs.Line.{AreStraight}
use Rattle.route_check.specs.Verdict.{FirstSlanted}
use Rattle.route_check.proofs.Segments.Corners.{corner, origin}

-- the segments up to corner number i, which is this point, are straight: what holds of the rest holds of the line
pub record StraightSoFar (first : Point) (rest : List Point) (i : ℕ) (p : Point) : Type 0 where
  pub straight : AreStraight p (drop i rest) → AreStraight first rest
  pub slanted : (k : ℕ) → FirstSlanted p (drop i rest) (suc k) → FirstSlanted first rest (i + suc k)

pub straight_none : (first : Point) (rest : List Point) → StraightSoFar first rest 0 first
straight_none first rest = record { straight = λ s. s; slanted = λ k f. rw zero-add f }

module _ (first : Point) (rest : List Point) (i : ℕ) (p : Point) (more : i < length rest) (so : StraightSoFar first rest i p) where
  pub straight_more : IsStraight p (corner rest i) → StraightSoFar first rest (i + 1) (corner rest i)
  straight_more is = record {
    straight = λ s. so.straight (subst (AreStraight p) (sym (drop_more rest i origin more)) (is, s));
    slanted = λ k f. subst (FirstSlanted first rest) (omega arith)
        (so.slanted (suc k) (subst (λ (qs : List Point). FirstSlanted p qs (suc (suc k))) (sym (drop_more rest i origin more)) (is, f)));
  }

  pub straight_stop : (IsStraight p (corner rest i) → ⊥) → FirstSlanted first rest (i + 1)
  straight_stop not = so.slanted 0 (subst (λ (qs : List Point). FirstSlanted p qs (suc zero)) (sym (drop_more rest i origin more)) not)

pub straight_all : (first : Point) (rest : List Point) (i : ℕ) (p : Point) → StraightSoFar first rest i p → length rest ≤ i → AreStraight first rest
straight_all first rest i p so done = so.straight (subst (AreStraight p) (sym (drop_all i rest done)) tt)
