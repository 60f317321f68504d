-- The equal steps at the ends of a line, segment by segment.
use Rattle.std.proofs.Common.{◌≡◌, ℕ, ◌+◌, ◌-◌, ◌<◌, ◌≤◌, ◌⊎◌, List, length, sym, ◌∙◌, inl, inr, arith, All, subst}
use Rattle.std.proofs.lemmas.Bool.{cases_lt}
use Rattle.plane_geom.specs.declared.point.Point.{Point}
use Rattle.plane_geom.specs.declared.point.Dir.{Dir}
use Rattle.plane_geom.specs.Point.{PointIsOnSheet, distance, heading}
use Rattle.walk_model.specs.Walk.{step_at}
use Rattle.walk_model.specs.Line.{AreStraight, steps_through, walk_through}
use Rattle.route_check.specs.declared.run.Run.{Run}
use Rattle.route_check.specs.Run.{IsFirstRun, IsLastRun}
use Rattle.route_check.proofs.Segments.Corners.{AtCorner, corner, at_begin, at_next, at_step, at_end}

-- all steps up to the corner go in the run's direction
pub record FirstSoFar (first : Point) (rest : List Point) (i : ℕ) (p : Point) (run : Run) : Type 0 where
  pub at : AtCorner first rest i run.length p
  pub straight : (k : ℕ) → k < run.length → step_at (walk_through first rest) k ≡ run.heading

-- the run is the last before the corner, which is reached after k steps
pub record LastSoFar (first : Point) (rest : List Point) (i k : ℕ) (p : Point) (run : Run) : Type 0 where
  pub at : AtCorner first rest i k p
  pub last : IsLastRun (walk_through first rest) k run

pub first_none : (first : Point) (rest : List Point) (d : Dir) → AreStraight first rest → PointIsOnSheet first → FirstSoFar first rest 0 first (record { heading = d; length = 0 })
first_none first rest d straight on = record { at = at_begin first rest straight on; straight = λ k h. absurd (omega arith) }

pub last_none : (first : Point) (rest : List Point) (d : Dir) → AreStraight first rest → PointIsOnSheet first → LastSoFar first rest 0 0 first (record { heading = d; length = 0 })
last_none first rest d straight on = record {
  at = at_begin first rest straight on;
  last = record { within = omega arith; some = λ h. absurd (omega arith); straight = λ k _ h. absurd (omega arith); whole = λ h _. absurd (omega arith) };
}

module _ (first : Point) (rest : List Point) (i : ℕ) (p : Point) (more : i < length rest) (on : All PointIsOnSheet rest) where
  -- a segment of two equal points adds nothing
  pub first_same : (run : Run) → FirstSoFar first rest i p run → distance p (corner rest i) ≡ 0 → FirstSoFar first rest (i + 1) (corner rest i) run
  first_same run so none = record {
    at = subst (λ (n : ℕ). AtCorner first rest (i + 1) n (corner rest i)) (omega arith) (at_next first rest i run.length p so.at more on);
    straight = so.straight;
  }

  pub last_same : (k : ℕ) (run : Run) → LastSoFar first rest i k p run → distance p (corner rest i) ≡ 0 → LastSoFar first rest (i + 1) k (corner rest i) run
  last_same k run so none = record {
    at = subst (λ (n : ℕ). AtCorner first rest (i + 1) n (corner rest i)) (omega arith) (at_next first rest i k p so.at more on);
    last = so.last;
  }

  -- a segment in the same direction makes it longer
  pub first_more : (run : Run) → FirstSoFar first rest i p run → (run.length ≡ 0) ⊎ (heading p (corner rest i) ≡ run.heading)
      → FirstSoFar first rest (i + 1) (corner rest i) (record { heading = heading p (corner rest i); length = run.length + distance p (corner rest i) })
  first_more run so same = record {
    at = at_next first rest i run.length p so.at more on;
    straight = λ k h. elim (cases_lt k run.length) as (λ _. step_at (walk_through first rest) k ≡ heading p (corner rest i)) [
      | inl below ↦ so.straight k below ∙ elim same as (λ _. run.heading ≡ heading p (corner rest i)) [ inl none ↦ absurd (omega arith) | inr e ↦ sym e ]
      | inr above ↦ at_step first rest i run.length p so.at more k above h
    ];
  }

  -- a segment in another direction ends it
  pub first_stop : (run : Run) → FirstSoFar first rest i p run → 0 < run.length → 0 < distance p (corner rest i) → (heading p (corner rest i) ≡ run.heading → ⊥) → IsFirstRun (walk_through first rest) run
  first_stop run so some long other = record {
    within = so.at.stands.within;
    some = λ _. some;
    straight = so.straight;
    whole = λ _ e. other (sym (at_step first rest i run.length p so.at more run.length (omega arith) (omega arith)) ∙ e);
  }

  -- a segment with steps either goes on the last run or begins a new one
  module _ (k : ℕ) (run : Run) (so : LastSoFar first rest i k p run) (long : 0 < distance p (corner rest i)) where
    pub last_longer : heading p (corner rest i) ≡ run.heading
        → LastSoFar first rest (i + 1) (k + distance p (corner rest i)) (corner rest i) (record { heading = heading p (corner rest i); length = run.length + distance p (corner rest i) })
    last_longer same = record {
      at = at_next first rest i k p so.at more on;
      last = record {
        within = omega (arith, so.last.within);
        some = λ _. omega arith;
        straight = λ j low high. elim (cases_lt j k) as (λ _. step_at (walk_through first rest) j ≡ heading p (corner rest i)) [
          | inl below ↦ so.last.straight j (omega arith) below ∙ sym same
          | inr above ↦ at_step first rest i k p so.at more j above high
        ];
        whole = λ h e.
            let place : k + distance p (corner rest i) - (run.length + distance p (corner rest i)) - 1 ≡ k - run.length - 1 = omega arith in
            so.last.whole (omega arith) (rw place at e ∙ same);
      };
    }

    pub last_anew : (heading p (corner rest i) ≡ run.heading → ⊥)
        → LastSoFar first rest (i + 1) (k + distance p (corner rest i)) (corner rest i) (record { heading = heading p (corner rest i); length = distance p (corner rest i) })
    last_anew other = record {
      at = at_next first rest i k p so.at more on;
      last = record {
        within = omega arith;
        some = λ _. long;
        straight = λ j low high. at_step first rest i k p so.at more j (omega arith) high;
        whole = λ h e.
            let place : k + distance p (corner rest i) - distance p (corner rest i) - 1 ≡ k - 1 = omega arith in
            other (sym (rw place at e) ∙ so.last.straight (k - 1) (omega (arith, so.last.some)) (omega arith));
      };
    }

pub first_all : (first : Point) (rest : List Point) (i : ℕ) (p : Point) (run : Run) → FirstSoFar first rest i p run → length rest ≤ i → IsFirstRun (walk_through first rest) run
first_all first rest i p run so done =
    let all = at_end first rest i run.length p so.at done in
    record { within = omega arith; some = λ h. omega arith; straight = so.straight; whole = λ h _. absurd (omega arith) }

pub last_all : (first : Point) (rest : List Point) (i k : ℕ) (p : Point) (run : Run) → LastSoFar first rest i k p run → length rest ≤ i → IsLastRun (walk_through first rest) (length (steps_through first rest)) run
last_all first rest i k p run so done =
    subst (λ (n : ℕ). IsLastRun (walk_through first rest) n run) (at_end first rest i k p so.at done) so.last
