-- The first step of a line that meets a rectangle, segment by segment.
use Rattle.std.proofs.Common.{◌↔◌, ℕ, ◌+◌, ◌-◌, ◌<◌, ◌≤◌, List, length, sym, inl, inr, arith, subst, All, add-one}
use Rattle.std.proofs.lemmas.Bool.{cases_lt}
use Rattle.plane_geom.specs.declared.point.Point.{Point}
use Rattle.plane_geom.specs.declared.point.Dir.{Dir}
use Rattle.plane_geom.specs.declared.rect.Rect.{Rect}
use Rattle.plane_geom.specs.Point.{PointIsOnSheet, distance, forward, heading}
use Rattle.plane_geom.specs.Rect.{StepMeets}
use Rattle.walk_model.specs.Walk.{MeetsAt, step_at}
use Rattle.walk_model.specs.Line.{walk_through}
use Rattle.route_check.specs.declared.steps.Steps.{Steps}
use Rattle.route_check.specs.Steps.{IsAmong}
use Rattle.route_check.specs.Hit.{IsFirstMeeting, MeetsNone}
use Rattle.route_check.proofs.Segments.Corners.{AtCorner, corner, at_next, at_point, at_step, at_end}

-- up to the corner none of the steps meets the rectangle
pub record MeetsNoneSoFar (rect : Rect) (steps : Steps) (first : Point) (rest : List Point) (i k : ℕ) (p : Point) : Type 0 where
  pub at : AtCorner first rest i k p
  pub none : (j : ℕ) → IsAmong steps j → j < k → MeetsAt rect (walk_through first rest) j → ⊥

module _ (rect : Rect) (steps : Steps) (first : Point) (rest : List Point) where
  -- where the steps end before the corner, or the line ends there
  pub meets_none_all : (i k : ℕ) (p : Point) → MeetsNoneSoFar rect steps first rest i k p → steps.end ≤ k → MeetsNone rect steps first rest
  meets_none_all i k p so done j among _ = so.none j among (omega (arith, among.1))

  pub meets_none_end : (i k : ℕ) (p : Point) → MeetsNoneSoFar rect steps first rest i k p → length rest ≤ i → MeetsNone rect steps first rest
  meets_none_end i k p so done j among within = so.none j among (omega (arith, at_end first rest i k p so.at done))

  module _ (i k : ℕ) (p : Point) (so : MeetsNoneSoFar rect steps first rest i k p) (more : i < length rest) (on : All PointIsOnSheet rest) where
    -- what a step of the segment meets, by its number from the segment's begin
    meets_ahead : (j : ℕ) → k ≤ j → j < k + distance p (corner rest i) → MeetsAt rect (walk_through first rest) j ↔ StepMeets rect (forward (heading p (corner rest i)) (j - k) p) (heading p (corner rest i))
    meets_ahead j low high =
        let place = at_point first rest i k p so.at more j low (omega arith) in
        let way = at_step first rest i k p so.at more j low high in
        let At = λ (q : Point). StepMeets rect q (step_at (walk_through first rest) j) in
        let In = λ (d : Dir). StepMeets rect (forward (heading p (corner rest i)) (j - k) p) d in
        (λ m. subst In way (subst At place m), λ m. subst At (sym place) (subst In (sym way) m))

    -- `met` are the steps of the segment, counted from its begin, that are among the steps and meet the rectangle
    module _ (met : Steps) (is : (j : ℕ) → IsAmong met j ↔ (StepMeets rect (forward (heading p (corner rest i)) j p) (heading p (corner rest i)) × ((j < distance p (corner rest i)) × IsAmong steps (k + j)))) where
      met_there : (j : ℕ) → IsAmong steps j → k ≤ j → j < k + distance p (corner rest i) → MeetsAt rect (walk_through first rest) j → IsAmong met (j - k)
      met_there j among low high m = (is (j - k)).1 ((meets_ahead j low high).0 m, (omega arith, subst (IsAmong steps) (omega arith) among))

      pub meets_none_more : met.end ≤ met.begin → MeetsNoneSoFar rect steps first rest (i + 1) (k + distance p (corner rest i)) (corner rest i)
      meets_none_more empty = record {
        at = at_next first rest i k p so.at more on;
        none = λ j among h m. elim (cases_lt j k) as (λ _. ⊥) [
          | inl before ↦ so.none j among before m
          | inr here ↦ (let there = met_there j among here h m in omega arith)
        ];
      }

      pub meets_first : met.begin < met.end → IsFirstMeeting rect steps first rest (record { step = k + met.begin; segment = i + 1 })
      meets_first some =
          let first_met = (is met.begin).0 (omega arith, some) in
          record {
            among = first_met.1.1;
            meets = (meets_ahead (k + met.begin) (omega arith) (omega (arith, first_met.1.0))).1 (subst (λ (j : ℕ). StepMeets rect (forward (heading p (corner rest i)) j p) (heading p (corner rest i))) (omega arith) first_met.0);
            none_before = λ j among h m. elim (cases_lt j k) as (λ _. ⊥) [
              | inl before ↦ so.none j among before m
              | inr here ↦ (let there = met_there j among here (omega (arith, first_met.1.0)) m in omega arith)
            ];
            on_segment = (rw (add-one i) (omega (arith, so.at.counted)), rw (add-one (i + 1)) (omega (arith, first_met.1.0, (at_next first rest i k p so.at more on).counted)));
          }
