-- The most checkpoints over the segments of a line.
use Rattle.std.proofs.Common.{◌≡◌, ℕ, ◌+◌, ◌-◌, ◌*◌, ◌<◌, ◌≤◌, max, min, List, [], ◌∷◌, ◌++◌, length, drop, get_or, replicate, All, refl, sym, ap, subst, ◌∙◌, arith, length-drop}
use Rattle.std.proofs.lemmas.List.{drop_all, drop_more}
use Rattle.std.proofs.lemmas.List.Elements.{All-get_or, All-head, All-tail}
use Rattle.plane_geom.specs.declared.point.Point.{Point}
use Rattle.plane_geom.specs.Point.{PointIsOnSheet, heading}
use Rattle.walk_model.specs.declared.stretch.Stretch.{Stretch}
use Rattle.walk_model.specs.Walk.{Walk, point_at}
use Rattle.walk_model.specs.Line.{AreStraight, Draws, IsStraightLine, steps_of, steps_through}
use Rattle.walk_model.specs.Legal.{PassesMost}
use Rattle.walk_model.specs.Stretch.{GoesAlong, IsBetween}
use Rattle.walk_model.proofs.CornerByCorner.Scan.{Stands, stands_first, stands_last, stands_next, stands_point}
use Rattle.walk_model.proofs.Checkpoints.Passing.{most-append, most_range}
use Rattle.plane_geom.proofs.Signed.{distance_bound}
use Rattle.walk_model.proofs.Checkpoints.Stretches.{distance_same}

-- the steps of a walk are those of the line that draws it
pub draws_steps : (points : List Point) (w : Walk) → Draws points w → w.steps ≡ steps_of points
draws_steps [] w d = absurd d
draws_steps (p ∷ qs) w d = ap (λ (v : Walk). v.steps) d.1

-- a walk goes along the segment that is ahead
pub stands_along : (w : Walk) (k : ℕ) (p q : Point) (qs : List Point) (s : Stretch) → IsBetween s k p q → Stands w k p (q ∷ qs) → GoesAlong w s
stands_along w k p q qs s is stands = record {
  at = λ j low high. record {
    begun = low;
    within = high;
    at = rw (is.dir, is.start, is.number)
        (sym (ap (point_at w) (omega (arith, low, is.number)) ∙ stands_point w k (j - k) p q qs stands (omega (arith, low, high, is.number, is.steps))));
  };
}

-- a walk begins at the line's first corner
pub draws_first : (points rest : List Point) (p : Point) (w : Walk) → points ≡ p ∷ rest → Draws points w → Stands w 0 p rest
draws_first points rest p w e d =
    let draws : Draws (p ∷ rest) w = subst (λ ps. Draws ps w) e d in
    subst (λ (v : Walk). Stands v 0 p rest) (sym draws.1) (stands_first p rest)

-- to go to the point where it stands is no step
pub stands_still : (w : Walk) (k : ℕ) (p : Point) (rest : List Point) → Stands w k p rest → Stands w k p (p ∷ rest)
stands_still w k p rest s = record {
  within = s.within;
  at = s.at;
  ahead = s.ahead ∙ ap (λ n. replicate n (heading p p) ++ steps_through p rest) (sym (distance_same p));
}

-- the corner `at` is point number `walked`, and up to it most checkpoints are passed
pub record PassedTo (points rest via : List Point) (from to i : ℕ) (at : Point) (walked passed : ℕ) : Type 0 where
  pub within : PointIsOnSheet at
  pub rest_within : All PointIsOnSheet rest
  pub few : length rest ≤ 40000000
  pub few_steps : walked ≤ 8000000000 * i
  pub straight : AreStraight at (drop i rest)
  pub at_most : passed ≤ length via
  pub stands : (w : Walk) → Draws points w → Stands w walked at (drop i rest)
  pub most : (w : Walk) → Draws points w → PassesMost w from (min to walked) via passed

-- at the first corner
pub passed_first : (points rest via : List Point) (from to : ℕ) (p : Point) (s : Stretch) (k : ℕ) → points ≡ p ∷ rest → IsStraightLine points → All PointIsOnSheet points → length points ≤ 40000000 → k ≤ length via →
    IsBetween s 0 p p → ((w : Walk) → GoesAlong w s → PassesMost w (max from s.number) (min to (s.number + s.steps)) via k) → PassedTo points rest via from to 0 p 0 k
passed_first points rest via from to p s k e straight within few at_most is most =
    let all = subst (All PointIsOnSheet) e within in
    let line : AreStraight p rest = subst IsStraightLine e straight in
    record {
      within = All-head PointIsOnSheet p rest all;
      rest_within = All-tail PointIsOnSheet p rest all;
      few = omega (arith, few, ap length e);
      few_steps = omega arith;
      straight = line;
      at_most = at_most;
      stands = λ w d. draws_first points rest p w e d;
      most = λ w d.
          let along = stands_along w 0 p p rest s is (stands_still w 0 p rest (draws_first points rest p w e d)) in
          most_range w _ _ _ _ via k (omega (arith, is.number)) (omega (arith, is.number, is.steps, distance_same p)) (most w along);
    }

-- and at the next one, with the most of the checkpoints left
pub passed_on : (points rest via left : List Point) (from to i : ℕ) (at : Point) (walked passed : ℕ) (d : Point) (s : Stretch) (k : ℕ) → i < length rest → left ≡ drop passed via → k ≤ length left → IsBetween s walked at (get_or rest i d) →
    ((w : Walk) → GoesAlong w s → PassesMost w (max from s.number) (min to (s.number + s.steps)) left k) → PassedTo points rest via from to i at walked passed → PassedTo points rest via from to (i + 1) (get_or rest i d) (walked + s.steps) (passed + k)
passed_on points rest via left from to i at walked passed d s k some e at_most is most so =
    let q = get_or rest i d in
    let next : drop i rest ≡ q ∷ drop (i + 1) rest = drop_more rest i d some in
    let line : AreStraight at (q ∷ drop (i + 1) rest) = subst (AreStraight at) next so.straight in
    let stands : (w : Walk) → Draws points w → Stands w walked at (q ∷ drop (i + 1) rest) = λ w draws. subst (Stands w walked at) next (so.stands w draws) in
    record {
      within = All-get_or PointIsOnSheet rest i d some so.rest_within;
      rest_within = so.rest_within;
      few = so.few;
      few_steps = omega (arith, so.few_steps, is.steps, distance_bound at q so.within (All-get_or PointIsOnSheet rest i d some so.rest_within));
      straight = line.1;
      at_most = omega (arith, at_most, so.at_most, ap length e, length-drop passed via);
      stands = λ w draws. rw is.steps (stands_next w walked at q (drop (i + 1) rest) line.0 (stands w draws));
      most = λ w draws.
          let along = stands_along w walked at q (drop (i + 1) rest) s is (stands w draws) in
          let left_most = subst (λ cs. PassesMost w (max from s.number) (min to (s.number + s.steps)) cs k) e (most w along) in
          let here = most_range w _ _ (max from walked) (min to (walked + s.steps)) (drop passed via) k (omega (arith, is.number)) (omega (arith, is.number)) left_most in
          most-append w from (min to walked) (max from walked) (min to (walked + s.steps)) via passed k (omega arith) (omega arith) (omega arith) (λ j a b c. omega arith) (so.most w draws) here;
    }

-- at the last corner
pub passed_all : (points rest via : List Point) (from to i : ℕ) (at : Point) (walked passed : ℕ) → length rest ≤ i → to ≤ length (steps_of points) → PassedTo points rest via from to i at walked passed → (w : Walk) → Draws points w → PassesMost w from to via passed
passed_all points rest via from to i at walked passed done ends so w draws =
    let end = stands_last w walked at (subst (Stands w walked at) (drop_all i rest done) (so.stands w draws)) in
    most_range w _ _ _ _ via passed refl (omega (arith, ends, end, ap length (draws_steps points w draws))) (so.most w draws)
