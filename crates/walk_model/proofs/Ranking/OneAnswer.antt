-- A task has one answer at most: a line that draws a walk with a point for each run has these points alone.
use Rattle.std.proofs.Common.{◌≡◌, ℕ, suc, zero, ◌+◌, ◌≤◌, Some, None, List, [], ◌∷◌, ◌++◌, length, replicate, refl, sym, ap, subst, ◌∙◌, arith, ◌==◌, if◌then◌else◌, Bool, true, false}
use Rattle.plane_geom.specs.declared.point.Point.{Point}
use Rattle.plane_geom.specs.declared.point.Dir.{Dir}
use Rattle.plane_geom.specs.declared.point.Dir.TheVariants.{East, South, West, North}
use Rattle.plane_geom.specs.declared.rect.Solid.{Solid}
use Rattle.plane_geom.specs.Point.{distance, forward, heading}
use Rattle.plane_geom.proofs.Headings.{straight_end}
use Rattle.walk_model.specs.declared.task.Task.{Task}
use Rattle.walk_model.specs.declared.route.Route.{Route}
use Rattle.walk_model.specs.Walk.{Walk}
use Rattle.walk_model.specs.Cost.{turn, runs, runs_after}
use Rattle.walk_model.specs.Line.{AreStraight, Draws, steps_through}
use Rattle.walk_model.specs.Order.{Triple, IsRouteOf}
use Rattle.walk_model.specs.Answers.{HasOneAnswer}
use Rattle.walk_model.proofs.CornerByCorner.Bends.{turn_same, runs_after-stretch}
use Rattle.walk_model.proofs.CornerByCorner.Scan.{forward-zero, forward-forward}
use Rattle.walk_model.proofs.Ranking.First.{one_first}

-- where the runs end of steps in the direction to the point and of those after them
abbrev pub corners_after : Dir → Point → List Dir → List Point
corners_after d p [] = p ∷ []
corners_after d p (e ∷ es) = if turn d e == 0 then corners_after e (forward e 1 p) es else p ∷ corners_after e (forward e 1 p) es

-- where the runs of the steps from the point end
abbrev pub corners : Point → List Dir → List Point
corners p [] = []
corners p (d ∷ ds) = corners_after d (forward d 1 p) ds

-- a stretch goes on the run before it
pub corners_after-stretch : (d : Dir) (n : ℕ) (p : Point) (ds : List Dir) → corners_after d p (replicate n d ++ ds) ≡ corners_after d (forward d n p) ds
corners_after-stretch d zero p ds = ap (λ (q : Point). corners_after d q ds) (sym (forward-zero d p))
corners_after-stretch d (suc n) p ds =
    ap (λ k. if k == 0 then corners_after d (forward d 1 p) (replicate n d ++ ds) else p ∷ corners_after d (forward d 1 p) (replicate n d ++ ds)) (turn_same d)
    ∙ corners_after-stretch d n (forward d 1 p) ds
    ∙ ap (λ (q : Point). corners_after d q ds) (forward-forward d n 1 p ∙ ap (λ k. forward d k p) (omega arith))

-- no more runs than segments
few_by : (d e : Dir) (n : ℕ) (ds : List Dir) (m : ℕ) → ((c : Dir) → runs_after c ds ≤ m) → runs_after d (replicate n e ++ ds) ≤ suc m
few_by d e zero ds m few = omega (arith, few d)
few_by d e (suc n) ds m few = by (turn d e == 0)
  where
    by : (b : Bool) → (if b then 0 else 1) + runs_after e (replicate n e ++ ds) ≤ suc m
    by true = let l = runs_after-stretch e n ds in let k = few e in omega (arith, l, k)
    by false = let l = runs_after-stretch e n ds in let k = few e in omega (arith, l, k)

few_after : (p : Point) (qs : List Point) (d : Dir) → runs_after d (steps_through p qs) ≤ length qs
few_after p [] d = omega arith
few_after p (q ∷ qs) d = few_by d (heading p q) (distance p q) (steps_through q qs) (length qs) (few_after q qs)

end_of_run : (e : Dir) (n : ℕ) (p q : Point) (ds : List Dir) → forward e (suc n) p ≡ q → corners_after e (forward e 1 p) (replicate n e ++ ds) ≡ corners_after e q ds
end_of_run e n p q ds at =
    corners_after-stretch e n (forward e 1 p) ds
    ∙ ap (λ (r : Point). corners_after e r ds) (forward-forward e n 1 p ∙ ap (λ k. forward e k p) (omega arith) ∙ at)

-- with a point for each run, each segment is a run: the points are where the runs end
after_by : (d e : Dir) (n : ℕ) (p q : Point) (qs : List Point) → forward e n p ≡ q → (length qs ≡ runs_after e (steps_through q qs) → q ∷ qs ≡ corners_after e q (steps_through q qs))
    → suc (length qs) ≡ runs_after d (replicate n e ++ steps_through q qs) → p ∷ q ∷ qs ≡ corners_after d p (replicate n e ++ steps_through q qs)
after_by d e zero p q qs at later h = let few = few_after q qs d in absurd (omega (arith, h, few))
after_by d e (suc n) p q qs at later h = by (turn d e == 0) h
  where
    by : (b : Bool) → suc (length qs) ≡ (if b then 0 else 1) + runs_after e (replicate n e ++ steps_through q qs)
        → p ∷ q ∷ qs ≡ (if b then corners_after e (forward e 1 p) (replicate n e ++ steps_through q qs) else p ∷ corners_after e (forward e 1 p) (replicate n e ++ steps_through q qs))
    by true count = let few = few_after q qs e in let l = runs_after-stretch e n (steps_through q qs) in absurd (omega (arith, count, few, l))
    by false count =
        let l = runs_after-stretch e n (steps_through q qs) in
        ap (λ z. p ∷ z) (later (omega (arith, count, l)) ∙ sym (end_of_run e n p q (steps_through q qs) at))

all_after : (d : Dir) (p : Point) (qs : List Point) → AreStraight p qs → length qs ≡ runs_after d (steps_through p qs) → p ∷ qs ≡ corners_after d p (steps_through p qs)
all_after d p [] straight h = refl
all_after d p (q ∷ qs) straight h = after_by d (heading p q) (distance p q) p q qs (straight_end p q straight.0) (all_after (heading p q) q qs straight.1) h

-- the first step begins a run too
few_runs : (ds : List Dir) (m : ℕ) → ((c : Dir) → runs_after c ds ≤ m) → runs ds ≤ m
few_runs [] m few = omega arith
few_runs (East ∷ ds) m few = few West
few_runs (South ∷ ds) m few = few North
few_runs (West ∷ ds) m few = few East
few_runs (North ∷ ds) m few = few South

first_by : (e : Dir) (n : ℕ) (p q : Point) (qs : List Point) → AreStraight q qs → forward e n p ≡ q → suc (length qs) ≡ runs (replicate n e ++ steps_through q qs)
    → q ∷ qs ≡ corners p (replicate n e ++ steps_through q qs)
first_by e zero p q qs straight at h = let few = few_runs (steps_through q qs) (length qs) (few_after q qs) in absurd (omega (arith, h, few))
first_by e (suc n) p q qs straight at h =
    let l = runs_after-stretch e n (steps_through q qs) in
    all_after e q qs straight (omega (arith, h, l)) ∙ sym (end_of_run e n p q (steps_through q qs) at)

all_corners : (p : Point) (qs : List Point) → AreStraight p qs → length qs ≡ runs (steps_through p qs) → qs ≡ corners p (steps_through p qs)
all_corners p [] straight h = refl
all_corners p (q ∷ qs) straight h = first_by (heading p q) (distance p q) p q qs straight.1 (straight_end p q straight.0) h

-- the points of a line that draws the walk with one point more than runs
pub points_are : (points : List Point) (w : Walk) → Draws points w → length points ≡ runs w.steps + 1 → points ≡ w.start ∷ corners w.start w.steps
points_are [] w draws h = absurd draws
points_are (p ∷ qs) w draws h =
    let count : length qs ≡ runs w.steps = omega (arith, h) in
    let same : length qs ≡ runs (steps_through p qs) = count ∙ ap (λ v. runs v.steps) draws.1 in
    ap (λ z. p ∷ z) (all_corners p qs draws.0 same) ∙ ap (λ v. v.start ∷ corners v.start v.steps) (sym draws.1)

same_route : (a b : Route) → a.start ≡ b.start → a.end ≡ b.end → a.points ≡ b.points → a.cost ≡ b.cost → a ≡ b
same_route a b start end points cost = λ i. record { start = start i; end = end i; points = points i; cost = cost i }

-- the route of a walk is determined by the walk
pub one_route : (task : Task) (t : Triple) (a b : Route) → IsRouteOf task a t → IsRouteOf task b t → a ≡ b
one_route task t a b h k = same_route a b (h.start ∙ sym k.start) (h.end ∙ sym k.end)
    (points_are a.points t.walk h.draws h.corners ∙ sym (points_are b.points t.walk k.draws k.corners)) (h.cost ∙ sym k.cost)

pub one_answer : (solids : List Solid) (task : Task) → HasOneAnswer solids task
one_answer solids task None None h k = refl
one_answer solids task None (Some b) h k = absurd (h k.0 k.1.legal)
one_answer solids task (Some a) None h k = absurd (k h.0 h.1.legal)
one_answer solids task (Some a) (Some b) h k =
    let same : h.0 ≡ k.0 = (one_first solids task).one h.0 k.0 h.1 k.1 in
    ap (λ z. Some z) (one_route task k.0 a b (subst (IsRouteOf task a) same h.2) k.2)
