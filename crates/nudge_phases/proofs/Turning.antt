-- A line with a point for each run of its walk turns at each inner point, and has as many runs of each way.
use Rattle.std.proofs.Common.{◌≡◌, ◌≢◌, ℕ, suc, zero, ◌+◌, ◌<◌, ◌≤◌, ◌==◌, Bool, true, false, List, [], ◌∷◌, ◌++◌, length, replicate, All, inl, inr, refl, sym, ap, subst, ◌∙◌, arith, if◌then◌else◌}
use Rattle.std.proofs.lemmas.Bool.{cases_Bool}
use Rattle.std.proofs.lemmas.Int.{ints}
use Rattle.plane_geom.specs.declared.point.Point.{Point}
use Rattle.plane_geom.specs.declared.point.Dir.{Dir}
use Rattle.plane_geom.specs.declared.point.Dir.TheVariants.{East, South, West, North}
use Rattle.plane_geom.specs.declared.point.Way.{Way}
use Rattle.plane_geom.specs.declared.point.Way.TheVariants.{Vertical, Horizontal}
use Rattle.plane_geom.specs.Along.{way_of}
use Rattle.plane_geom.specs.Point.{PointIsOnSheet, distance, forward, heading, opposite}
use Rattle.plane_geom.proofs.Headings.{forward_distance, forward_heading}
use Rattle.segment_order.specs.Run.{AreCorners, point_at_index, run_between, runs_along}
use Rattle.walk_model.specs.Cost.{turn, runs}
use Rattle.walk_model.specs.Line.{Draws, IsStraightLine, steps_through}
use Rattle.walk_model.specs.Walk.{Walk}
use Rattle.walk_model.proofs.CornerByCorner.Bends.{one_direction, turn_same}
use Rattle.walk_model.proofs.Ranking.OneAnswer.{corners, corners_after, points_are}
use Rattle.walk_model.proofs.CornerByCorner.Scan.{forward-forward}
use Rattle.walk_model.proofs.CornerByCorner.Shapes.{turn_differs}
use Rattle.walk_laws.specs.Runs.{runs_of_way, runs_of_way_after, share_of_way}
use Rattle.channel_bundles.specs.Route.{is_way, of_way}

-- after a segment in the heading, each point that follows is further on, in another heading
abbrev pub Turns : Dir → Point → List Point → Type 0
Turns d p [] = Unit {0}
Turns d p (q ∷ qs) = (heading p q ≢ d) × (0 < distance p q) × Turns (heading p q) q qs

ahead : (f d : Dir) (n : ℕ) (p : Point) → 0 < n → d ≢ f → (heading p (forward d n p) ≢ f) × (0 < distance p (forward d n p))
ahead f d n p some ne = (λ same. ne (sym (forward_heading d n p some) ∙ same), (let e = forward_distance d n p in omega (arith, e, some)))

-- the corners of steps turn
corners_turn : (f d : Dir) (n : ℕ) (p : Point) (ds : List Dir) → 0 < n → d ≢ f → Turns f p (corners_after d (forward d n p) ds)
corners_turn f d n p [] some ne = let a = ahead f d n p some ne in (a.0, a.1, tt)
corners_turn f d n p (e ∷ es) some ne =
    let q = forward d n p in
    let on : Turns f p (corners_after d (forward d (n + 1) p) es) = corners_turn f d (n + 1) p es (omega arith) ne in
    let a = ahead f d n p some ne in
    elim (one_direction d e) as (λ _. Turns f p (corners_after d q (e ∷ es))) [
      | inl same ↦
          let further : forward d (n + 1) p ≡ forward d 1 q = sym (forward-forward d 1 n p) in
          let goes_on : corners_after d q (d ∷ es) ≡ corners_after d (forward d 1 q) es =
          ap (λ k. if k == 0 then corners_after d (forward d 1 q) es else q ∷ corners_after d (forward d 1 q) es) (turn_same d) in
          subst (λ (g : Dir). Turns f p (corners_after d q (g ∷ es))) same
          (subst (Turns f p) (ap (λ (r : Point). corners_after d r es) further ∙ sym goes_on) on)
      | inr turns ↦
          let differ : d ≢ e = λ same. let none : turn d e ≡ 0 = ap (turn d) (sym same) ∙ turn_same d in omega (arith, none, turns) in
          let begins : corners_after d q (e ∷ es) ≡ q ∷ corners_after e (forward e 1 q) es =
          ap (λ b. if b then corners_after e (forward e 1 q) es else q ∷ corners_after e (forward e 1 q) es) (turn_differs d e differ) in
          let h : heading p q ≡ d = forward_heading d n p some in
          let rest : Turns d q (corners_after e (forward e 1 q) es) = corners_turn d e 1 q es (omega arith) (λ same. differ (sym same)) in
          subst (Turns f p) (sym begins) (a.0, a.1, subst (λ g. Turns g q (corners_after e (forward e 1 q) es)) (sym h) rest)
    ]

back : (d : Dir) → d ≢ opposite d
back East e = cc
back South e = cc
back West e = cc
back North e = cc

-- a line that turns at each point, from its first segment on
pub record IsTurning (points : List Point) : Type 0 where
  pub first : Point
  pub others : List Point
  pub behind : Dir
  pub is : points ≡ first ∷ others
  pub turns : Turns behind first others

pub line_turns : (points : List Point) (w : Walk) → Draws points w → length points ≡ runs w.steps + 1 → IsTurning points
line_turns points w draws h = by w.start w.steps (points_are points w draws h)
  where
    by : (p : Point) (ds : List Dir) → points ≡ p ∷ corners p ds → IsTurning points
    by p [] e = record { first = p; others = []; behind = East; is = e; turns = tt }
    by p (d ∷ ds) e = record { first = p; others = corners p (d ∷ ds); behind = opposite d; is = e; turns = corners_turn (opposite d) d 1 p ds (omega arith) (back d) }

distance_same : (p q : Point) → p ≡ q → distance p q ≡ 0
distance_same p q e = let x = ap (λ (r : Point). r.x) e in let y = ap (λ (r : Point). r.y) e in omega (arith, ints, x, y)

differ_at : (d : Dir) (p : Point) (qs : List Point) (k : ℕ) → Turns d p qs → k + 1 < length (p ∷ qs) → point_at_index (p ∷ qs) k ≢ point_at_index (p ∷ qs) (k + 1)
differ_at d p [] k t h e = omega arith
differ_at d p (q ∷ qs) zero t h e = let z = distance_same p q (e ∙ ap (point_at_index (p ∷ q ∷ qs)) (let n : 0 + 1 ≡ 1 = refl in n)) in let some = t.1 in omega (arith, z, some)
differ_at d p (q ∷ qs) (suc k) t h e =
    differ_at (heading p q) q qs k t.2 (omega (arith, h)) (e ∙ ap (point_at_index (p ∷ q ∷ qs)) (let n : suc k + 1 ≡ suc (k + 1) = omega arith in n))

turns_at : (d : Dir) (p : Point) (qs : List Point) (k : ℕ) → Turns d p qs → k + 2 < length (p ∷ qs) →
    heading (point_at_index (p ∷ qs) k) (point_at_index (p ∷ qs) (k + 1)) ≢ heading (point_at_index (p ∷ qs) (k + 1)) (point_at_index (p ∷ qs) (k + 2))
turns_at d p [] k t h e = omega arith
turns_at d p (q ∷ []) k t h e = omega arith
turns_at d p (q ∷ r ∷ rs) zero t h e = t.2.0 (sym e)
turns_at d p (q ∷ r ∷ rs) (suc k) t h e =
    let one : suc k + 1 ≡ suc (k + 1) = omega arith in
    let two : suc k + 2 ≡ suc (k + 2) = omega arith in
    let at = point_at_index (p ∷ q ∷ r ∷ rs) in
    turns_at (heading p q) q (r ∷ rs) k t.2 (omega (arith, h))
    (ap (λ n. heading (point_at_index (q ∷ r ∷ rs) k) (at n)) (sym one) ∙ e ∙ ap (λ n. heading (at n) (at (suc k + 2))) one ∙ ap (λ n. heading (point_at_index (q ∷ r ∷ rs) (k + 1)) (at n)) two)

pub corners_differ : (points : List Point) → IsTurning points → (k : ℕ) → k + 1 < length points → point_at_index points k ≢ point_at_index points (k + 1)
corners_differ points t k h =
    subst (λ ps. point_at_index ps k ≢ point_at_index ps (k + 1)) (sym t.is) (differ_at t.behind t.first t.others k t.turns (omega (arith, h, ap length t.is)))

pub are_corners : (points : List Point) → IsTurning points → 1 < length points → All PointIsOnSheet points → IsStraightLine points → AreCorners points
are_corners points t some within straight = record {
  some = some;
  on_sheet = within;
  straight = straight;
  turns = λ k h. subst (λ ps. heading (point_at_index ps k) (point_at_index ps (k + 1)) ≢ heading (point_at_index ps (k + 1)) (point_at_index ps (k + 2))) (sym t.is)
      (turns_at t.behind t.first t.others k t.turns (omega (arith, h, ap length t.is)));
}

-- runs of the way, by points and by steps
stretch_none : (way : Way) (d : Dir) (n : ℕ) (ds : List Dir) → runs_of_way_after way d (replicate n d ++ ds) ≡ runs_of_way_after way d ds
stretch_none way d zero ds = refl
stretch_none way d (suc n) ds =
    ap (λ k. (if k == 0 then 0 else share_of_way way d) + runs_of_way_after way d (replicate n d ++ ds)) (turn_same d) ∙ (let e = stretch_none way d n ds in omega (arith, e))

stretch_one : (way : Way) (f d : Dir) (n : ℕ) (ds : List Dir) → 0 < n → d ≢ f → runs_of_way_after way f (replicate n d ++ ds) ≡ share_of_way way d + runs_of_way_after way d ds
stretch_one way f d zero ds some ne = absurd (omega arith)
stretch_one way f d (suc n) ds some ne =
    ap (λ b. (if b then 0 else share_of_way way d) + runs_of_way_after way d (replicate n d ++ ds)) (turn_differs f d (λ same. ne (sym same))) ∙ (let e = stretch_none way d n ds in omega (arith, e))

share_is : (way : Way) (d : Dir) → share_of_way way d ≡ (if is_way (way_of d) way then 1 else 0)
share_is Vertical East = refl
share_is Vertical South = refl
share_is Vertical West = refl
share_is Vertical North = refl
share_is Horizontal East = refl
share_is Horizontal South = refl
share_is Horizontal West = refl
share_is Horizontal North = refl

as_many_after : (way : Way) (edge place : ℕ) (f : Dir) (p : Point) (qs : List Point) → Turns f p qs → length (of_way way (runs_along edge place (p ∷ qs))) ≡ runs_of_way_after way f (steps_through p qs)
as_many_after way edge place f p [] t = refl
as_many_after way edge place f p (q ∷ qs) t =
    let h = heading p q in
    let later = as_many_after way edge (place + 1) h q qs t.2 in
    let one = stretch_one way f h (distance p q) (steps_through q qs) t.1 t.0 in
    let s = share_is way h in
    elim (cases_Bool (is_way (way_of h) way)) as (λ _. length (of_way way (runs_along edge place (p ∷ q ∷ qs))) ≡ runs_of_way_after way f (steps_through p (q ∷ qs))) [
      | inl own ↦ (let a = ap (λ b. length (if b then run_between edge place p q ∷ of_way way (runs_along edge (place + 1) (q ∷ qs)) else of_way way (runs_along edge (place + 1) (q ∷ qs)))) own in
          let c = ap {B = ℕ} (λ b. if b then 1 else 0) own in omega (arith, a, c, s, one, later))
      | inr other ↦ (let a = ap (λ b. length (if b then run_between edge place p q ∷ of_way way (runs_along edge (place + 1) (q ∷ qs)) else of_way way (runs_along edge (place + 1) (q ∷ qs)))) other in
          let c = ap {B = ℕ} (λ b. if b then 1 else 0) other in omega (arith, a, c, s, one, later))
    ]

-- no more runs of the way than its steps have
first_more : (way : Way) (f : Dir) (ds : List Dir) → runs_of_way_after way f ds ≤ runs_of_way way ds
first_more way f [] = omega arith
first_more way f (d ∷ ds) = by (turn f d == 0)
  where
    by : (b : Bool) → (if b then 0 else share_of_way way d) + runs_of_way_after way d ds ≤ share_of_way way d + runs_of_way_after way d ds
    by true = omega arith
    by false = omega arith

pub few_of_way : (way : Way) (edge : ℕ) (points : List Point) (w : Walk) → Draws points w → IsTurning points → length (of_way way (runs_along edge 1 points)) ≤ runs_of_way way w.steps
few_of_way way edge [] w draws t = absurd draws
few_of_way way edge (p ∷ qs) w draws t =
    let first : p ≡ t.first = cc in
    let others : qs ≡ t.others = cc in
    let turns : Turns t.behind p qs = subst (λ rs. Turns t.behind p rs) (sym others) (subst (λ (r : Point). Turns t.behind r t.others) (sym first) t.turns) in
    let steps : runs_of_way way w.steps ≡ runs_of_way way (steps_through p qs) = ap (λ (v : Walk). runs_of_way way v.steps) draws.1 in
    let same = as_many_after way edge 1 t.behind p qs turns in
    let more = first_more way t.behind (steps_through p qs) in
    omega (arith, same, more, steps)
