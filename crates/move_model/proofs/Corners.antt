-- Corners, and the point that a walk has reached after them.
use Rattle.std.proofs.Common.{◌≡◌, ◌≢◌, ℕ, suc, zero, ◌+◌, ◌<◌, Some, List, [], ◌∷◌, ◌++◌, length, replicate, refl, sym, ap, subst, ◌∙◌, arith, append_assoc, append-nil, length-append}
use Rattle.std.proofs.lemmas.List.{replicate-append-replicate}
use Rattle.plane_geom.specs.declared.point.Point.{Point}
use Rattle.plane_geom.specs.declared.point.Dir.{Dir}
use Rattle.plane_geom.specs.Point.{IsStraight, distance, forward, heading}
use Rattle.plane_geom.proofs.Headings.{forward_distance, forward_heading, forward_straight, straight_end}
use Rattle.walk_model.specs.Cost.{runs, runs_after}
use Rattle.walk_model.specs.Line.{AreStraight, Draws, steps_through}
use Rattle.walk_model.specs.Walk.{Walk, after, end_of, straight_walk}
use Rattle.walk_model.proofs.CornerByCorner.Appending.{last_of, runs_after-append}
use Rattle.walk_model.proofs.CornerByCorner.Bends.{runs-stretch, runs_after-stretch}
use Rattle.walk_model.proofs.CornerByCorner.Scan.{after-append, after-replicate, forward-forward}
use Rattle.walk_model.proofs.CornerByCorner.Shapes.{new_runs}
use Rattle.move_model.specs.Corners.{IsDrawn, further, last_corner}

-- one more corner, straight on from the last one
corner_steps : (p : Point) (qs : List Point) (q : Point) → steps_through p (qs ++ q ∷ []) ≡ steps_through p qs ++ replicate (distance (last_corner p qs) q) (heading (last_corner p qs) q)
corner_steps p [] q = append-nil (replicate (distance p q) (heading p q))
corner_steps p (r ∷ qs) q =
    ap (λ ds. replicate (distance p r) (heading p r) ++ ds) (corner_steps r qs q)
    ∙ sym (append_assoc (replicate (distance p r) (heading p r)) (steps_through r qs) (replicate (distance (last_corner r qs) q) (heading (last_corner r qs) q)))

corner_straight : (p : Point) (qs : List Point) (q : Point) → AreStraight p qs → IsStraight (last_corner p qs) q → AreStraight p (qs ++ q ∷ [])
corner_straight p [] q h k = (k, tt)
corner_straight p (r ∷ qs) q h k = (h.0, corner_straight r qs q h.1 k)

corner_last : (p : Point) (qs : List Point) (q : Point) → last_corner p (qs ++ q ∷ []) ≡ q
corner_last p [] q = refl
corner_last p (r ∷ qs) q = corner_last r qs q

steps_end : (p : Point) (qs : List Point) → AreStraight p qs → after p (steps_through p qs) ≡ last_corner p qs
steps_end p [] h = refl
steps_end p (r ∷ qs) h =
    after-append p (replicate (distance p r) (heading p r)) (steps_through r qs)
    ∙ ap (λ z. after z (steps_through r qs)) (after-replicate p (distance p r) (heading p r) ∙ straight_end p r h.0)
    ∙ steps_end r qs h.1

-- the last of some steps that end with a stretch
last_stretch : (d : Dir) (xs : List Dir) (k : ℕ) (h : Dir) → last_of d (xs ++ replicate (suc k) h) ≡ h
last_stretch d [] k h = last_equal k h
  where
    last_equal : (k : ℕ) (h : Dir) → last_of h (replicate k h) ≡ h
    last_equal zero h = refl
    last_equal (suc k) h = last_equal k h
last_stretch d (e ∷ xs) k h = last_stretch e xs k h

-- the runs that follow a stretch, whatever comes before it
runs_behind : (xs : List Dir) (k : ℕ) (h : Dir) (ds : List Dir) → 0 < k → runs ((xs ++ replicate k h) ++ ds) ≡ runs (xs ++ replicate k h) + runs_after h ds
runs_behind xs zero h ds some = absurd (omega (arith, some))
runs_behind [] (suc k) h ds some =
    let one = runs-stretch h (suc k) some in
    let rest = runs_after-stretch h k ds in
    omega (arith, one, rest)
runs_behind (d ∷ xs) (suc k) h ds some =
    let whole = runs_after-append d (xs ++ replicate (suc k) h) ds in
    let last = ap (λ e. runs_after e ds) (last_stretch d xs k h) in
    omega (arith, whole, last)

runs_on : (h : Dir) (n : ℕ) → runs_after h (replicate n h) ≡ 0
runs_on h n = ap (runs_after h) (sym (append-nil (replicate n h))) ∙ runs_after-stretch h n []

runs_turned : (h d : Dir) (n : ℕ) → d ≢ h → 0 < n → runs_after h (replicate n d) ≡ 1 + 0
runs_turned h d n differ some = ap (runs_after h) (sym (append-nil (replicate n d))) ∙ new_runs (Some h) d n [] some (λ e. differ (sym (same_dir h d e)))
  where
    same_dir : (x y : Dir) → Some x ≡ Some y → x ≡ y
    same_dir x y e = cc

same_walk : (w : Walk) (ds : List Dir) → w.steps ≡ ds → w ≡ record { start = w.start; steps = ds }
same_walk w ds e = λ i. record { start = w.start; steps = e i }

pub drawn_begins : (p : Point) (d : Dir) (n : ℕ) → 0 < n → IsDrawn (p ∷ []) (forward d n p) d (straight_walk p d n)
drawn_begins p d n some = record { corners = []; all = refl; straight = tt; steps = n; some = some; here = refl; walk = refl; count = sym (runs-stretch d n some) }

pub drawn_on : (points : List Point) (at : Point) (h : Dir) (w : Walk) (n : ℕ) → IsDrawn points at h w → IsDrawn points (forward h n at) h (further w (replicate n h))
drawn_on points at h w n o =
    let more : w.steps ++ replicate n h ≡ steps_through w.start o.corners ++ replicate (o.steps + n) h =
    ap (λ ds. ds ++ replicate n h) o.walk ∙ append_assoc (steps_through w.start o.corners) (replicate o.steps h) (replicate n h)
    ∙ ap (λ ds. steps_through w.start o.corners ++ ds) (replicate-append-replicate o.steps n h) in
    let same : runs (w.steps ++ replicate n h) ≡ runs w.steps =
    ap (λ ds. runs (ds ++ replicate n h)) o.walk ∙ runs_behind (steps_through w.start o.corners) o.steps h (replicate n h) o.some
    ∙ (let e = runs_on h n in let f = ap runs o.walk in omega (arith, e, f)) in
    record {
      corners = o.corners;
      all = o.all;
      straight = o.straight;
      steps = o.steps + n;
      some = omega (arith, o.some);
      here = ap (forward h n) o.here ∙ forward-forward h n o.steps (last_corner w.start o.corners);
      walk = more;
      count = o.count ∙ sym same;
    }

module _ (points : List Point) (at : Point) (h : Dir) (w : Walk) (o : IsDrawn points at h w) where
  abbrev last : Point
  last = last_corner w.start o.corners

  -- the point where the walk stands as one more corner
  with_corner : steps_through w.start (o.corners ++ at ∷ []) ≡ w.steps
  with_corner =
      let long : distance last at ≡ o.steps = ap (distance last) o.here ∙ forward_distance h o.steps last in
      let leads : heading last at ≡ h = ap (heading last) o.here ∙ forward_heading h o.steps last o.some in
      corner_steps w.start o.corners at ∙ ap (λ ds. steps_through w.start o.corners ++ ds) (ap (λ n. replicate n (heading last at)) long ∙ ap (replicate o.steps) leads) ∙ sym o.walk

  all_straight : AreStraight w.start (o.corners ++ at ∷ [])
  all_straight = corner_straight w.start o.corners at o.straight (subst (IsStraight last) (sym o.here) (forward_straight h o.steps last))

  pub drawn_turned : (d : Dir) (n : ℕ) → d ≢ h → 0 < n → IsDrawn (points ++ at ∷ []) (forward d n at) d (further w (replicate n d))
  drawn_turned d n differ some =
      let one_more : runs (w.steps ++ replicate n d) ≡ runs w.steps + 1 =
      ap (λ ds. runs (ds ++ replicate n d)) o.walk ∙ runs_behind (steps_through w.start o.corners) o.steps h (replicate n d) o.some
      ∙ (let e = runs_turned h d n differ some in let f = ap runs o.walk in omega (arith, e, f)) in
      record {
        corners = o.corners ++ at ∷ [];
        all = ap (λ qs. qs ++ at ∷ []) o.all;
        straight = all_straight;
        steps = n;
        some = some;
        here = ap (forward d n) (sym (corner_last w.start o.corners at));
        walk = ap (λ ds. ds ++ replicate n d) (sym with_corner);
        count = length-append points (at ∷ []) ∙ (let c = o.count in omega (arith, c, one_more));
      }

  pub drawn_ends : Draws (points ++ at ∷ []) w × (length (points ++ at ∷ []) ≡ runs w.steps + 1) × (end_of w ≡ at)
  drawn_ends = (
    subst (λ qs. Draws (qs ++ at ∷ []) w) (sym o.all) (all_straight, same_walk w (steps_through w.start (o.corners ++ at ∷ [])) (sym with_corner)),
    length-append points (at ∷ []) ∙ (let c = o.count in omega (arith, c)),
    ap (after w.start) o.walk ∙ after-append w.start (steps_through w.start o.corners) (replicate o.steps h)
        ∙ ap (λ p. after p (replicate o.steps h)) (steps_end w.start o.corners o.straight) ∙ after-replicate last o.steps h ∙ sym o.here,
  )
