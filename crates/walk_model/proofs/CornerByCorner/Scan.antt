-- A line is scanned from corner to corner, with the walk along it.
use Rattle.std.proofs.Common.{◌≡◌, ℕ, suc, zero, ◌+◌, ◌<◌, ◌≤◌, ℤ, List, [], ◌∷◌, ◌++◌, length, take, drop, replicate, get_or, refl, sym, ap, ◌∙◌, arith, length-append, length-drop}
use Rattle.std.proofs.lemmas.Int.{ints}
use Rattle.std.proofs.lemmas.List.{length-replicate, take-append-le, take-replicate, drop-drop, drop_at, get_or-drop, get_or-replicate, get_or_append_left}
use Rattle.std.proofs.Math.Seq.{take-add}
use Rattle.plane_geom.specs.declared.point.Point.{Point}
use Rattle.plane_geom.specs.declared.point.Dir.{Dir}
use Rattle.plane_geom.specs.declared.point.Dir.TheVariants.{East, South, West, North}
use Rattle.plane_geom.specs.Point.{IsStraight, distance, forward, heading}
use Rattle.plane_geom.proofs.Headings.{straight_end}
use Rattle.walk_model.specs.Walk.{Walk, after, point_at, step_at}
use Rattle.walk_model.specs.Line.{steps_through, walk_through}

-- no step leads nowhere
pub forward-zero : (d : Dir) (p : Point) → forward d 0 p ≡ p
forward-zero East p = ap (λ (x : ℤ). record { x = x; y = p.y }) (omega (arith, ints))
forward-zero South p = ap (λ (y : ℤ). record { x = p.x; y = y }) (omega (arith, ints))
forward-zero West p = ap (λ (x : ℤ). record { x = x; y = p.y }) (omega (arith, ints))
forward-zero North p = ap (λ (y : ℤ). record { x = p.x; y = y }) (omega (arith, ints))

-- steps in one direction add up
pub forward-forward : (d : Dir) (m n : ℕ) (p : Point) → forward d m (forward d n p) ≡ forward d (n + m) p
forward-forward East m n p = ap (λ (x : ℤ). record { x = x; y = p.y }) (omega (arith, ints))
forward-forward South m n p = ap (λ (y : ℤ). record { x = p.x; y = y }) (omega (arith, ints))
forward-forward West m n p = ap (λ (x : ℤ). record { x = x; y = p.y }) (omega (arith, ints))
forward-forward North m n p = ap (λ (y : ℤ). record { x = p.x; y = y }) (omega (arith, ints))

-- a walk goes on where it stood
pub after-append : (p : Point) (xs ys : List Dir) → after p (xs ++ ys) ≡ after (after p xs) ys
after-append p [] ys = refl
after-append p (d ∷ xs) ys = after-append (forward d 1 p) xs ys

-- a stretch of equal steps leads straight on
pub after-replicate : (p : Point) (n : ℕ) (d : Dir) → after p (replicate n d) ≡ forward d n p
after-replicate p zero d = sym (forward-zero d p)
after-replicate p (suc n) d = after-replicate (forward d 1 p) n d ∙ forward-forward d n 1 p ∙ ap (λ k. forward d k p) (omega arith)

-- k steps on the walk stands at the point, and goes on along the line from there through the others
pub record Stands (w : Walk) (k : ℕ) (p : Point) (rest : List Point) : Type 0 where
  pub within : k ≤ length w.steps
  pub at : point_at w k ≡ p
  pub ahead : drop k w.steps ≡ steps_through p rest

pub stands_first : (p : Point) (qs : List Point) → Stands (walk_through p qs) 0 p qs
stands_first p qs = record { within = omega arith; at = refl; ahead = refl }

-- where a line is at its end, so is the walk
pub stands_last : (w : Walk) (k : ℕ) (p : Point) → Stands w k p [] → k ≡ length w.steps
stands_last w k p s = omega (arith, length-drop k w.steps, ap length s.ahead, s.within)

-- on a segment of the line, the walk goes straight on
pub stands_point : (w : Walk) (k i : ℕ) (p q : Point) (qs : List Point) → Stands w k p (q ∷ qs) → i ≤ distance p q → point_at w (k + i) ≡ forward (heading p q) i p
stands_point w k i p q qs s h =
    let d = heading p q in
    let n = distance p q in
    let on : take i (drop k w.steps) ≡ replicate i d = ap (take i) s.ahead ∙ take-append-le i (replicate n d) (steps_through q qs) (rw (length-replicate n d) h) ∙ take-replicate i n d h in
    ap (after w.start) (take-add k i w.steps) ∙ after-append w.start (take k w.steps) (take i (drop k w.steps))
    ∙ ap (λ (ds : List Dir). after (point_at w k) ds) on ∙ ap (λ (a : Point). after a (replicate i d)) s.at ∙ after-replicate p i d

pub stands_step : (w : Walk) (k i : ℕ) (p q : Point) (qs : List Point) → Stands w k p (q ∷ qs) → i < distance p q → step_at w (k + i) ≡ heading p q
stands_step w k i p q qs s h =
    let d = heading p q in
    let n = distance p q in
    sym (get_or-drop k w.steps i East) ∙ ap (λ (ds : List Dir). get_or ds i East) s.ahead
    ∙ get_or_append_left (replicate n d) (steps_through q qs) East i (rw (length-replicate n d) h) ∙ get_or-replicate n i d East h

-- after a straight segment the walk is at its other end
pub stands_next : (w : Walk) (k : ℕ) (p q : Point) (qs : List Point) → IsStraight p q → Stands w k p (q ∷ qs) → Stands w (k + distance p q) q qs
stands_next w k p q qs straight s =
    let d = heading p q in
    let n = distance p q in
    record {
      within = omega (arith, length-drop k w.steps, ap length s.ahead, length-append (replicate n d) (steps_through q qs), length-replicate n d, s.within);
      at = stands_point w k n p q qs s (omega arith) ∙ straight_end p q straight;
      ahead = sym (drop-drop n k w.steps) ∙ ap (drop n) s.ahead ∙ drop_at (replicate n d) (steps_through q qs) n (length-replicate n d);
    }
