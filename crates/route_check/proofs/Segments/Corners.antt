-- Where the walk of a line stands at a corner.
use Rattle.std.proofs.Common.{◌≡◌, ℕ, zero, suc, ◌+◌, ◌-◌, ◌*◌, ◌<◌, ◌≤◌, List, [], ◌∷◌, pos, length, take, drop, get_or, refl, sym, ap, ◌∙◌, arith, All, add-one, subst}
use Rattle.std.proofs.lemmas.List.{length-append, length-replicate, drop_all, drop_more, get_or_default}
use Rattle.plane_geom.specs.declared.point.Point.{Point}
use Rattle.plane_geom.specs.Point.{IsStraight, PointIsOnSheet, distance, forward, heading}
use Rattle.walk_model.specs.Walk.{point_at, step_at}
use Rattle.walk_model.specs.Line.{AreStraight, steps_through, walk_through}
use Rattle.walk_model.proofs.CornerByCorner.Scan.{Stands, stands_first, stands_next, stands_point, stands_step, stands_last}
use Rattle.plane_geom.proofs.Signed.{distance_bound}

-- the code's default where a list has no such corner
abbrev pub origin : Point
origin = record { x = pos 0; y = pos 0 }

-- the corner with this number, counted from 0
abbrev pub corner : List Point → ℕ → Point
corner points i = get_or points i origin

-- one more corner, and its segment
count_more : (p : Point) (qs : List Point) (i : ℕ) (d : Point) → i < length qs →
    length (steps_through p (take (suc i) qs)) ≡ length (steps_through p (take i qs)) + distance (get_or (p ∷ qs) i d) (get_or qs i d)
count_more p [] i d h = absurd (omega arith)
count_more p (q ∷ qs) zero d h = simp (length-append, length-replicate) (omega arith)
count_more p (q ∷ qs) (suc i) d h = let further = count_more q qs i d (omega arith) in simp (length-append, length-replicate) (omega arith)

-- the walk of the line has reached its corner number i, counted from 0, which is this point, after k steps
pub record AtCorner (first : Point) (rest : List Point) (i k : ℕ) (p : Point) : Type 0 where
  pub stands : Stands (walk_through first rest) k p (drop i rest)
  pub straight : AreStraight p (drop i rest)
  pub here : get_or (first ∷ rest) i first ≡ p
  pub counted : k ≡ length (steps_through first (take i rest))
  pub on_sheet : PointIsOnSheet p
  pub small : k ≤ 8000000000 * i

pub at_begin : (first : Point) (rest : List Point) → AreStraight first rest → PointIsOnSheet first → AtCorner first rest 0 0 first
at_begin first rest straight on = record { stands = stands_first first rest; straight = straight; here = refl; counted = refl; on_sheet = on; small = omega arith }

module _ (first : Point) (rest : List Point) (i k : ℕ) (p : Point) (at : AtCorner first rest i k p) (more : i < length rest) where
  next_straight : IsStraight p (corner rest i) × AreStraight (corner rest i) (drop (i + 1) rest)
  next_straight = let s : AreStraight p (corner rest i ∷ drop (i + 1) rest) = subst (AreStraight p) (drop_more rest i origin more) at.straight in s

  next_stands : Stands (walk_through first rest) k p (corner rest i ∷ drop (i + 1) rest)
  next_stands = subst (Stands (walk_through first rest) k p) (drop_more rest i origin more) at.stands

  pub at_next : All PointIsOnSheet rest → AtCorner first rest (i + 1) (k + distance p (corner rest i)) (corner rest i)
  at_next on =
      let q = corner rest i in
      let same : q ≡ get_or rest i first = get_or_default rest i origin first more in
      let segment : distance (get_or (first ∷ rest) i first) (get_or rest i first) ≡ distance p q =
      ap (λ (x : Point). distance x (get_or rest i first)) at.here ∙ ap (distance p) (sym same) in
      record {
        stands = stands_next (walk_through first rest) k p q (drop (i + 1) rest) next_straight.0 next_stands;
        straight = next_straight.1;
        here = rw add-one (sym same);
        counted = rw add-one (omega (arith, at.counted, count_more first rest i first more, segment));
        on_sheet = on i origin more;
        small = omega (arith, at.small, distance_bound p q at.on_sheet (on i origin more));
      }

  pub at_point : (j : ℕ) → k ≤ j → j ≤ k + distance p (corner rest i) → point_at (walk_through first rest) j ≡ forward (heading p (corner rest i)) (j - k) p
  at_point j low high =
      ap (point_at (walk_through first rest)) (omega arith) ∙ stands_point (walk_through first rest) k (j - k) p (corner rest i) (drop (i + 1) rest) next_stands (omega arith)

  pub at_step : (j : ℕ) → k ≤ j → j < k + distance p (corner rest i) → step_at (walk_through first rest) j ≡ heading p (corner rest i)
  at_step j low high =
      ap (step_at (walk_through first rest)) (omega arith) ∙ stands_step (walk_through first rest) k (j - k) p (corner rest i) (drop (i + 1) rest) next_stands (omega arith)

pub at_end : (first : Point) (rest : List Point) (i k : ℕ) (p : Point) → AtCorner first rest i k p → length rest ≤ i → k ≡ length (steps_through first rest)
at_end first rest i k p at done = stands_last (walk_through first rest) k p (subst (Stands (walk_through first rest) k p) (drop_all i rest done) at.stands)

-- the walk reaches each corner
pub at_each : (first : Point) (rest : List Point) → AreStraight first rest → PointIsOnSheet first → All PointIsOnSheet rest → (i : ℕ) → i ≤ length rest → (k : ℕ) × (p : Point) × AtCorner first rest i k p
at_each first rest straight begin on zero h = (0, first, at_begin first rest straight begin)
at_each first rest straight begin on (suc i) h =
    let (k, p, at) = at_each first rest straight begin on i (omega arith) in
    (k + distance p (corner rest i), corner rest i, rw (← add-one i) (at_next first rest i k p at (omega arith) on))
