-- No run is pushed into a solid.
use Rattle.std.proofs.Common.{◌≡◌, ◌⊎◌, ℤ, ◌≤ℤ◌, List, get_or, inl, inr, sym, subst, arith}
use Rattle.std.proofs.lemmas.Int.{ints, clamps}
use Rattle.std.specs.Int.{int_min, int_max}
use Rattle.std.specs.Prelude.{All}
use Rattle.plane_geom.specs.declared.point.Dir.{Dir}
use Rattle.plane_geom.specs.declared.point.Dir.TheVariants.{East, South, West, North}
use Rattle.plane_geom.specs.declared.point.Way.{Way}
use Rattle.plane_geom.specs.declared.point.Way.TheVariants.{Vertical, Horizontal}
use Rattle.plane_geom.specs.declared.rect.Rect.{Rect}
use Rattle.plane_geom.specs.declared.rect.Solid.{Solid}
use Rattle.plane_geom.specs.Point.{opposite}
use Rattle.plane_geom.specs.Rect.{Overlaps, Meets}
use Rattle.plane_geom.specs.Floor.{point_on}
use Rattle.plane_geom.proofs.Places.{halfway, overlap_ends}
use Rattle.plane_geom.proofs.Pieces.{covered}
use Rattle.segment_order.specs.declared.run.Run.{Run}
use Rattle.segment_order.specs.Run.{IsRun, end_in}
use Rattle.channel_bundles.specs.Limits.{Sweeps}
use Rattle.nudge_phases.specs.LegalRuns.{IsClear}
use Rattle.nudge_phases.proofs.AlongRuns.Ends.{far_end, end_far}
use Rattle.nudge_phases.proofs.MovedRuns.Ends.{turned}

-- the rectangle's open range across lines of the way has a place in common with the closed one
abbrev pub OnAcross : Way → Rect → ℤ → ℤ → Type 0
OnAcross Vertical r a b = Overlaps r.left r.right a b
OnAcross Horizontal r a b = Overlaps r.top r.bottom a b

-- and so along them
abbrev pub OnAlong : Way → Rect → ℤ → ℤ → Type 0
OnAlong Vertical r a b = Overlaps r.top r.bottom a b
OnAlong Horizontal r a b = Overlaps r.left r.right a b

wider : (low high a b c d : ℤ) → int_min c d ≤ℤ int_min a b → int_max a b ≤ℤ int_max c d → Overlaps low high a b → Overlaps low high c d
wider low high a b c d h k o = let e = overlap_ends low high a b o in halfway low high c d e.0 (omega (arith, ints, e.1)) (omega (arith, ints, e.2))

wider_across : (w : Way) (r : Rect) (a b c d : ℤ) → int_min c d ≤ℤ int_min a b → int_max a b ≤ℤ int_max c d → OnAcross w r a b → OnAcross w r c d
wider_across Vertical r a b c d h k o = wider r.left r.right a b c d h k o
wider_across Horizontal r a b c d h k o = wider r.top r.bottom a b c d h k o

wider_along : (w : Way) (r : Rect) (a b c d : ℤ) → int_min c d ≤ℤ int_min a b → int_max a b ≤ℤ int_max c d → OnAlong w r a b → OnAlong w r c d
wider_along Vertical r a b c d h k o = wider r.top r.bottom a b c d h k o
wider_along Horizontal r a b c d h k o = wider r.left r.right a b c d h k o

covered_along : (w : Way) (r : Rect) (u v p q : ℤ) → OnAlong w r p q → OnAlong w r u p ⊎ (OnAlong w r u v ⊎ OnAlong w r v q)
covered_along Vertical r u v p q o = covered r.top r.bottom u v p q o
covered_along Horizontal r u v p q o = covered r.left r.right u v p q o

-- a piece of a line meets a rectangle where both ranges do
pub met : (w : Way) (r : Rect) (at a b : ℤ) → OnAcross w r at at → OnAlong w r a b → Meets r (point_on w at a) (point_on w at b)
met Vertical r at a b x y = record { x = x; y = y }
met Horizontal r at a b x y = record { x = y; y = x }

pub met_across : (w : Way) (r : Rect) (at a b : ℤ) → Meets r (point_on w at a) (point_on w at b) → OnAcross w r at at
met_across Vertical r at a b m = m.x
met_across Horizontal r at a b m = m.y

pub met_along : (w : Way) (r : Rect) (at a b : ℤ) → Meets r (point_on w at a) (point_on w at b) → OnAlong w r a b
met_along Vertical r at a b m = m.y
met_along Horizontal r at a b m = m.x

pub swept : (w : Way) (r : Rect) (at z lo hi : ℤ) → OnAcross w r at z → OnAlong w r lo hi → Sweeps w r at z lo hi
swept Vertical r at z lo hi x y = (x, y)
swept Horizontal r at z lo hi x y = (x, y)

turn_across : (w : Way) (r : Rect) (a b : ℤ) → OnAcross (turned w) r a b → OnAlong w r a b
turn_across Vertical r a b o = o
turn_across Horizontal r a b o = o

turn_along : (w : Way) (r : Rect) (a b : ℤ) → OnAlong (turned w) r a b → OnAcross w r a b
turn_along Vertical r a b o = o
turn_along Horizontal r a b o = o

-- a clear segment has another end now, which moved a clear way or not at all
abbrev pub Moves : List Solid → Way → ℤ → ℤ → ℤ → Type 0
Moves solids w at u p = (u ≡ p) ⊎ IsClear solids (point_on w at u) (point_on w at p)

along_stays : (w : Way) (r : Rect) (u v p : ℤ) → u ≡ p → OnAlong w r u p → OnAlong w r u v
along_stays w r u v p e o = wider_along w r u p u v (omega (arith, ints, clamps, e)) (omega (arith, ints, clamps, e)) o

along_stays_last : (w : Way) (r : Rect) (u v q : ℤ) → v ≡ q → OnAlong w r v q → OnAlong w r u v
along_stays_last w r u v q e o = wider_along w r v q u v (omega (arith, ints, clamps, e)) (omega (arith, ints, clamps, e)) o

pub clear_moved : (solids : List Solid) (w : Way) (at u v p q : ℤ) → IsClear solids (point_on w at u) (point_on w at v) → Moves solids w at u p → Moves solids w at v q → IsClear solids (point_on w at p) (point_on w at q)
clear_moved solids w at u v p q old from to n d inside m =
    let r = (get_or solids n d).rect in
    let here = met_across w r at p q m in
    elim (covered_along w r u v p q (met_along w r at p q m)) as (λ _. ⊥) [
      | inl o ↦ (elim from as (λ _. ⊥) [ inl e ↦ old n d inside (met w r at u v here (along_stays w r u v p e o)) | inr c ↦ c n d inside (met w r at u p here o) ])
      | inr rest ↦ (elim rest as (λ _. ⊥) [
        | inl o ↦ old n d inside (met w r at u v here o)
        | inr o ↦ (elim to as (λ _. ⊥) [ inl e ↦ old n d inside (met w r at u v here (along_stays_last w r u v q e o)) | inr c ↦ c n d inside (met w r at v q here o) ])
      ])
    ]

-- no solid is swept by the run on its way to the coordinate
abbrev pub IsFreeSweep : List Solid → Run → ℤ → Type 0
IsFreeSweep solids r z = All (λ s. Sweeps r.way s.rect r.at z r.lo r.hi → ⊥) solids

far_low : (d : Dir) (r : Run) → IsRun r → (r.lo ≤ℤ far_end d r) × (far_end d r ≤ℤ r.hi)
far_low East r h = (h.ordered, omega (arith, ints))
far_low South r h = (h.ordered, omega (arith, ints))
far_low West r h = (omega (arith, ints), h.ordered)
far_low North r h = (omega (arith, ints), h.ordered)

-- the run's end is on a clear way then
pub end_moves : (solids : List Solid) (d : Dir) (r : Run) (z : ℤ) → IsRun r → IsFreeSweep solids r z → IsClear solids (point_on (turned r.way) (far_end d r) r.at) (point_on (turned r.way) (far_end d r) z)
end_moves solids d r z h free n s inside m =
    let rect = (get_or solids n s).rect in
    let f = far_end d r in
    let bounds = far_low d r h in
    free n s inside (swept r.way rect r.at z r.lo r.hi
    (turn_along r.way rect r.at z (met_along (turned r.way) rect f r.at z m))
    (wider_along r.way rect f f r.lo r.hi (omega (arith, ints, clamps, bounds.0, bounds.1)) (omega (arith, ints, clamps, bounds.0, bounds.1)) (turn_across r.way rect f f (met_across (turned r.way) rect f r.at z m))))

-- and so is the run itself where it then stands
pub run_clear : (solids : List Solid) (d : Dir) (r : Run) (z : ℤ) → IsRun r → IsFreeSweep solids r z → IsClear solids (point_on r.way z (far_end (opposite d) r)) (point_on r.way z (far_end d r))
run_clear solids d r z h free n s inside m =
    let rect = (get_or solids n s).rect in
    let one = far_low d r h in
    let two = far_low (opposite d) r h in
    free n s inside (swept r.way rect r.at z r.lo r.hi
    (wider_across r.way rect z z r.at z (omega (arith, ints, clamps)) (omega (arith, ints, clamps)) (met_across r.way rect z _ _ m))
    (wider_along r.way rect (far_end (opposite d) r) (far_end d r) r.lo r.hi (omega (arith, ints, clamps, one.0, two.0, one.1, two.1)) (omega (arith, ints, clamps, one.0, two.0, one.1, two.1)) (met_along r.way rect z _ _ m)))

swept_across : (w : Way) (r : Rect) (at z lo hi : ℤ) → Sweeps w r at z lo hi → OnAcross w r at z
swept_across Vertical r at z lo hi s = s.0
swept_across Horizontal r at z lo hi s = s.0

swept_along : (w : Way) (r : Rect) (at z lo hi : ℤ) → Sweeps w r at z lo hi → OnAlong w r lo hi
swept_along Vertical r at z lo hi s = s.1
swept_along Horizontal r at z lo hi s = s.1

along_ends : (d : Dir) (r : Run) (rect : Rect) → OnAlong r.way rect r.lo r.hi → OnAlong r.way rect (far_end (opposite d) r) (far_end d r)
along_ends East r rect o = o
along_ends South r rect o = o
along_ends West r rect o = wider_along r.way rect r.lo r.hi r.hi r.lo (omega (arith, ints, clamps)) (omega (arith, ints, clamps)) o
along_ends North r rect o = wider_along r.way rect r.lo r.hi r.hi r.lo (omega (arith, ints, clamps)) (omega (arith, ints, clamps)) o

-- a clear run sweeps nothing where it stands
pub stays_free : (solids : List Solid) (d : Dir) (r : Run) → IsClear solids (end_in (opposite d) r) (end_in d r) → IsFreeSweep solids r r.at
stays_free solids d r clear n s inside sweep =
    let rect = (get_or solids n s).rect in
    clear n s inside (subst (λ p. Meets rect p (end_in d r)) (sym (end_far (opposite d) r)) (subst (λ p. Meets rect (point_on r.way r.at (far_end (opposite d) r)) p) (sym (end_far d r))
    (met r.way rect r.at _ _ (swept_across r.way rect r.at r.at r.lo r.hi sweep) (along_ends d r rect (swept_along r.way rect r.at r.at r.lo r.hi sweep)))))
