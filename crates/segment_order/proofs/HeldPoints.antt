-- What it means that a point lies on a run.
use Rattle.std.proofs.Common.{◌≡◌, ℤ, ◌≤ℤ◌, refl, sym, ap, ◌∙◌, subst}
use Rattle.plane_geom.specs.declared.point.Point.{Point}
use Rattle.plane_geom.specs.declared.point.Way.{Way}
use Rattle.plane_geom.specs.declared.point.Way.TheVariants.{Vertical, Horizontal}
use Rattle.plane_geom.specs.Along.{across, along}
use Rattle.plane_geom.specs.Floor.{Holds, point_on}
use Rattle.segment_order.specs.declared.run.Run.{Run}
use Rattle.segment_order.specs.Run.{line_of_run}

-- the point of a whole line by its coordinates
on_line : (way : Way) (p : Point) → p ≡ point_on way (across way p) (along way p)
on_line Vertical p = refl
on_line Horizontal p = refl

across_on : (way : Way) (at z : ℤ) → across way (point_on way at z) ≡ at
across_on Vertical at z = refl
across_on Horizontal at z = refl

along_on : (way : Way) (at z : ℤ) → along way (point_on way at z) ≡ z
along_on Vertical at z = refl
along_on Horizontal at z = refl

pub held : (r : Run) (p : Point) → across r.way p ≡ r.at → r.lo ≤ℤ along r.way p → along r.way p ≤ℤ r.hi → Holds (line_of_run r) p
held r p at from to = record { along = along r.way p; from = from; to = to; here = on_line r.way p ∙ ap (λ z. point_on r.way z (along r.way p)) at }

pub record IsHeld (r : Run) (p : Point) : Type 0 where
  pub at : across r.way p ≡ r.at
  pub from : r.lo ≤ℤ along r.way p
  pub to : along r.way p ≤ℤ r.hi

pub is_held : (r : Run) (p : Point) → Holds (line_of_run r) p → IsHeld r p
is_held r p h =
    let same : h.along ≡ along r.way p = sym (along_on r.way r.at h.along) ∙ ap (λ q. along r.way q) (sym h.here) in
    record {
      at = ap (λ q. across r.way q) h.here ∙ across_on r.way r.at h.along;
      from = subst (λ z. r.lo ≤ℤ z) same h.from;
      to = subst (λ z. z ≤ℤ r.hi) same h.to;
    }
