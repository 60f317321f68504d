-- Where the points of a line lie.
use Rattle.std.proofs.Common.{◌≡◌, ◌∙◌, ap}
use Rattle.plane_geom.specs.declared.point.Point.{Point}
use Rattle.plane_geom.specs.declared.point.Way.{Way}
use Rattle.plane_geom.specs.declared.point.Way.TheVariants.{Vertical, Horizontal}
use Rattle.plane_geom.specs.declared.floor.Line.{Line}
use Rattle.plane_geom.specs.Along.{across, along}
use Rattle.plane_geom.specs.Floor.{Holds, point_on}

-- a line runs at one coordinate
pub held_across : (way : Way) (l : Line) (p : Point) → l.way ≡ way → Holds l p → across way p ≡ l.at
held_across Vertical l p e h = ap (λ (q : Point). q.x) (h.here ∙ ap (λ (v : Way). point_on v l.at h.along) e)
held_across Horizontal l p e h = ap (λ (q : Point). q.y) (h.here ∙ ap (λ (v : Way). point_on v l.at h.along) e)

pub held_along : (way : Way) (l : Line) (p : Point) → l.way ≡ way → (h : Holds l p) → along way p ≡ h.along
held_along Vertical l p e h = ap (λ (q : Point). q.y) (h.here ∙ ap (λ (v : Way). point_on v l.at h.along) e)
held_along Horizontal l p e h = ap (λ (q : Point). q.x) (h.here ∙ ap (λ (v : Way). point_on v l.at h.along) e)
