-- Where the steps of a line meet a rectangle. No public clause cites this module.
use Rattle.std.specs.Prelude.{ℕ, ◌<◌, List, ◌∷◌, length}
use Rattle.plane_geom.specs.declared.point.Point.{Point}
use Rattle.plane_geom.specs.declared.rect.Rect.{Rect}
use Rattle.walk_model.specs.Walk.{MeetsAt}
use Rattle.walk_model.specs.Line.{steps_through, walk_through}
use Rattle.route_check.specs.declared.steps.Steps.{Steps}
use Rattle.route_check.specs.declared.hit.Meeting.{Meeting}
use Rattle.route_check.specs.Steps.{IsAmong}
use Rattle.route_check.specs.Verdict.{IsOnSegment}

-- none of these steps of the line meets the rectangle
abbrev pub MeetsNone : Rect → Steps → Point → List Point → Type 0
MeetsNone rect steps first rest =
    (k : ℕ) → IsAmong steps k → k < length (steps_through first rest) → MeetsAt rect (walk_through first rest) k → ⊥

-- of these steps of the line this is the first that meets the rectangle, and this is its segment
pub record IsFirstMeeting (rect : Rect) (steps : Steps) (first : Point) (rest : List Point) (m : Meeting) : Type 0 where
  pub among : IsAmong steps m.step
  pub meets : MeetsAt rect (walk_through first rest) m.step
  pub none_before : (k : ℕ) → IsAmong steps k → k < m.step → MeetsAt rect (walk_through first rest) k → ⊥
  pub on_segment : IsOnSegment (first ∷ rest) m.step m.segment
