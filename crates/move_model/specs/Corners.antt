-- Walks by the corners that they have passed.
use Rattle.std.specs.Prelude.{ℕ, ◌≡◌, ◌<◌, List, [], ◌∷◌, ◌++◌, length, replicate}
use Rattle.plane_geom.specs.declared.point.Point.{Point}
use Rattle.plane_geom.specs.declared.point.Dir.{Dir}
use Rattle.plane_geom.specs.Point.{forward}
use Rattle.walk_model.specs.Cost.{runs}
use Rattle.walk_model.specs.Line.{AreStraight, steps_through}
use Rattle.walk_model.specs.Walk.{Walk}

-- the last of the points, the first of which is given
abbrev pub last_corner : Point → List Point → Point
last_corner p [] = p
last_corner p (q ∷ qs) = last_corner q qs

-- the walk with more steps at its end
abbrev pub further : Walk → List Dir → Walk
further w ds = record { start = w.start; steps = w.steps ++ ds }

-- the walk goes through these points, which are its start and its corners, and then straight on in the heading to its present point
pub record IsDrawn (points : List Point) (at : Point) (heading : Dir) (w : Walk) : Type 0 where
  pub corners : List Point
  pub all : points ≡ w.start ∷ corners
  pub straight : AreStraight w.start corners
  pub steps : ℕ
  pub some : 0 < steps
  pub here : at ≡ forward heading steps (last_corner w.start corners)
  pub walk : w.steps ≡ steps_through w.start corners ++ replicate steps heading
  pub count : length points ≡ runs w.steps
