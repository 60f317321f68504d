-- How far a walk leads: no further than it has steps, and along a line to its last corner.
use Rattle.std.proofs.Common.{◌≡◌, ◌+◌, ◌≤◌, List, [], ◌∷◌, ◌++◌, length, replicate, ap, ◌∙◌, arith}
use Rattle.std.proofs.lemmas.Int.{ints}
use Rattle.plane_geom.specs.declared.point.Point.{Point}
use Rattle.plane_geom.specs.declared.point.Dir.{Dir}
use Rattle.plane_geom.specs.declared.point.Dir.TheVariants.{East, South, West, North}
use Rattle.plane_geom.specs.Point.{IsStraight, distance, forward, heading}
use Rattle.plane_geom.proofs.Headings.{straight_end}
use Rattle.walk_model.specs.Walk.{after}
use Rattle.walk_model.specs.Line.{AreStraight, steps_through}
use Rattle.walk_model.proofs.CornerByCorner.Scan.{after-append, after-replicate}

-- a step leads no nearer than by one
step_nearer : (d : Dir) (p q : Point) → distance p q ≤ 1 + distance (forward d 1 p) q
step_nearer East p q = omega (arith, ints)
step_nearer South p q = omega (arith, ints)
step_nearer West p q = omega (arith, ints)
step_nearer North p q = omega (arith, ints)

pub steps_apart : (p : Point) (ds : List Dir) → distance p (after p ds) ≤ length ds
steps_apart p [] = omega (arith, ints)
steps_apart p (d ∷ ds) = omega (arith, step_nearer d p (after p (d ∷ ds)), steps_apart (forward d 1 p) ds)

-- a straight segment leads to its end
one_leads : (p q : Point) (ds : List Dir) → IsStraight p q → after p (replicate (distance p q) (heading p q) ++ ds) ≡ after q ds
one_leads p q ds straight =
    after-append p (replicate (distance p q) (heading p q)) ds ∙ ap (λ x. after x ds) (after-replicate p (distance p q) (heading p q) ∙ straight_end p q straight)

-- so a line leads to its last corner
pub line_leads : (p q : Point) (corners : List Point) → AreStraight p (corners ++ q ∷ []) → after p (steps_through p (corners ++ q ∷ [])) ≡ q
line_leads p q [] straight = one_leads p q [] straight.0
line_leads p q (r ∷ corners) straight = one_leads p r (steps_through r (corners ++ q ∷ [])) straight.0 ∙ line_leads r q corners straight.1
