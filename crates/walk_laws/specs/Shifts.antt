-- Runs that are moved by one step.
use Rattle.std.specs.Prelude.{ℕ, ◌≡◌, ◌⊎◌, ◌+◌, ◌<◌, ◌≤◌, ◌+ℤ◌, List, [], ◌∷◌, ◌++◌, length, replicate, All}
use Rattle.plane_geom.specs.declared.point.Point.{Point}
use Rattle.plane_geom.specs.declared.point.Dir.{Dir}
use Rattle.plane_geom.specs.declared.floor.Line.{Line}
use Rattle.plane_geom.specs.declared.rect.Solid.{Solid}
use Rattle.plane_geom.specs.Floor.{Holds}
use Rattle.plane_geom.specs.Along.{across, way_of}
use Rattle.walk_model.specs.declared.task.Task.{Task}
use Rattle.walk_model.specs.Choice.{stub_length}
use Rattle.walk_model.specs.Cost.{turn, runs}
use Rattle.walk_model.specs.Lean.{lean}
use Rattle.walk_model.specs.Order.{Triple, IsLegalTriple}
use Rattle.walk_model.specs.Walk.{after}
use Rattle.walk_laws.specs.Lines.{run_line}
use Rattle.walk_laws.specs.Sides.{SharesSideTo}

-- a run of some steps between two other steps, and the steps in front of these and behind them
pub record InnerRun : Type 0 where
  pub front : List Dir
  pub before : Dir
  pub along : Dir
  pub long : ℕ
  pub behind : Dir
  pub back : List Dir

-- all the steps
abbrev pub steps_with : InnerRun → List Dir
steps_with r = r.front ++ (r.before ∷ (replicate r.long r.along ++ (r.behind ∷ r.back)))

-- the run moved back by the step before it, which is made after the run instead
abbrev pub moved_back : InnerRun → List Dir
moved_back r = r.front ++ (replicate r.long r.along ++ (r.before ∷ r.behind ∷ r.back))

-- the run moved on by the step after it, which is made before the run instead
abbrev pub moved_on : InnerRun → List Dir
moved_on r = r.front ++ (r.before ∷ r.behind ∷ (replicate r.long r.along ++ r.back))

-- the run moved back by the step before it, where the step after it leads back too, so that neither is made
abbrev pub cut_short : InnerRun → List Dir
cut_short r = r.front ++ (replicate r.long r.along ++ r.back)

-- the walk with the same start, the same choices and other steps
abbrev pub with_steps : Triple → List Dir → Triple
with_steps t steps = record { start = t.start; walk = record { start = t.walk.start; steps = steps }; end = t.end }

-- the line on which the run lies
abbrev pub line_of_run : Triple → InnerRun → Line
line_of_run t r = run_line (after t.walk.start (r.front ++ r.before ∷ [])) r.along r.long

-- the walk is legal and goes so, the run and the steps beside it lie between the ports, and both steps are across it
pub record HasInnerRun (solids : List Solid) (task : Task) (t : Triple) (r : InnerRun) : Type 0 where
  pub legal : IsLegalTriple solids task t
  pub steps : t.walk.steps ≡ steps_with r
  pub some : 0 < r.long
  pub turns : turn r.before r.along ≡ 1
  pub begins : stub_length legal.start ≤ length r.front
  pub ends : length r.front + r.long + 2 + stub_length legal.end ≤ length t.walk.steps

-- no solid has a closed side on the line to this side that shares a point with it, and the line holds no checkpoint
pub record IsFreeTo (solids : List Solid) (via : List Point) (side : Dir) (l : Line) : Type 0 where
  pub sides : All (λ s. SharesSideTo side l s.rect → ⊥) solids
  pub checkpoints : All (λ c. Holds l c → ⊥) via

-- from a run that began at the first point to one that begins at the second: the steps have fewer runs, or as many and a sum of run coordinates that differs by that of the run
abbrev pub JoinsOrLeans : Triple → Dir → List Dir → Point → Point → Type 0
JoinsOrLeans t along steps here there =
    (runs steps < runs t.walk.steps)
    ⊎ ((runs steps ≡ runs t.walk.steps)
    × (lean t.walk.start steps +ℤ across (way_of along) here ≡ lean t.walk.start t.walk.steps +ℤ across (way_of along) there))
