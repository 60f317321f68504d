-- What is known to lie ahead of a place, by the exits that lines keep and by the endings.
use Rattle.std.specs.Prelude.{ℕ, ◌==◌, ◌&&◌, if◌then◌else◌, length, fold, Option, Some, None}
use Rattle.std.specs.Option.{option_map}
use Rattle.plane_geom.specs.declared.point.Point.{Point}
use Rattle.plane_geom.specs.declared.point.Dir.{Dir}
use Rattle.plane_geom.specs.declared.point.Dir.TheVariants.{East, South, West, North}
use Rattle.plane_geom.specs.declared.point.Way.{Way}
use Rattle.plane_geom.specs.Along.{reach, way_of}
use Rattle.move_model.specs.declared.place.Place.{Place}
use Rattle.move_model.specs.declared.ahead.Ahead.{Ahead}
use Rattle.move_model.specs.Ahead.{nothing, with_stretch}
use Rattle.search_problem.specs.declared.ends.Ending.{Ending}
use Rattle.search_problem.specs.declared.problem.Problem.{Problem}
use Rattle.exit_rows.specs.Exits.{least_at, lesser}
use Rattle.exit_rows.specs.Rows.{kept_in}
use Rattle.exit_spread.specs.declared.spread.Spread.{Spread}
use Rattle.exit_spread.specs.Ways.{turned}

-- what is known to lie ahead of a walk that arrives at the place, which is at the point, in the direction, by the line with that number
abbrev pub known_by_line : Problem → Spread → Place → Point → ℕ → Dir → Option Ahead
known_by_line p s x at l d = option_map (turned p x.heading at d) (least_at (kept_in s.rows x.stage l d) (reach d at))

-- what is known to lie ahead of the place, which is at the point, in the direction
abbrev pub known_along : Problem → (ℕ → Way → ℕ) → Spread → Place → Point → Dir → Option Ahead
known_along p number_of s x at d = least_at (kept_in s.rows x.stage (number_of x.crossing (way_of d)) d) (reach d at)

-- the same for a walk that arrives at the place
abbrev pub known_towards : Problem → (ℕ → Way → ℕ) → Spread → Place → Point → Dir → Option Ahead
known_towards p number_of s x at d = option_map (turned p x.heading at d) (known_along p number_of s x at d)

-- what is ahead of the place by the stub of the ending
abbrev pub ahead_by : Problem → Place → Ending → Ahead
ahead_by p x e = with_stretch p.task.now.penalty x.heading (record { from = e.port; dir = e.dir; steps = e.rest }) nothing

-- the same, if the walk may end there
abbrev pub by_ending : Problem → Place → Ending → Option Ahead
by_ending p x e =
    if e.crossing == x.crossing && x.stage == length p.task.now.via
    then Some (ahead_by p x e)
    else None

-- the least that is known in any direction
abbrev pub known_onwards : Problem → (ℕ → Way → ℕ) → Spread → Place → Point → Option Ahead
known_onwards p number_of s x at =
    lesser (lesser (lesser (known_towards p number_of s x at East) (known_towards p number_of s x at South)) (known_towards p number_of s x at West)) (known_towards p number_of s x at North)

-- what is known to lie ahead of the place, which is at the point: the least in any direction and by any ending
abbrev pub known : Problem → (ℕ → Way → ℕ) → Spread → Place → Point → Option Ahead
known p number_of s x at = fold (λ least e. lesser least (by_ending p x e)) (known_onwards p number_of s x at) p.endings.items
