-- What is known to lie ahead of a place is small.
use Rattle.std.proofs.Common.{◌≡◌, ℕ, ◌+◌, ◌*◌, ◌≤◌, ◌==◌, ◌&&◌, Bool, true, false, Option, Some, None, All, Contains, length, if◌then◌else◌, inl, inr, subst, arith, unsigned_abs}
use Rattle.std.specs.Prelude.{pos, ◌+ℤ◌}
use Rattle.std.proofs.Math.Nat.{mul-le-mul_left}
use Rattle.std.proofs.lemmas.Int.{ints}
use Rattle.std.proofs.lemmas.List.Elements.{All-weaker}
use Rattle.std.proofs.lemmas.Option.{same_Some}
use Rattle.plane_geom.specs.declared.point.Point.{Point}
use Rattle.plane_geom.specs.declared.point.Dir.{Dir}
use Rattle.plane_geom.specs.declared.point.Dir.TheVariants.{East, South, West, North}
use Rattle.plane_geom.specs.declared.point.Way.{Way}
use Rattle.plane_geom.specs.Along.{across, reach, way_of}
use Rattle.plane_geom.specs.Point.{PointIsOnSheet}
use Rattle.line_arena.specs.Arena.{StandsAt}
use Rattle.walk_model.specs.Cost.{turn}
use Rattle.walk_model.proofs.CornerByCorner.Bends.{turn_bound}
use Rattle.move_model.specs.declared.place.Place.{Place}
use Rattle.move_model.specs.declared.ahead.Ahead.{Ahead}
use Rattle.move_model.specs.declared.ahead.Stretch.{Stretch}
use Rattle.move_model.specs.Ahead.{nothing, with_stretch}
use Rattle.search_problem.specs.Problems.{IsReady}
use Rattle.search_problem.specs.declared.ends.Ending.{Ending}
use Rattle.search_problem.specs.declared.problem.Problem.{Problem}
use Rattle.exit_rows.specs.Exits.{IsSmallKept}
use Rattle.exit_rows.specs.Rows.{kept_in}
use Rattle.exit_rows.proofs.Least.{lesser_one}
use Rattle.exit_spread.specs.Propagating.{IsFurtherAhead, IsOfferable}
use Rattle.exit_spread.specs.Known.{by_ending, known, known_along, known_onwards, known_towards}
use Rattle.exit_spread.specs.Searching.{IsKeptOf, IsSearching}
use Rattle.exit_spread.specs.Ways.{turned}
use Rattle.exit_spread.specs.declared.spread.Spread.{Spread}
use Rattle.exit_spread.proofs.Known.Places.{mapped_from, one_of}
use Rattle.exit_spread.proofs.Sizes.{across_small, crossing_within, kept_small, least_small, reach_within, small_ending}

-- with a stretch and a bend in front it may still be offered
pub offerable : (penalty : ℕ) (h : Dir) (s : Stretch) (v : Ahead) → penalty ≤ 1000000000 → v.cost + s.steps ≤ 300000010000000000 → PointIsOnSheet s.from → IsFurtherAhead v → IsOfferable (with_stretch penalty h s v)
offerable penalty h s v few short within small =
    let bent = mul-le-mul_left penalty (turn_bound h s.dir) in
    let coordinate = across_small s.dir s.from within in
    record {
      cost = omega (arith, bent, few, short);
      runs = runs (turn h s.dir == 0);
      lean = lean (turn h s.dir == 0) coordinate;
    }
  where
    runs : (b : Bool) → (if b then 0 else 1) + v.runs ≤ 3289602 + 1
    runs true = omega (arith, small.runs)
    runs false = omega (arith, small.runs)

    lean : (b : Bool) → unsigned_abs (across (way_of s.dir) s.from) ≤ 2000000000
        → unsigned_abs ((if b then pos 0 else across (way_of s.dir) s.from) +ℤ v.lean) ≤ 2000000000 * ((if b then 0 else 1) + v.runs)
    lean true c = omega (arith, ints, small.lean)
    lean false c = omega (arith, ints, small.lean, c)

module _ (p : Problem) (number_of : ℕ → Way → ℕ) (s : Spread) (ready : IsReady p) (searching : IsSearching p number_of s None None) where
  -- what the line of a crossing keeps is small
  pub small_row : (k c : ℕ) (at : Point) (d : Dir) → StandsAt p.arena.now c at → All IsSmallKept (kept_in s.rows k (number_of c (way_of d)) d)
  small_row k c at d here = All-weaker (IsKeptOf p number_of k (number_of c (way_of d)) d) IsSmallKept (λ e. kept_small p number_of ready k (number_of c (way_of d)) d e) (kept_in s.rows k (number_of c (way_of d)) d) (searching.kept k c d at here)

  small_towards : (x : Place) (at : Point) (d : Dir) (v : Ahead) → StandsAt p.arena.now x.crossing at → known_towards p number_of s x at d ≡ Some v → IsOfferable v
  small_towards x at d v here h =
      let within = crossing_within p x.crossing at ready here in
      let of = mapped_from (turned p x.heading at d) (known_along p number_of s x at d) v h in
      let further = least_small (kept_in s.rows x.stage (number_of x.crossing (way_of d)) d) (reach d at) of.0 (small_row x.stage x.crossing at d here) (reach_within d at within) of.1 in
      subst IsOfferable of.2 (offerable p.task.now.penalty x.heading (record { from = at; dir = d; steps = 0 }) of.0 ready.problem.is_task.penalty (omega (arith, further.cost)) within further)

  small_ending_known : (x : Place) (e : Ending) (v : Ahead) → Contains p.endings.items e → by_ending p x e ≡ Some v → IsOfferable v
  small_ending_known x e v has h = by_test (e.crossing == x.crossing && x.stage == length p.task.now.via) h
    where
      gives : Ahead
      gives = with_stretch p.task.now.penalty x.heading (record { from = e.port; dir = e.dir; steps = e.rest }) nothing

      is_small : IsOfferable gives
      is_small =
          let small = small_ending p e ready has in
          offerable p.task.now.penalty x.heading (record { from = e.port; dir = e.dir; steps = e.rest }) nothing ready.problem.is_task.penalty (omega (arith, small.rest)) small.port
          (record { cost = omega arith; runs = omega arith; lean = omega arith })

      by_test : (t : Bool) → (if t then Some gives else None) ≡ Some v → IsOfferable v
      by_test true k = subst IsOfferable (same_Some gives v k) is_small
      by_test false k = absurd (let wrong : ◌≡◌ {A = Option Ahead} None (Some v) = k in cc)

  small_onwards : (x : Place) (at : Point) (v : Ahead) → StandsAt p.arena.now x.crossing at → known_onwards p number_of s x at ≡ Some v → IsOfferable v
  small_onwards x at v here h = elim (lesser_one _ (known_towards p number_of s x at North) v h) as (λ _. IsOfferable v) [
    | inl three ↦ elim (lesser_one _ (known_towards p number_of s x at West) v three) as (λ _. IsOfferable v) [
      | inl two ↦ elim (lesser_one (known_towards p number_of s x at East) (known_towards p number_of s x at South) v two) as (λ _. IsOfferable v) [
        | inl e ↦ small_towards x at East v here e
        | inr e ↦ small_towards x at South v here e
      ]
      | inr e ↦ small_towards x at West v here e
    ]
    | inr e ↦ small_towards x at North v here e
  ]

  -- what is known to lie ahead of a place may be offered
  pub known_small : (x : Place) (at : Point) (v : Ahead) → StandsAt p.arena.now x.crossing at → known p number_of s x at ≡ Some v → IsOfferable v
  known_small x at v here h = elim (one_of p x p.endings.items (known_onwards p number_of s x at) v h) as (λ _. IsOfferable v) [
    | inl on ↦ small_onwards x at v here on
    | inr (k, e, lt, is, of) ↦ small_ending_known x e v (k, lt, is) of
  ]
