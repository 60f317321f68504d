-- The steps of a phase: first the runs of the way move, then the others follow with their corners. No public clause cites this module.
use Rattle.std.specs.Prelude.{◌≡◌, ◌≢◌, ℕ, ◌-◌, ◌<◌, ◌≤◌, ℤ, List, ◌++◌, length, map, slice_get, slice_set, Option, Some, None, All, Contains, if◌then◌else◌}
use Rattle.plane_geom.specs.declared.point.Way.{Way}
use Rattle.segment_order.specs.declared.run.Run.{Run}
use Rattle.segment_order.specs.Run.{run_at}
use Rattle.separation_model.specs.declared.bundle.Solution.{Solution}
use Rattle.separation_model.specs.Bundle.{IsBundle}
use Rattle.channel_bundles.specs.declared.route.PhaseRoute.{PhaseRoute}
use Rattle.channel_bundles.specs.declared.channel.RunBundle.{RunBundle}
use Rattle.channel_bundles.specs.Route.{IsPhaseRoute, is_way}
use Rattle.nudge_phases.specs.Moved.{IsPutAt, moved_run}
use Rattle.nudge_phases.specs.Phase.{IsSolutionOf}
use Rattle.nudge_phases.specs.Rising.{EdgesRise}

-- the lists have the same length, and the relation holds for the two elements at each place
pub record AreEach {X Y : Type 0} (holds : X → Y → Type 0) (before : List X) (after : List Y) : Type 0 where
  pub count : length after ≡ length before
  pub each : (k : ℕ) (x : X) (y : Y) → slice_get before k ≡ Some x → slice_get after k ≡ Some y → holds x y

-- for each bundle a solution, in their order
abbrev pub AreSolutionsOf : List RunBundle → List Solution → Type 0
AreSolutionsOf = AreEach (λ b s. IsSolutionOf b.bundle s)

-- the route may have other runs, and everything else is as before
pub record IsSameButRuns (before after : PhaseRoute) : Type 0 where
  pub edge : after.edge ≡ before.edge
  pub weight : after.weight ≡ before.weight
  pub anchors : after.anchors ≡ before.anchors

-- the run is one of the way, of one of the routes
pub record IsRunIn (routes : List PhaseRoute) (way : Way) (r : Run) : Type 0 where
  pub place : ℕ
  pub index : ℕ
  pub route : PhaseRoute
  pub of_route : slice_get routes place ≡ Some route
  pub here : slice_get route.runs.items index ≡ Some r
  pub is_way : r.way ≡ way

-- one of the routes is of the run's edge, and has a run with its place
pub record HasPlaceOf (routes : List PhaseRoute) (r : Run) : Type 0 where
  pub index : ℕ
  pub route : PhaseRoute
  pub of_route : slice_get routes index ≡ Some route
  pub edge : route.edge ≡ r.edge
  pub low : 0 < r.place
  pub high : r.place ≤ length route.runs.items

-- the route, with the run at the index moved to the coordinate
pub record IsPutTo (k : ℕ) (z : ℤ) (before after : PhaseRoute) : Type 0 where
  pub same : IsSameButRuns before after
  pub runs : after.runs.items ≡ slice_set before.runs.items k (record (run_at before.runs.items k) { at = z })

-- the route, with this run of its edge moved to the coordinate; routes of other edges stay
pub record IsPutIfOwn (r : Run) (z : ℤ) (before after : PhaseRoute) : Type 0 where
  pub own : before.edge ≡ r.edge → IsPutTo (r.place - 1) z before after
  pub others : before.edge ≢ r.edge → after ≡ before

-- the route, with the finished ones of its runs where the solutions put them; the runs of the other way stay
pub record IsPutSoFar (way : Way) (found : List RunBundle) (solutions : List Solution) (done : List Run) (before after : PhaseRoute) : Type 0 where
  pub same : IsSameButRuns before after
  pub count : length after.runs.items ≡ length before.runs.items
  pub runs : (k : ℕ) → k < length before.runs.items → run_at after.runs.items k ≡ record (run_at before.runs.items k) { at = (run_at after.runs.items k).at }
  pub own : (k : ℕ) → k < length before.runs.items → Contains done (run_at before.runs.items k) → IsPutAt found solutions (run_at before.runs.items k) (run_at after.runs.items k).at
  pub others : (k : ℕ) → k < length before.runs.items → (run_at before.runs.items k).way ≢ way → (run_at after.runs.items k).at ≡ (run_at before.runs.items k).at

-- the route, with its runs of the way where the solutions put them
pub record IsPut (way : Way) (found : List RunBundle) (solutions : List Solution) (before after : PhaseRoute) : Type 0 where
  pub same : IsSameButRuns before after
  pub count : length after.runs.items ≡ length before.runs.items
  pub runs : (k : ℕ) → k < length before.runs.items → run_at after.runs.items k ≡ record (run_at before.runs.items k) { at = (run_at after.runs.items k).at }
  pub own : (k : ℕ) → k < length before.runs.items → (run_at before.runs.items k).way ≡ way → IsPutAt found solutions (run_at before.runs.items k) (run_at after.runs.items k).at
  pub others : (k : ℕ) → k < length before.runs.items → (run_at before.runs.items k).way ≢ way → (run_at after.runs.items k).at ≡ (run_at before.runs.items k).at

-- moving these runs of the bundle leads from routes with the runs done so far moved to routes with these runs moved as well
abbrev pub CarriesOn : RunBundle → Solution → List Run → List PhaseRoute → List PhaseRoute → Type 0
CarriesOn b solution runs before after = (way : Way) (found : List RunBundle) (solutions : List Solution) (place : ℕ) (done : List Run) (first : List PhaseRoute) →
    slice_get found place ≡ Some b → slice_get solutions place ≡ Some solution → All IsPhaseRoute first → EdgesRise first → All (IsRunIn first way) b.runs.items →
    AreEach (IsPutSoFar way found solutions done) first before → AreEach (IsPutSoFar way found solutions (done ++ runs)) first after

-- the bundle has a solution, which moves its runs
pub record IsSettledIn (b : RunBundle) (before after : List PhaseRoute) : Type 0 where
  pub solution : Solution
  pub solved : IsSolutionOf b.bundle solution
  pub carries : CarriesOn b solution b.runs.items before after

-- bundles of the runs of the way of these routes: each run is in one of them
pub record AreBundlesIn (routes : List PhaseRoute) (way : Way) (found : List RunBundle) : Type 0 where
  pub good : All (λ b. IsBundle b.bundle) found
  pub items : All (λ b. length b.runs.items ≡ length b.bundle.items.items) found
  pub own : All (λ b. All (IsRunIn routes way) b.runs.items) found
  pub whole : (r : Run) → IsRunIn routes way r → (b : RunBundle) × Contains found b × Contains b.runs.items r

-- the bundles have solutions, which put their runs
pub record AreSettledIn (found : List RunBundle) (before after : List PhaseRoute) : Type 0 where
  pub solutions : List Solution
  pub solved : AreSolutionsOf found solutions
  pub put : (way : Way) → AreBundlesIn before way found → AreEach (IsPut way found solutions) before after

-- the coordinate of the corner with a neighbour along a run: the neighbour's coordinate if that is of the way, otherwise as before
abbrev pub corner_at : Way → Option Run → ℤ → ℤ
corner_at way None old = old
corner_at way (Some r) old = if is_way r.way way then r.at else old

-- the coordinates of the runs
abbrev pub coordinates : List Run → List ℤ
coordinates runs = map (λ r. r.at) runs

-- the runs of the other way are stretched to their neighbours of the way
pub record HaveFollowed (way : Way) (before after : List Run) : Type 0 where
  pub count : length after ≡ length before
  pub runs : (k : ℕ) → k < length before → run_at after k ≡ moved_run way before (coordinates before) k

-- so are those of the route
pub record HasFollowed (way : Way) (before after : PhaseRoute) : Type 0 where
  pub same : IsSameButRuns before after
  pub runs : HaveFollowed way before.runs.items after.runs.items
