-- All paths that routes share, in order.
use Rattle.std.specs.Prelude.{◌≡◌, ◌≢◌, ◌⊎◌, ◌∷◌, true, false, ℕ, ◌<◌, ◌+◌, ◌^◌, List, [], length, map, slice_index_or, Some, All, AllPairs, Contains}
use Rattle.std.specs.List.{flat_map}
use Rattle.segment_order.specs.declared.run.Run.{Run}
use Rattle.segment_order.specs.declared.side.Side.{Side}
use Rattle.shared_paths.specs.declared.path.EdgeRuns.{EdgeRuns}
use Rattle.shared_paths.specs.declared.path.SharedPath.{SharedPath}
use Rattle.shared_paths.specs.Pairs.{Pair}
use Rattle.shared_paths.specs.Paths.{IsShared, end_at, last_of, side_along}
use Rattle.shared_paths.specs.Laws.{IsRoute, KeepsSide}

-- the runs of all routes
abbrev pub runs_in : List EdgeRuns → List Run
runs_in routes = flat_map (λ (r : EdgeRuns). r.runs) routes

-- what is read past the last route
abbrev pub no_route : EdgeRuns
no_route = record { edge = 0; runs = [] }

-- the route at the index, from 0
abbrev pub route_at : List EdgeRuns → ℕ → EdgeRuns
route_at routes k = slice_index_or routes k no_route

-- routes of different edges, with fewer than 2^32 runs in all
pub record AreRoutes (routes : List EdgeRuns) : Type 0 where
  pub edges : AllPairs (λ (a b : EdgeRuns). a.edge ≢ b.edge) routes
  pub each : All (λ (r : EdgeRuns). IsRoute r.edge r.runs) routes
  pub few : length (runs_in routes) < 2 ^ 32

-- a path by the indices of its two routes and by its pairs of runs
pub record PairedPath : Type 0 where
  pub one : ℕ
  pub other : ℕ
  pub first : Pair
  pub others : List Pair

-- the two routes share the path; the one stands earlier in the list
pub record IsPairedPath (routes : List EdgeRuns) (p : PairedPath) : Type 0 where
  pub earlier : p.one < p.other
  pub within : p.other < length routes
  pub shared : IsShared (route_at routes p.one).runs (route_at routes p.other).runs p.first p.others

-- by the one route, then by the other, then along the one, then along the other
abbrev pub StandsBefore : PairedPath → PairedPath → Type 0
StandsBefore p q =
    (p.one < q.one) ⊎ ((p.one ≡ q.one) × ((p.other < q.other) ⊎ ((p.other ≡ q.other)
    × ((p.first.a < q.first.a) ⊎ ((p.first.a ≡ q.first.a) × (p.first.b < q.first.b))))))

-- the path with its ends and its side; runs are counted from 1
abbrev pub path_of : List EdgeRuns → PairedPath → SharedPath
path_of routes p =
    let a = route_at routes p.one in
    let b = route_at routes p.other in
    let last = last_of p.first p.others in
    record {
      a = a.edge;
      b = b.edge;
      first = p.first.a + 1;
      last = last.a + 1;
      b_first = p.first.b + 1;
      b_last = last.b + 1;
      back = end_at a.runs b.runs false p.first;
      ahead = end_at a.runs b.runs true last;
      side = side_along a.runs b.runs p.first p.others;
    }

-- these are all the paths that two of the routes share, in order
pub record AreSharedPaths (routes : List EdgeRuns) (paths : List SharedPath) : Type 0 where
  pub paired : List PairedPath
  pub in_order : AllPairs StandsBefore paired
  pub each : All (IsPairedPath routes) paired
  pub all : (p : PairedPath) → IsPairedPath routes p → Contains paired p
  pub are_paths : paths ≡ map (path_of routes) paired

-- where the path has a side, the one route keeps to that side of the other
abbrev pub KeepsItsSide : List EdgeRuns → PairedPath → Type 0
KeepsItsSide routes p =
    (side : Side) → side_along (route_at routes p.one).runs (route_at routes p.other).runs p.first p.others ≡ Some side →
    All (KeepsSide (route_at routes p.one).runs (route_at routes p.other).runs side) (p.first ∷ p.others)

-- routes have one list of shared paths at most
abbrev pub HaveOneListOfPaths : Type 0
HaveOneListOfPaths = (routes : List EdgeRuns) (these those : List SharedPath) → AreSharedPaths routes these → AreSharedPaths routes those → these ≡ those
