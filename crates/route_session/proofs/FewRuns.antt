-- Routes and lines with few points have few runs.
use Rattle.std.proofs.Common.{◌≡◌, ℕ, ◌+◌, ◌*◌, ◌≤◌, ◌^◌, List, [], ◌∷◌, length, map, arith, ap}
use Rattle.std.specs.Prelude.{All}
use Rattle.std.specs.List.{AllZip}
use Rattle.std.proofs.lemmas.List.{length-append}
use Rattle.std.proofs.lemmas.List.Concat.{flat_map-cons}
use Rattle.std.proofs.lemmas.List.Elements.{All-cons, All-head, All-nil, All-tail}
use Rattle.plane_geom.specs.declared.point.Point.{Point}
use Rattle.segment_order.specs.declared.run.Run.{Run}
use Rattle.segment_order.specs.Run.{runs_along}
use Rattle.walk_model.specs.declared.route.Route.{Route}
use Rattle.walk_model.specs.declared.route.WrittenRoute.{WrittenRoute}
use Rattle.shared_paths.specs.declared.path.EdgeRuns.{EdgeRuns}
use Rattle.shared_paths.specs.Listed.{runs_in}
use Rattle.route_session.specs.Shares.{edge_runs, line_runs}

runs_along-le : (edge place : ℕ) (points : List Point) → length (runs_along edge place points) ≤ length points
runs_along-le edge place [] = omega arith
runs_along-le edge place (p ∷ []) = omega arith
runs_along-le edge place (p ∷ q ∷ ps) = let rest = runs_along-le edge (place + 1) (q ∷ ps) in omega (arith, rest)

runs_in-cons : (r : EdgeRuns) (rs : List EdgeRuns) → length (runs_in (r ∷ rs)) ≡ length r.runs + length (runs_in rs)
runs_in-cons r rs =
    let same = ap (λ (xs : List Run). length xs) (flat_map-cons (λ (q : EdgeRuns). q.runs) r rs) in
    let sum = length-append r.runs (runs_in rs) in
    omega (arith, same, sum)

-- the raw routes
pub few_raw : (pairs : List (ℕ × Route)) → All (λ (p : ℕ × Route). length p.1.points ≤ 3289603) pairs → length (runs_in (map (λ (p : ℕ × Route). edge_runs p.0 p.1.points) pairs)) ≤ 3289603 * length pairs
few_raw [] few = omega arith
few_raw (p ∷ pairs) few =
    let here = All-head (λ (q : ℕ × Route). length q.1.points ≤ 3289603) p pairs few in
    let rest = few_raw pairs (All-tail (λ (q : ℕ × Route). length q.1.points ≤ 3289603) p pairs few) in
    let more = runs_in-cons (edge_runs p.0 p.1.points) (map (λ (q : ℕ × Route). edge_runs q.0 q.1.points) pairs) in
    let less = runs_along-le p.0 1 p.1.points in
    omega (arith, here, rest, more, less)

-- the lines, each with at most as many points as its route
pub few_lines : (pairs : List (ℕ × Route)) (lines : List WrittenRoute) → All (λ (p : ℕ × Route). length p.1.points ≤ 3289603) pairs →
    AllZip (λ (p : ℕ × Route) (line : WrittenRoute). length line.points ≤ length p.1.points) pairs lines → length (runs_in (line_runs lines)) ≤ 3289603 * length pairs
few_lines [] [] few short = omega arith
few_lines [] (l ∷ lines) few short = absurd short
few_lines (p ∷ pairs) [] few short = absurd short
few_lines (p ∷ pairs) (l ∷ lines) few short =
    let here = All-head (λ (q : ℕ × Route). length q.1.points ≤ 3289603) p pairs few in
    let rest = few_lines pairs lines (All-tail (λ (q : ℕ × Route). length q.1.points ≤ 3289603) p pairs few) short.1 in
    let more = runs_in-cons (edge_runs l.edge l.points) (line_runs lines) in
    let less = runs_along-le l.edge 1 l.points in
    let shorter = short.0 in
    omega (arith, here, rest, more, less, shorter)

-- so each line has few points
pub each_line_few : (pairs : List (ℕ × Route)) (lines : List WrittenRoute) → All (λ (p : ℕ × Route). length p.1.points ≤ 3289603) pairs →
    AllZip (λ (p : ℕ × Route) (line : WrittenRoute). length line.points ≤ length p.1.points) pairs lines → All (λ (l : WrittenRoute). length l.points ≤ 2 ^ 32) lines
each_line_few [] [] few short = All-nil (λ (l : WrittenRoute). length l.points ≤ 2 ^ 32)
each_line_few [] (l ∷ lines) few short = absurd short
each_line_few (p ∷ pairs) [] few short = absurd short
each_line_few (p ∷ pairs) (l ∷ lines) few short =
    let here = All-head (λ (q : ℕ × Route). length q.1.points ≤ 3289603) p pairs few in
    let shorter = short.0 in
    All-cons (λ (k : WrittenRoute). length k.points ≤ 2 ^ 32) l lines (omega (arith, here, shorter))
    (each_line_few pairs lines (All-tail (λ (q : ℕ × Route). length q.1.points ≤ 3289603) p pairs few) short.1)
