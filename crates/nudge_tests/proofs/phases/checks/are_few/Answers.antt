-- A thousand routes of a thousand runs have few.
use Rattle.std.proofs.Common.{◌*◌, ◌≤◌, List, [], ◌∷◌, map, length, Bool, true, false, if◌then◌else◌, arith}
use Rattle.std.specs.Prelude.{All}
use Rattle.std.proofs.lemmas.List.{length-append, length-map}
use Rattle.std.proofs.lemmas.List.Elements.{All-head, All-tail}
use Rattle.plane_geom.specs.declared.point.Way.{Way}
use Rattle.segment_order.specs.declared.run.Run.{Run}
use Rattle.channel_bundles.specs.declared.route.PhaseRoute.{PhaseRoute}
use Rattle.channel_bundles.specs.Route.{is_way, of_way, runs_of_way}
use Rattle.nudge_tests.proofs.phases.checks.are_few.Goals as goal

by_way : (b : Bool) (r : Run) (own rs : List Run) → length own ≤ length rs → length (if b then r ∷ own else own) ≤ length (r ∷ rs)
by_way true r own rs h = omega arith
by_way false r own rs h = omega arith

fewer : (way : Way) (runs : List Run) → length (of_way way runs) ≤ length runs
fewer way [] = omega arith
fewer way (r ∷ rs) = by_way (is_way r.way way) r (of_way way rs) rs (fewer way rs)

abbrev HasFew : PhaseRoute → Type 0
HasFew r = length r.runs.items ≤ 1000

few : (way : Way) (routes : List PhaseRoute) → All HasFew routes → length (runs_of_way way routes) ≤ 1000 * length routes
few way [] all = omega arith
few way (r ∷ routes) all =
    let own : List (PhaseRoute × Run) = map (λ u. (r, u)) (of_way way r.runs.items) in
    omega (
      arith,
      length-append own (runs_of_way way routes),
      length-map {B = PhaseRoute × Run} (of_way way r.runs.items) (λ u. (r, u)),
      fewer way r.runs.items,
      All-head HasFew r routes all,
      few way routes (All-tail HasFew r routes all),
    )

pub returns-then-routes-le1000 : goal.returns-then-routes-le1000
returns-then-routes-le1000 c = λ t. λ way. omega (arith, few way c.args.routes.now (c.have_few_runs.ensures t))
