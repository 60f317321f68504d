-- The path is one of the shared paths.
use Rattle.std.proofs.Common.{arith, List, length, ◌+◌, ◌∙◌, true, false, ap}
use Rattle.segment_order.specs.declared.run.Run.{Run}
use Rattle.shared_paths.specs.declared.path.EdgeRuns.{EdgeRuns}
use Rattle.shared_paths.specs.Pairs.{Pair}
use Rattle.shared_paths.specs.Paths.{end_at, side_of}
use Rattle.shared_paths.specs.Listed.{no_route, path_of, route_at}
use Rattle.shared_paths.specs.Starts.{paired_from, pair_of}
use Rattle.shared_paths.specs.Views.{view}
use Rattle.shared_paths.proofs.AlongPaths.Begins.{along_routes, end_along, few_runs, is_paired, same_path}
use Rattle.shared_paths.proofs.AllPaths.Stretches.{any_default}
use Rattle.shared_paths.proofs.sharing.path_from.Goals as goal

pub run_number-requires : goal.run_number-requires
run_number-requires c =
    let start = c.args.start.now in
    let few = few_runs c.args.routes.now c.requires.routes start.a (omega (arith, c.requires.start.earlier, c.requires.start.within)) in
    omega (arith, few, c.requires.start.pair.of_a, ap (λ (p : Pair). p.a) c.pair-first.ensures)

pub run_number-requires-2 : goal.run_number-requires-2
run_number-requires-2 c =
    let start = c.args.start.now in
    let few = few_runs c.args.routes.now c.requires.routes start.a (omega (arith, c.requires.start.earlier, c.requires.start.within)) in
    omega (arith, few, c.last-last.ensures.pair.of_a, ap (λ (rs : List Run). length rs) c.routes-both.ensures.a)

pub run_number-requires-3 : goal.run_number-requires-3
run_number-requires-3 c =
    let few = few_runs c.args.routes.now c.requires.routes c.args.start.now.b c.requires.start.within in
    omega (arith, few, c.requires.start.pair.of_b, ap (λ (p : Pair). p.b) c.pair-first.ensures)

pub run_number-requires-4 : goal.run_number-requires-4
run_number-requires-4 c =
    let few = few_runs c.args.routes.now c.requires.routes c.args.start.now.b c.requires.start.within in
    omega (arith, few, c.last-last.ensures.pair.of_b, ap (λ (rs : List Run). length rs) c.routes-both.ensures.b)

pub returns : goal.returns
returns c =
    let routes = c.args.routes.now in
    let start = c.args.start.now in
    let a = c.routes-both.result.a.now in
    let b = c.routes-both.result.b.now in
    let one = c.routes-both.ensures.a in
    let two = c.routes-both.ensures.b in
    let first = c.pair-first.ensures in
    let path = along_routes routes start a b (view c.pair-first.result) (view c.last-last.result) one two first c.last-last.ensures.path in
    let back = c.end-back.ensures ∙ end_along routes start a b false (view c.pair-first.result) (pair_of start) one two first in
    let ahead = c.end-ahead.ensures ∙ end_along routes start a b true (view c.last-last.result) _ one two path.is_last in
    record {
      others = path.others;
      paired = is_paired routes start (view c.last-last.result) c.requires.routes c.requires.start path;
      is = same_path _ (path_of routes (paired_from start path.others)) (ap (λ (r : EdgeRuns). r.edge) (any_default routes start.a c.index-routes-start.result no_route (omega (arith, c.requires.start.earlier, c.requires.start.within))))
          (ap (λ (r : EdgeRuns). r.edge) (any_default routes start.b c.index-routes-start-2.result no_route c.requires.start.within))
          (c.run_number.ensures ∙ ap (λ (p : Pair). p.a + 1) first) (c.run_number-2.ensures ∙ ap (λ (p : Pair). p.a + 1) path.is_last) (c.run_number-3.ensures ∙ ap (λ (p : Pair). p.b + 1) first) (c.run_number-4.ensures ∙ ap (λ (p : Pair). p.b + 1) path.is_last)
          back ahead (c.side_of.ensures ∙ ap (λ e. side_of e c.end-ahead.result) back ∙ ap (λ e. side_of (end_at (route_at routes start.a).runs (route_at routes start.b).runs false (pair_of start)) e) ahead);
    }
