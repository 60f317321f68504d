-- One more run is added.
use Rattle.std.proofs.Common.{◌≡◌, ◌∙◌, ◌∷◌, ◌++◌, [], List, length, get_or, ap, arith}
use Rattle.plane_geom.specs.declared.point.Dir.TheVariants.{East}
use Rattle.segment_order.specs.declared.run.Run.{Run}
use Rattle.segment_order.specs.Run.{no_run}
use Rattle.shared_paths.specs.declared.path.EdgeRuns.{EdgeRuns}
use Rattle.shared_paths.specs.declared.stretch.Stretch.{Stretch}
use Rattle.shared_paths.specs.Listed.{no_route, route_at}
use Rattle.shared_paths.specs.Starts.{as_stretch}
use Rattle.shared_paths.proofs.AllPaths.Stretches.{any_default, is_stretch_of, one_more}
use Rattle.shared_paths.proofs.stretch.add_stretches.Goals as goal

-- what the generated proof reads past the end
abbrev any_run : Run
any_run = record no_run { heading = East }

pub loop-index-init : goal.loop-index-init
loop-index-init c = record { each = c.requires.so_far; kept = λ s has. has; all = λ m l. absurd (omega arith) }

pub loop-index-preserved : goal.loop-index-preserved
loop-index-preserved c =
    let routes = c.args.routes.now in
    let route = c.args.route in
    let m = c.loop-index.index in
    let runs = c.as_slice-run-items.result.now in
    let same : runs ≡ (route_at routes route).runs =
    c.as_slice-run-items.ensures ∙ ap (λ (r : EdgeRuns). r.runs) (any_default routes route c.index-routes-route.result no_route c.requires.within) in
    let x : Stretch = as_stretch (get_or runs m any_run) route m in
    let pushed : c.push.new.self.items ≡ c.loop-index.found.items ++ x ∷ [] =
    c.in_ok-push.ensures.items ∙ ap (λ s. c.loop-index.found.items ++ s ∷ []) c.of.ensures in
    one_more routes route m c.args.found.now.items c.loop-index.found.items c.push.new.self.items x c.requires.within
    (let l = c.loop-index-test.true in omega (arith, l, ap (λ (rs : List Run). length rs) same))
    (is_stretch_of routes route m runs any_run same c.loop-index-test.true) pushed c.loop-index.invariant

pub returns : goal.returns
returns c =
    let same : c.as_slice-run-items.result.now ≡ (route_at c.args.routes.now c.args.route).runs =
    c.as_slice-run-items.ensures ∙ ap (λ (r : EdgeRuns). r.runs) (any_default c.args.routes.now c.args.route c.index-routes-route.result no_route c.requires.within) in
    record {
      each = c.loop-index.invariant.each;
      kept = c.loop-index.invariant.kept;
      all = λ m l. c.loop-index.invariant.all m (let e = c.loop-index-test.false in omega (arith, l, e, ap (λ (rs : List Run). length rs) same));
    }
