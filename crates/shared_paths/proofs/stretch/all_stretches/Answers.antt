-- The runs of one more route are found.
use Rattle.std.proofs.Common.{◌<◌, length, sym, subst, arith, inl, inr}
use Rattle.std.specs.Prelude.{Contains}
use Rattle.std.proofs.lemmas.List.Elements.{All-nil, All-same}
use Rattle.shared_paths.specs.Listed.{route_at}
use Rattle.shared_paths.specs.Starts.{IsStretch, stretch_of}
use Rattle.shared_paths.proofs.AllPaths.Stretches.{below_or_at}
use Rattle.shared_paths.proofs.stretch.all_stretches.Goals as goal

pub loop-route-init : goal.loop-route-init
loop-route-init c = record {
  each = All-same (IsStretch c.args.routes.now) c.new-found.result.items _ c.new-found.ensures.items (All-nil (IsStretch c.args.routes.now));
  all = λ k m l. absurd (omega arith);
}

pub loop-route-preserved : goal.loop-route-preserved
loop-route-preserved c =
    let routes = c.args.routes.now in
    let new = c.add_stretches.new.found.items in
    record {
      each = c.in_ok-add_stretches.ensures.each;
      all = λ k m l h. elim (below_or_at k c.loop-route.route l) as (λ _. Contains new (stretch_of routes k m)) [
        | inl below ↦ c.in_ok-add_stretches.ensures.kept (stretch_of routes k m) (c.loop-route.invariant.all k m below h)
        | inr here ↦ subst (λ n. m < length (route_at routes n).runs → Contains new (stretch_of routes n m)) (sym here) (c.in_ok-add_stretches.ensures.all m) h
      ];
    }

pub returns : goal.returns
returns c = record {
  each = c.loop-route.invariant.each;
  all = λ k m l h. c.loop-route.invariant.all k m (let e = c.loop-route-test.false in omega (arith, l, e)) h;
}
