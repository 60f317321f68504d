-- The new start is one, and is found besides the others.
use Rattle.std.proofs.Common.{◌≡◌, ◌∙◌, Some, inl, inr, sym, subst, false}
use Rattle.std.specs.Prelude.{All, Contains}
use Rattle.std.proofs.lemmas.Bool.{false≢true}
use Rattle.std.proofs.lemmas.Map.Views.{All-insert_key}
use Rattle.shared_paths.specs.Listed.{route_at}
use Rattle.shared_paths.specs.Pairs.{GoesOn}
use Rattle.shared_paths.specs.Starts.{IsStart, pair_of, start_of}
use Rattle.shared_paths.proofs.AllPaths.Starting.{begins_there, exact_start, in_inserted, start_cmp}
use Rattle.shared_paths.proofs.start.add_start.Goals as goal

pub returns-in_ok-insert-clause-each : goal.returns-in_ok-insert-clause-each
returns-in_ok-insert-clause-each c =
    let routes = c.args.routes.now in
    let s = c.in-Some.start in
    let is : start_of c.args.one.now c.args.later.now ≡ Some s = sym c.in-Some.ensures in
    let stop : GoesOn (route_at routes s.a).runs (route_at routes s.b).runs false (pair_of s) → ⊥ = λ goes.
    false≢true (sym c.if-not-goes_on.true ∙ c.goes_on.ensures.1
    (subst (GoesOn c.routes.result.a.now c.routes.result.b.now false) (sym c.pair.ensures)
    (subst (λ bs. GoesOn c.routes.result.a.now bs false (pair_of s)) (sym c.routes.ensures.b)
    (subst (λ as_. GoesOn as_ (route_at routes s.b).runs false (pair_of s)) (sym c.routes.ensures.a) goes)))) in
    subst (All (IsStart routes)) (sym c.in_ok-insert.ensures.keys)
    (All-insert_key start_cmp s (IsStart routes) c.args.found.now.keys c.requires.so_far
    (begins_there routes c.args.one.now c.args.later.now s c.requires.routes c.requires.one c.requires.later c.requires.order c.requires.reaches is stop))

pub returns-in_ok-insert-clause-kept : goal.returns-in_ok-insert-clause-kept
returns-in_ok-insert-clause-kept c = λ s has.
    subst (λ ks. Contains ks s) (sym c.in_ok-insert.ensures.keys) (in_inserted start_cmp exact_start c.in-Some.start s c.args.found.now.keys (inr has))

pub returns-in_ok-insert-clause-here : goal.returns-in_ok-insert-clause-here
returns-in_ok-insert-clause-here c = λ s e is.
    let found : start_of c.args.one.now c.args.later.now ≡ Some c.in-Some.start = sym c.in-Some.ensures in
    let same : c.in-Some.start ≡ s = cc in
    subst (λ ks. Contains ks s) (sym c.in_ok-insert.ensures.keys) (in_inserted start_cmp exact_start c.in-Some.start s c.args.found.now.keys (inl same))
