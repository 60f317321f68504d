-- The route of the run is found by its edge.
use Rattle.std.proofs.Common.{◌-◌, length, ap, subst, arith, rules, w64, FitsSigned}
use Rattle.std.proofs.lemmas.Int.{to_z-of_z}
use Rattle.std.proofs.lemmas.List.Sorted.{answers_always}
use Rattle.std.proofs.lemmas.Option.{get_or_from_slice_get}
use Rattle.channel_bundles.specs.declared.route.PhaseRoute.{PhaseRoute}
use Rattle.nudge_phases.specs.Steps.{IsPutTo}
use Rattle.nudge_phases.proofs.Putting.{found_is, is_found, put_at}
use Rattle.nudge_phases.proofs.moves.put.Goals as goal

pub put_run-requires : goal.put_run-requires
put_run-requires c =
    let routes = c.args.routes.now in
    let run = c.args.run.now in
    let equal = c.in-Ok.ensures.position (λ r. r.edge) (answers_always _ _ _ (λ f a r g called. search rules)) in
    let here = found_is routes run c.in-Ok.found c.requires.edges c.requires.there c.in-Ok.ensures.bound equal in
    let same = get_or_from_slice_get routes c.in-Ok.found c.requires.there.route c.index-routes-found.result here in
    let count = ap (λ r. length r.runs.items) same in
    let low = c.requires.there.low in
    let high = c.requires.there.high in
    omega (arith, count, low, high)

pub returns-in-Ok : goal.returns-in-Ok
returns-in-Ok c =
    let fits : FitsSigned w64 c.args.at = search rules in
    let routes = c.args.routes.now in
    let run = c.args.run.now in
    let there = c.requires.there in
    let equal = c.in-Ok.ensures.position (λ r. r.edge) (answers_always _ _ _ (λ f a r g called. search rules)) in
    let here = found_is routes run c.in-Ok.found c.requires.edges there c.in-Ok.ensures.bound equal in
    let same = get_or_from_slice_get routes c.in-Ok.found there.route c.index-routes-found.result here in
    let put = simp to_z-of_z at c.put_run.ensures in
    put_at routes c.in-Ok.found there.route c.put_run.new.route run c.args.at c.requires.edges here there.edge
    (subst (λ (q : PhaseRoute). IsPutTo (run.place - 1) c.args.at q c.put_run.new.route) same put)

pub returns-in_default : goal.returns-in_default
returns-in_default c =
    let parts = c.in_default.ensures.position (λ r. r.edge) (answers_always _ _ _ (λ f a r g called. search rules)) in
    absurd (is_found c.args.routes.now c.args.run.now c.in_default.field-0 c.requires.edges c.requires.there parts)
