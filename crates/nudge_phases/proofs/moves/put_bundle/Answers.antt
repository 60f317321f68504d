-- One more run is put where the solution has it, rounded down.
use Rattle.std.proofs.Common.{◌≡◌, ◌<◌, List, length, get_or, arith, sym, ap, subst, ◌∙◌, rules, w64, FitsSigned}
use Rattle.std.specs.Prelude.{slice_index}
use Rattle.std.proofs.lemmas.Int.{to_z-of_z}
use Rattle.std.proofs.lemmas.List.{take_all}
use Rattle.std.proofs.lemmas.List.Elements.{All-get_or}
use Rattle.segment_order.specs.declared.run.Run.{Run}
use Rattle.segment_order.specs.Run.{run_at}
use Rattle.separation_model.specs.Bundle.{int_at}
use Rattle.separation_model.specs.Rounded.{IsRoundedDown}
use Rattle.separation_model.proofs.Rounding.{rounded_down_is, solution_on_sheet}
use Rattle.nudge_phases.specs.Steps.{CarriesOn}
use Rattle.nudge_phases.proofs.Putting.{carries_more, puts_same, still_there}
use Rattle.nudge_phases.proofs.RouteRuns.{past_run, same_read, still_rise}
use Rattle.nudge_phases.proofs.moves.put_bundle.Goals as goal

pub rounded_down-requires-clause-on_sheet : goal.rounded_down-requires-clause-on_sheet
rounded_down-requires-clause-on_sheet c = solution_on_sheet c.args.run_bundle.now.bundle c.args.solution.now.gap c.args.solution.now c.requires.bundle c.requires.solved.least.meets

pub loop-item-preserved : goal.loop-item-preserved
loop-item-preserved c =
    let fits : FitsSigned w64 c.rounded_down.result = search rules in
    let b = c.args.run_bundle.now in
    let s = c.args.solution.now in
    let i = c.loop-item.item in
    let is = c.loop-item.invariant in
    let now = c.loop-item.routes in
    let new = c.put.new.routes in
    let meets = c.requires.solved.least.meets in
    let runs_are = c.deref-run-items.ensures.value in
    let h : i < length b.runs.items = (let l = c.loop-item-test.true in let n = ap length runs_are in omega (arith, l, n)) in
    let some : 0 < slice_index s.den.items i = All-get_or (λ d. 0 < d) s.den.items i 0 (let a = meets.dens in let n = c.requires.items in omega (arith, h, a, n)) meets.positive in
    let value = c.rounded_down.ensures.value in
    let down : IsRoundedDown (int_at s.pos.items i) (slice_index s.den.items i) c.rounded_down.result =
    subst (IsRoundedDown (int_at s.pos.items i) (slice_index s.den.items i)) (sym value) (rounded_down_is (int_at s.pos.items i) (slice_index s.den.items i) some) in
    let puts = simp to_z-of_z at c.put.ensures in
    let items = c.deref-run-items.result.now in
    let r = get_or items i past_run in
    let is_run : r ≡ run_at b.runs.items i = same_read items i c.loop-item-test.true ∙ ap (λ (rs : List Run). run_at rs i) runs_are in
    record {
      edges = still_rise now new puts.count (λ k a e f g. ((puts_same r c.rounded_down.result now new puts).each k a e f g).edge) is.edges;
      there = λ k d l. still_there r (get_or b.runs.items k d) c.rounded_down.result now new puts (is.there k d l);
      carries = carries_more b s c.args.routes.now now new i r c.rounded_down.result h is_run down is.carries puts;
    }

pub returns : goal.returns
returns c =
    let b = c.args.run_bundle.now in
    subst (λ (rs : List Run). CarriesOn b c.args.solution.now rs c.args.routes.now c.loop-item.routes)
    (take_all c.loop-item.item b.runs.items (let past = c.loop-item-test.false in let n = ap length c.deref-run-items.ensures.value in omega (arith, past, n)))
    c.loop-item.invariant.carries
