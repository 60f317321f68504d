-- Candidate by candidate, until none is left.
use Rattle.std.proofs.Common.{◌+◌, ◌≤◌, rules, arith}
use Rattle.proof_search.specs.Search.{weight}
use Rattle.proof_search.proofs.Searching.Spreading.{entries_still, lighter_queue, queue_falls, searching_begins, spread_at_end, taken_out, taken_place, with_queue}
use Rattle.proof_search.proofs.labels.Labels.spread.Goals as goal

pub offer_entries-requires-clause-searching : goal.offer_entries-requires-clause-searching
offer_entries-requires-clause-searching c = searching_begins c.args.problem.now c.args.scope c.args.self.now c.requires.none c.requires.small c.requires.rooms

pub take-requires-clause-searching : goal.take-requires-clause-searching
take-requires-clause-searching c =
    taken_out c.args.problem.now c.args.scope c.loop-candidate.self c.pop.new.self c.loop-candidate.invariant.0 c.in-Some.candidate c.in-Some.ensures.rest

pub take-requires-clause-place : goal.take-requires-clause-place
take-requires-clause-place c =
    taken_place c.args.problem.now c.args.scope c.loop-candidate.self c.pop.new.self c.loop-candidate.invariant.0 c.in-Some.candidate c.in-Some.ensures.rest

pub loop-candidate-smaller : goal.loop-candidate-smaller
loop-candidate-smaller c =
    let s = c.args.scope in
    let l = c.loop-candidate.self in
    let less : weight s (with_queue l c.pop.new.self) + 1 ≤ weight s l =
    lighter_queue c.args.problem.now s l c.pop.new.self c.loop-candidate.invariant.0 c.in-Some.candidate c.in-Some.ensures.rest in
    omega (arith, less, c.in_ok-take.ensures.lighter)

pub loop-candidate-preserved : goal.loop-candidate-preserved
loop-candidate-preserved c =
    let s = c.args.scope in
    let l = c.loop-candidate.self in
    let mid = with_queue l c.pop.new.self in (
      c.in_ok-take.ensures.searching,
      entries_still s mid c.take.new.self c.in_ok-take.ensures.falls c.args.problem.now.entries.items
          (entries_still s l mid (queue_falls s l c.pop.new.self) c.args.problem.now.entries.items c.loop-candidate.invariant.1),
    )

pub returns : goal.returns
returns c = record {
  spread = spread_at_end c.args.problem.now c.args.scope c.loop-candidate.self c.pop.new.self c.loop-candidate.invariant.0 c.loop-candidate.invariant.1
      (c.in_default.ensures.none (search rules)) (c.in_default.ensures.empty (search rules));
}
