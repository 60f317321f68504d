-- An exit that may be part of a first walk is queued.
use Rattle.std.proofs.Common.{◌≡◌, ◌+◌, ℕ, refl, ap, subst, inl, inr, arith}
use Rattle.std.specs.Prelude.{Contains}
use Rattle.std.specs.BinaryHeap.{heap_items}
use Rattle.std.specs.declared.cmp.Reverse.{Reverse}
use Rattle.search_problem.specs.declared.queue.Candidate.{Candidate}
use Rattle.exit_rows.specs.Exits.{IsSmallAhead}
use Rattle.exit_rows.specs.declared.exit.Exit.{Exit}
use Rattle.exit_spread.specs.Searching.{IsCandidate}
use Rattle.exit_spread.specs.Ways.{bound_at}
use Rattle.exit_spread.proofs.Sizes.{crossing_within}
use Rattle.search_problem.proofs.Queues.{push_all, push_count, push_has, push_keeps}
use Rattle.exit_spread.proofs.spread.Spread.offer.Goals as goal

pub bound-requires-clause-within : goal.bound-requires-clause-within
bound-requires-clause-within c = crossing_within c.args.problem.now c.args.exit.place.crossing c.args.at c.requires.ready c.requires.way.here

pub returns-clause-adds : goal.returns-clause-adds
returns-clause-adds c = λ line_of line sound.
    let p = c.args.problem.now in
    let x = c.args.exit in
    let old = heap_items c.args.self.now.queue.heap in
    let new = heap_items c.push.new.self.heap in
    let one : Reverse (Candidate Exit) = record { 0 = record { bound = x.ahead.cost + c.bound.result; item = x } } in
    let small : IsSmallAhead x.ahead = record { cost = omega (arith, c.if-bound-self.false, c.requires.best); runs = c.if-exit-gt-MOST_RUNS.false; lean = c.requires.offerable.lean } in
    let is : IsCandidate p line_of one.0 = record {
      point = c.args.at;
      line = line;
      stage = c.requires.stage;
      way = c.requires.way;
      small = small;
      bound = ap (λ n. x.ahead.cost + n) c.bound.ensures.exact;
    } in
    record {
      rows = refl;
      limit = refl;
      best = omega arith;
      kept = λ d has. push_keeps one old new c.in_ok-push.ensures.ok d has;
      count = push_count one old new c.in_ok-push.ensures.ok;
      sound = record {
        candidates = push_all one old new c.in_ok-push.ensures.ok (λ d. IsCandidate p line_of d.0) sound.candidates is;
        best = sound.best;
      };
    }

pub returns-clause-offered : goal.returns-clause-offered
returns-clause-offered c =
    let x = c.args.exit in
    let one : Reverse (Candidate Exit) = record { 0 = record { bound = x.ahead.cost + c.bound.result; item = x } } in
    let has = push_has one (heap_items c.args.self.now.queue.heap) (heap_items c.push.new.self.heap) c.in_ok-push.ensures.ok in
    let bound : x.ahead.cost + c.bound.result ≡ x.ahead.cost + bound_at c.args.problem.now x.place c.args.at = ap (λ n. x.ahead.cost + n) c.bound.ensures.exact in
    inr (inl (subst (λ (n : ℕ). Contains (heap_items c.push.new.self.heap) (record { 0 = record { bound = n; item = x } })) bound has))
