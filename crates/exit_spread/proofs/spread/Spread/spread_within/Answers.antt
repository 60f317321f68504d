-- Candidate by candidate, the least bound first.
use Rattle.std.proofs.Common.{◌≤◌, ℕ, None, refl, ◌∙◌, inl, rules, arith}
use Rattle.plane_geom.specs.declared.point.Way.{Way}
use Rattle.line_lists.specs.Lists.{number_of}
use Rattle.search_problem.specs.Bounds.{most_cost}
use Rattle.search_problem.specs.declared.problem.Problem.{Problem}
use Rattle.exit_spread.specs.Searching.{AreNone, HasRooms, IsSearching}
use Rattle.exit_spread.specs.declared.spread.Spread.{Spread}
use Rattle.exit_spread.proofs.Searches.{closed, lighter, may_take, searching_begins, spread_at_break, spread_at_end, stubs_stay, taking}
use Rattle.exit_spread.proofs.Taking.Offered.{adds_searching, sound_of}
use Rattle.exit_spread.proofs.spread.Spread.spread_within.Goals as goal

-- the search begins with the limit
abbrev begun : Spread → ℕ → Spread
begun s limit = record { rows = s.rows; queue = s.queue; best = limit; limit = limit }

searching : (p : Problem) (line_of : ℕ → Way → ℕ) (s : Spread) (limit : ℕ) → AreNone s → HasRooms p line_of s → limit ≤ most_cost → IsSearching p line_of (begun s limit) None None
searching p line_of s limit none rooms most =
    searching_begins p line_of (begun s limit) (record { rows = none.rows; queue = none.queue }) rooms (record { most = most; of_walk = inl refl })

pub offer_endings-requires-clause-sound : goal.offer_endings-requires-clause-sound
offer_endings-requires-clause-sound c =
    let n = number_of c.args.lists.now in
    sound_of c.args.problem.now n (begun c.args.self.now c.args.limit) None None (searching c.args.problem.now n c.args.self.now c.args.limit c.requires.none c.requires.rooms c.requires.limit)

pub loop-candidate-init : goal.loop-candidate-init
loop-candidate-init c =
    let p = c.args.problem.now in
    let n = number_of c.args.lists.now in
    let adds = c.in_ok-offer_endings.ensures.adds in
    record {
      limit = adds.limit;
      searching = adds_searching p n (begun c.args.self.now c.args.limit) c.offer_endings.new.self _ adds None None (searching p n c.args.self.now c.args.limit c.requires.none c.requires.rooms c.requires.limit);
      stubs = c.in_ok-offer_endings.ensures.offered;
    }

pub take-requires-clause-searching : goal.take-requires-clause-searching
take-requires-clause-searching c =
    taking c.args.problem.now (number_of c.args.lists.now) c.loop-candidate.self c.pop.new.self c.loop-candidate.invariant.searching c.in-Some.candidate c.in-Some.ensures.rest

pub take-requires-clause-exit : goal.take-requires-clause-exit
take-requires-clause-exit c =
    may_take c.args.problem.now (number_of c.args.lists.now) c.loop-candidate.self c.pop.new.self c.loop-candidate.invariant.searching c.in-Some.candidate c.in-Some.ensures.rest

pub loop-candidate-smaller : goal.loop-candidate-smaller
loop-candidate-smaller c =
    let s = c.loop-candidate.self in
    let less = lighter c.args.problem.now (number_of c.args.lists.now) s c.pop.new.self c.loop-candidate.invariant.searching c.in-Some.candidate c.in-Some.ensures.rest c.args.lists.now in
    let upto = c.in_ok-take.ensures.grows.weight in
    omega (arith, less, upto)

pub loop-candidate-preserved : goal.loop-candidate-preserved
loop-candidate-preserved c =
    let p = c.args.problem.now in
    let n = number_of c.args.lists.now in
    let s = c.loop-candidate.self in
    let new = c.take.new.self in
    let k = c.in-Some.candidate in
    record {
      limit = c.in_ok-take.ensures.grows.limit ∙ c.loop-candidate.invariant.limit;
      searching = closed p n new k.item c.in_ok-take.ensures.taken c.in_ok-take.ensures.searching;
      stubs = stubs_stay p n s c.pop.new.self c.loop-candidate.invariant.searching k c.in-Some.ensures.rest c.requires.ready c.args.lists.now new c.in_ok-take.ensures.grows c.in_ok-take.ensures.taken c.loop-candidate.invariant.stubs;
    }

pub returns-then-candidate-self-clause-settled : goal.returns-then-candidate-self-clause-settled
returns-then-candidate-self-clause-settled c =
    spread_at_break c.args.problem.now (number_of c.args.lists.now) c.loop-candidate.self c.pop.new.self c.loop-candidate.invariant.searching c.in-Some.candidate c.in-Some.ensures.rest
    c.in-Some.ensures.least c.if-candidate-self.true c.requires.ready c.loop-candidate.invariant.stubs

pub returns-in_default-clause-settled : goal.returns-in_default-clause-settled
returns-in_default-clause-settled c =
    spread_at_end c.args.problem.now (number_of c.args.lists.now) c.loop-candidate.self c.pop.new.self c.loop-candidate.invariant.searching
    (c.in_default.ensures.none (search rules)) (c.in_default.ensures.empty (search rules)) c.loop-candidate.invariant.stubs
