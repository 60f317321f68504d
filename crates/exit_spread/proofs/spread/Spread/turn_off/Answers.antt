-- Stop by stop; what is further back is not held, costs too much, or was propagated already.
use Rattle.std.proofs.Common.{◌≡◌, ◌⊎◌, ◌+◌, ◌≤◌, ◌≤ℤ◌, ◌<ℤ◌, ℕ, ℤ, List, All, get_or, length, take, sym, ap, subst, ◌∙◌, inl, inr, FitsSigned, w64, rules, arith}
use Rattle.std.specs.Prelude.{AllPairs, Contains, IsSomeAnd}
use Rattle.std.proofs.lemmas.Bool.{cases_lt}
use Rattle.std.proofs.lemmas.Int.{ints, to_z-of_z}
use Rattle.std.proofs.lemmas.List.{take_all}
use Rattle.std.proofs.lemmas.List.Elements.{All-contains, All-more}
use Rattle.plane_geom.specs.declared.point.Point.{Point}
use Rattle.plane_geom.specs.Along.{reach}
use Rattle.plane_geom.specs.Point.{IsCoordinate}
use Rattle.line_arena.specs.Arena.{StandsAt}
use Rattle.line_lists.specs.Lists.{number_of}
use Rattle.line_lists.specs.declared.stop.Stop.{Stop}
use Rattle.exit_spread.specs.Near.{HasReach}
use Rattle.exit_spread.specs.Propagating.{IsBehind, IsTurnOffered, IsTurnedAt, reach_along}
use Rattle.exit_spread.specs.Offers.{IsHeldUpTo, MayBegin}
use Rattle.exit_rows.specs.Exits.{ahead_at}
use Rattle.search_problem.specs.Bounds.{least_bound_from}
use Rattle.exit_spread.specs.Searching.{most_stops}
use Rattle.exit_spread.specs.Ways.{bound_at, place_at}
use Rattle.exit_spread.specs.declared.spread.Spread.{Spread}
use Rattle.exit_spread.proofs.Spreading.Adding.{adds_both, adds_more, turned_on}
use Rattle.exit_spread.proofs.Spreading.Behind.{end_within, run_small, same_across, stage_within}
use Rattle.exit_spread.proofs.Spreading.OnLine.{line_listed, reach_of_along, stop_at, stops}
use Rattle.exit_spread.proofs.Spreading.Turning.{few_stops, left_out}
use Rattle.exit_spread.proofs.spread.Spread.turn_off.Goals as goal
use Rattle.exit_spread.proofs.spread.Spread.turn_off.Goals.{After-first_begin-from, After-last_begin-to, After-near_from-near}

pub returns-in_default-clause-turned : goal.returns-in_default-clause-turned
returns-in_default-clause-turned c = λ k q b held may.
    absurd (subst (λ o. IsSomeAnd o (λ z. reach c.args.run.now.heading q ≤ℤ z)) c.in_default.is (c.held_from.ensures c.args.lists.now c.requires.of c.requires.run k q b held))

pub origins_after-origins-requires : goal.origins_after-origins-requires
origins_after-origins-requires c = record { ready = c.requires.ready; stage = stage_within c.args.problem.now c.args.lists.now c.requires.ready c.requires.of.are_lists c.args.run.now c.requires.run }

pub near_from-near-requires : goal.near_from-near-requires
near_from-near-requires c =
    let p = c.args.problem.now in
    let lists = c.args.lists.now in
    let ready = c.requires.ready in
    let are = c.requires.of.are_lists in
    record {
      origins = c.origins_after-origins.ensures.origins;
      kept = run_small p lists ready are c.args.run.now c.requires.run;
      end = end_within p lists ready are c.args.run.now c.requires.run;
      turn = c.requires.turn;
      best = c.requires.sound.best.most;
      penalty = ready.problem.is_task.penalty;
    }

-- where the walk is no further back than that, or costs too much
near_or_dear : (c : After-near_from-near) (s : Spread) → s.best ≤ c.args.self.now.best → (k : ℕ) (q : Point) → IsBehind c.args.problem.now (number_of c.args.lists.now) c.args.run.now k q →
    HasReach c.near_from-near.result (reach c.args.run.now.heading q) ⊎ IsTurnOffered c.args.problem.now (number_of c.args.lists.now) s c.args.run.now c.args.before k q
near_or_dear c s lower k q b =
    let p = c.args.problem.now in
    let r = c.args.run.now in
    let cost = (ahead_at r.kept (reach r.heading q)).cost + p.task.now.penalty + bound_at p (place_at k r.stage c.args.before) q in
    elim (cases_lt c.args.self.now.best cost) as (λ _. HasReach c.near_from-near.result (reach r.heading q) ⊎ IsTurnOffered p (number_of c.args.lists.now) s r c.args.before k q) [
      | inl dear ↦ inr (left_out p (number_of c.args.lists.now) s r c.args.before k q c.requires.turn (omega (arith, dear, lower)))
      | inr cheap ↦ inl (
          let on = same_across p c.args.lists.now c.requires.ready c.requires.of.are_lists r c.requires.run k q b in
          let bound = ap (λ os. least_bound_from p.task.now.penalty os q c.args.before) c.origins_after-origins.ensures.exact in
          c.near_from-near.ensures q on b.counts.before (omega (arith, cheap, bound)))
    ]

pub last_begin-to-requires : goal.last_begin-to-requires
last_begin-to-requires c = record { kept = run_small c.args.problem.now c.args.lists.now c.requires.ready c.requires.of.are_lists c.args.run.now c.requires.run }

-- what is held is not behind that
reaches : (c : After-last_begin-to) (k : ℕ) (q : Point) → IsBehind c.args.problem.now (number_of c.args.lists.now) c.args.run.now k q → IsHeldUpTo c.args.problem.now c.args.before c.args.run.now.heading q c.args.run.now.kept →
    reach c.args.run.now.heading q ≤ℤ c.last_begin-to.result
reaches c k q b held =
    let z = reach c.args.run.now.heading q in
    let far = subst (λ o. IsSomeAnd o (λ y. z ≤ℤ y)) c.in-Some.is (c.held_from.ensures c.args.lists.now c.requires.of c.requires.run k q b held) in
    let fits : FitsSigned w64 c.in-Some.held = search rules in
    let both = simp to_z-of_z at c.last_begin-to.ensures.both in
    both z far b.counts.before

-- where the walk is near, it is no further back than where runs begin
begins : (c : After-first_begin-from) (z : ℤ) → c.args.run.now.kept.from ≤ℤ z → HasReach c.near_from-near.result z → c.first_begin-from.result ≤ℤ z
begins c z from near =
    let fits : FitsSigned w64 c.first.result = search rules in
    let both = simp to_z-of_z at c.first_begin-from.ensures.both in
    both z from (c.first.ensures z near)

pub returns-then-to-from-clause-turned : goal.returns-then-to-from-clause-turned
returns-then-to-from-clause-turned c = λ k q b held may.
    let at = goal.at.returns-then-to-from-clause-turned c in
    let fits : FitsSigned w64 c.last_begin-to.result = search rules in
    let from_fits : FitsSigned w64 c.first_begin-from.result = search rules in
    let nearer = simp to_z-of_z at c.if-to-from.true in
    let upto = reaches at.After-last_begin-to k q b held in
    elim (near_or_dear at.After-near_from-near c.args.self.now (omega arith) k q b) as (λ _. IsTurnOffered c.args.problem.now (number_of c.args.lists.now) c.args.self.now c.args.run.now c.args.before k q) [
      | inl near ↦ absurd (let from = begins at.After-first_begin-from (reach c.args.run.now.heading q) b.counts.from near in omega (arith, ints, nearer, upto, from))
      | inr dear ↦ dear
    ]

pub reach-end-requires : goal.reach-end-requires
reach-end-requires c = end_within c.args.problem.now c.args.lists.now c.requires.ready c.requires.of.are_lists c.args.run.now c.requires.run

pub stops-requires : goal.stops-requires
stops-requires c = line_listed c.args.problem.now c.args.lists.now c.requires.ready c.requires.of.are_lists c.args.run.now c.requires.run

pub stops_between-behind-requires-clause-rise : goal.stops_between-behind-requires-clause-rise
stops_between-behind-requires-clause-rise c =
    subst (λ xs. AllPairs (λ (s t : Stop). s.along <ℤ t.along) xs) (sym c.stops.ensures) (stops c.args.problem.now c.args.lists.now c.requires.ready c.requires.of.are_lists c.args.run.now c.requires.run).rise

-- runs begin on the sheet
on_sheet : (low from to at : ℤ) → IsCoordinate low → IsCoordinate at → low ≤ℤ from → from ≤ℤ to → to <ℤ at → IsCoordinate from × IsCoordinate to
on_sheet low from to at l a first some last =
    let least = l.low in
    let most = a.high in (
      record { low = omega (arith, ints, least, first); high = omega (arith, ints, some, last, most) },
      record { low = omega (arith, ints, least, first, some); high = omega (arith, ints, last, most) },
    )

pub stops_between-behind-requires-clause-from : goal.stops_between-behind-requires-clause-from
stops_between-behind-requires-clause-from c =
    let fits : FitsSigned w64 c.last_begin-to.result = search rules in
    let from_fits : FitsSigned w64 c.first_begin-from.result = search rules in
    let some = simp to_z-of_z at c.if-to-from.false in
    let small = run_small c.args.problem.now c.args.lists.now c.requires.ready c.requires.of.are_lists c.args.run.now c.requires.run in
    simp to_z-of_z (on_sheet c.args.run.now.kept.from c.first_begin-from.result c.last_begin-to.result c.args.run.now.kept.at small.from small.at c.first_begin-from.ensures.from
    (omega (arith, ints, some)) c.last_begin-to.ensures.before).0

pub stops_between-behind-requires-clause-to : goal.stops_between-behind-requires-clause-to
stops_between-behind-requires-clause-to c =
    let fits : FitsSigned w64 c.last_begin-to.result = search rules in
    let from_fits : FitsSigned w64 c.first_begin-from.result = search rules in
    let some = simp to_z-of_z at c.if-to-from.false in
    let small = run_small c.args.problem.now c.args.lists.now c.requires.ready c.requires.of.are_lists c.args.run.now c.requires.run in
    simp to_z-of_z (on_sheet c.args.run.now.kept.from c.first_begin-from.result c.last_begin-to.result c.args.run.now.kept.at small.from small.at c.first_begin-from.ensures.from
    (omega (arith, ints, some)) c.last_begin-to.ensures.before).1

pub offer_turn-requires-clause-stop : goal.offer_turn-requires-clause-stop
offer_turn-requires-clause-stop c =
    subst (λ xs. Contains xs c.stop-item.result) c.stops.ensures ((c.stops_between-behind.ensures.members c.stop-item.result).0 (c.loop-stop.stop-index, c.loop-stop-test.true, sym c.stop-item.is)).0

pub offer_turn-requires-clause-from : goal.offer_turn-requires-clause-from
offer_turn-requires-clause-from c =
    let fits : FitsSigned w64 c.first_begin-from.result = search rules in
    let to_fits : FitsSigned w64 c.last_begin-to.result = search rules in
    let members = simp to_z-of_z at c.stops_between-behind.ensures.members in
    let m = (members c.stop-item.result).0 (c.loop-stop.stop-index, c.loop-stop-test.true, sym c.stop-item.is) in
    let low = m.1 in
    let from = c.first_begin-from.ensures.from in
    omega (arith, ints, low, from)

pub offer_turn-requires-clause-before : goal.offer_turn-requires-clause-before
offer_turn-requires-clause-before c =
    let fits : FitsSigned w64 c.first_begin-from.result = search rules in
    let to_fits : FitsSigned w64 c.last_begin-to.result = search rules in
    let members = simp to_z-of_z at c.stops_between-behind.ensures.members in
    let m = (members c.stop-item.result).0 (c.loop-stop.stop-index, c.loop-stop-test.true, sym c.stop-item.is) in
    let upto = m.2 in
    let before = c.last_begin-to.ensures.before in
    omega (arith, ints, upto, before)

pub loop-stop-preserved : goal.loop-stop-preserved
loop-stop-preserved c =
    let p = c.args.problem.now in
    let n = number_of c.args.lists.now in
    let r = c.args.run.now in
    let h = c.args.before in
    let old = c.args.self.now in
    let mid = c.loop-stop.self in
    let new = c.offer_turn.new.self in
    let xs = c.stops_between-behind.result.now in
    let i = c.loop-stop.stop-index in
    let more = c.in_ok-offer_turn.ensures.adds in
    record {
      rows = c.in_ok-offer_turn.ensures.rows ∙ c.loop-stop.invariant.rows;
      adds = adds_both p n old mid new i 1 c.loop-stop.invariant.adds more;
      turned = All-more (λ (s : Stop). HasReach c.near_from-near.result (reach_along r.heading s.along) → IsTurnedAt p n new r h s) xs i c.stop-item.result c.loop-stop-test.true
          (λ k d lt near. turned_on p n mid new 1 more r h (get_or (take i xs) k d) (c.loop-stop.invariant.turned k d lt near))
          (subst (λ (s : Stop). HasReach c.near_from-near.result (reach_along r.heading s.along) → IsTurnedAt p n new r h s) c.stop-item.is c.in_ok-offer_turn.ensures.turned);
    }

pub returns-clause-adds : goal.returns-clause-adds
returns-clause-adds c =
    let lists = c.args.lists.now in
    let end = c.loop-stop.auto.stop-index-end in
    let behind = c.stops_between-behind.ensures.few in
    let all = ap (λ (xs : List Stop). length xs) c.stops.ensures in
    let most = few_stops lists c.args.run.now.line in
    adds_more c.args.problem.now (number_of lists) c.args.self.now c.loop-stop.self c.loop-stop.stop-index (most_stops lists) (omega (arith, end, behind, all, most)) c.loop-stop.invariant.adds

pub returns-clause-turned : goal.returns-clause-turned
returns-clause-turned c = λ k q b held may.
    let p = c.args.problem.now in
    let lists = c.args.lists.now in
    let n = number_of lists in
    let r = c.args.run.now in
    let h = c.args.before in
    let new = c.loop-stop.self in
    let z = reach r.heading q in
    let at = goal.at.returns-clause-turned c in
    elim (near_or_dear at.After-near_from-near new c.loop-stop.invariant.adds.best k q b) as (λ _. IsTurnOffered p n new r h k q) [
      | inr dear ↦ dear
      | inl near ↦ (
          let from = begins at.After-first_begin-from z b.counts.from near in
          let xs = c.stops_between-behind.result.now in
          let fits : FitsSigned w64 c.first_begin-from.result = search rules in
          let to_fits : FitsSigned w64 c.last_begin-to.result = search rules in
          let members = simp to_z-of_z at c.stops_between-behind.ensures.members in
          let found = stop_at p lists c.requires.ready c.requires.of.are_lists r c.requires.run k q b.here b.on in
          let s : Stop = found.0 in
          let far : reach_along r.heading s.along ≡ z = ap (reach_along r.heading) found.1.along ∙ reach_of_along r.heading q in
          let upto = reaches at.After-last_begin-to k q b held in
          let has : Contains xs s = (members s).1 (subst (λ ys. Contains ys s) (sym c.stops.ensures) found.1.has, omega (arith, ints, far, from), omega (arith, ints, far, upto)) in
          let turned : Stop → Type 0 = λ t. HasReach c.near_from-near.result (reach_along r.heading t.along) → IsTurnedAt p n new r h t in
          let all : All turned xs = subst (All turned) (take_all c.loop-stop.stop-index xs c.loop-stop-test.false) c.loop-stop.invariant.turned in
          let same = found.1.crossing in
          subst (λ j. IsTurnOffered p n new r h j q) same
          (All-contains turned xs s all has (subst (HasReach c.near_from-near.result) (sym far) near) q (subst (λ j. StandsAt p.arena.now j q) (sym same) b.here) (subst (λ j. MayBegin p h j q r.heading) (sym same) may)))
    ]
