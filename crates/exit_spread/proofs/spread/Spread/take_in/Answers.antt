-- The exit is late, or its line keeps it and it is propagated.
use Rattle.std.proofs.Common.{◌≡◌, ◌≤ℤ◌, ◌<ℤ◌, ℤ, ℕ, List, Some, None, refl, sym, ap, subst, ◌∙◌, arith, w64, to_z, of_z}
use Rattle.std.specs.Prelude.{All}
use Rattle.std.proofs.lemmas.Bool.{false≢true}
use Rattle.std.proofs.lemmas.Int.{ints}
use Rattle.plane_geom.specs.declared.point.Point.{Point}
use Rattle.plane_geom.specs.Point.{IsCoordinate}
use Rattle.line_lists.specs.Lists.{number_of}
use Rattle.exit_rows.specs.Exits.{IsLate, IsSmallKept, IsUndercut}
use Rattle.exit_rows.specs.Rows.{HasRow, Keeps, kept_in}
use Rattle.exit_rows.specs.declared.exit.Kept.{Kept}
use Rattle.exit_spread.specs.declared.run.Run.{Run}
use Rattle.exit_spread.specs.Propagating.{IsBehind, IsRun}
use Rattle.exit_spread.specs.Offers.{IsPropagatedAt, from_of, kept_of}
use Rattle.exit_spread.specs.Searching.{IsSearching}
use Rattle.exit_spread.specs.Taking.{Grows}
use Rattle.exit_spread.proofs.Known.Numbers.{lists_number}
use Rattle.exit_spread.proofs.Sizes.{crossing_within}
use Rattle.exit_spread.proofs.Taking.Keeping.{is_run, room, smalls, taken_in}
use Rattle.exit_spread.proofs.Taking.Numbered.{crossing_below}
use Rattle.exit_spread.proofs.spread.Spread.take_in.Goals as goal
use Rattle.exit_spread.proofs.spread.Spread.take_in.Goals.{After-reach, After-stop-from}

pub counts_from-requires-clause-at_within : goal.counts_from-requires-clause-at_within
counts_from-requires-clause-at_within c = crossing_within c.args.problem.now c.args.exit.now.place.crossing c.args.at c.requires.ready c.requires.exit.way.here

pub reach-requires : goal.reach-requires
reach-requires c = crossing_within c.args.problem.now c.args.exit.now.place.crossing c.args.at c.requires.ready c.requires.exit.way.here

-- there is a row for the exit, and what is in it is small
has_row : (c : After-reach) → HasRow c.args.self.now.rows c.args.stage c.args.exit.now.line
has_row c =
    room c.args.problem.now c.requires.ready c.args.lists.now (number_of c.args.lists.now) c.args.exit.now c.args.at c.requires.exit c.args.stage c.requires.comes c.args.self.now (Some c.args.exit.now) c.requires.searching

are_small : (c : After-reach) → All IsSmallKept (kept_in c.args.self.now.rows c.args.stage c.args.exit.now.line c.args.exit.now.place.heading)
are_small c =
    smalls c.args.problem.now c.requires.ready c.args.lists.now (number_of c.args.lists.now) c.args.exit.now c.args.at c.requires.exit c.args.stage c.requires.comes c.args.self.now (Some c.args.exit.now) c.requires.searching

pub is_late-requires-clause-room : goal.is_late-requires-clause-room
is_late-requires-clause-room c = has_row (goal.at.is_late-requires-clause-room c).After-reach

pub is_late-requires-clause-small : goal.is_late-requires-clause-small
is_late-requires-clause-small c = are_small (goal.at.is_late-requires-clause-small c).After-reach

-- a coordinate as it is stored
stored : (z y : ℤ) → z ≡ y → IsCoordinate z → to_z w64 (of_z w64 z) ≡ y
stored z y e h = let low = h.low in let high = h.high in omega (arith, ints, e, low, high)

-- the exit as it is to be kept
kept_is : (c : After-reach) → ◌≡◌ {A = Kept} (record { crossing = c.args.exit.now.place.crossing; from = to_z w64 (of_z w64 c.counts_from.result); at = to_z w64 (of_z w64 c.reach.result); next = c.args.exit.now.next; ahead = c.args.exit.now.ahead })
    (kept_of c.args.problem.now c.args.stage c.args.at c.args.exit.now)
kept_is c =
    let x = c.args.exit.now in
    let from = stored c.counts_from.result _ (c.counts_from.ensures.exact ∙ ap (λ (via : List Point). from_of via c.args.stage x.place.heading c.args.at) c.as_slice.ensures) c.counts_from.ensures.within in
    let at = stored c.reach.result _ c.reach.ensures.value c.reach.ensures.within in
    (λ i. record { crossing = x.place.crossing; from = from i; at = at i; next = x.next; ahead = x.ahead })

pub returns-then-is_late-clause-taken : goal.returns-then-is_late-clause-taken
returns-then-is_late-clause-taken c =
    let x = c.args.exit.now in
    subst (IsLate (kept_in c.args.self.now.rows c.args.stage x.line x.place.heading)) (kept_is (goal.at.returns-then-is_late-clause-taken c).After-reach) (c.if-is_late.ensures.0 refl)

pub stop-from-requires-clause-room : goal.stop-from-requires-clause-room
stop-from-requires-clause-room c = has_row (goal.at.stop-from-requires-clause-room c).After-reach

pub stop-from-requires-clause-small : goal.stop-from-requires-clause-small
stop-from-requires-clause-small c = are_small (goal.at.stop-from-requires-clause-small c).After-reach

pub keep-requires-clause-room : goal.keep-requires-clause-room
keep-requires-clause-room c = has_row (goal.at.keep-requires-clause-room c).After-reach

-- the exit is not late, and up to the stop it is undercut
not_late : (c : After-stop-from) → IsLate (kept_in c.args.self.now.rows c.args.stage c.args.exit.now.line c.args.exit.now.place.heading) (kept_of c.args.problem.now c.args.stage c.args.at c.args.exit.now) → ⊥
not_late c late =
    let x = c.args.exit.now in
    false≢true (c.if-is_late.ensures.1 (subst (IsLate (kept_in c.args.self.now.rows c.args.stage x.line x.place.heading)) (sym (kept_is (goal.at.After-stop-from c).After-reach)) late))

stops : (c : After-stop-from) → let e = kept_of c.args.problem.now c.args.stage c.args.at c.args.exit.now in
    (e.from ≤ℤ c.stop-from.result) × ((z : ℤ) → e.from ≤ℤ z → z <ℤ c.stop-from.result → IsUndercut (kept_in c.args.self.now.rows c.args.stage c.args.exit.now.line c.args.exit.now.place.heading) e z)
stops c =
    let x = c.args.exit.now in
    subst (λ (e : Kept). (e.from ≤ℤ c.stop-from.result) × ((z : ℤ) → e.from ≤ℤ z → z <ℤ c.stop-from.result → IsUndercut (kept_in c.args.self.now.rows c.args.stage x.line x.place.heading) e z)) (kept_is (goal.at.After-stop-from c).After-reach)
    (c.stop-from.ensures.from, c.stop-from.ensures.undercut)

abbrev run : After-stop-from → Run
run c =
    let x = c.args.exit.now in
    let e = kept_of c.args.problem.now c.args.stage c.args.at x in
    record { stage = c.args.stage; line = x.line; heading = x.place.heading; end = c.args.at; kept = record { crossing = e.crossing; from = c.stop-from.result; at = e.at; next = e.next; ahead = e.ahead } }

may_run : (c : After-stop-from) → IsRun c.args.problem.now (number_of c.args.lists.now) (run c)
may_run c =
    is_run c.args.problem.now c.requires.ready c.args.lists.now (number_of c.args.lists.now) c.args.exit.now c.args.at c.requires.exit c.args.stage c.requires.comes c.args.self.now (Some c.args.exit.now) c.requires.searching
    c.stop-from.result (stops c).0 (stops c).1

-- the run as it is propagated
run_is : (c : After-stop-from) → ◌≡◌ {A = Run}
    (record { stage = c.args.stage; line = c.args.exit.now.line; heading = c.args.exit.now.place.heading; end = c.args.at; kept = record { crossing = c.args.exit.now.place.crossing; from = to_z w64 (of_z w64 c.stop-from.result); at = to_z w64 (of_z w64 (to_z w64 (of_z w64 c.reach.result))); next = c.args.exit.now.next; ahead = c.args.exit.now.ahead } })
    (run c)
run_is c =
    let x = c.args.exit.now in
    let from = stored c.stop-from.result c.stop-from.result refl (may_run c).within in
    let at = stored (to_z w64 (of_z w64 c.reach.result)) _
    (stored c.reach.result _ c.reach.ensures.value c.reach.ensures.within)
    (subst IsCoordinate (sym (stored c.reach.result c.reach.result refl c.reach.ensures.within)) c.reach.ensures.within) in
    (λ i. record { stage = c.args.stage; line = x.line; heading = x.place.heading; end = c.args.at; kept = record { crossing = x.place.crossing; from = from i; at = at i; next = x.next; ahead = x.ahead } })

pub propagate-requires-clause-run : goal.propagate-requires-clause-run
propagate-requires-clause-run c =
    let past = (goal.at.propagate-requires-clause-run c).After-stop-from in
    subst (IsRun c.args.problem.now (number_of c.args.lists.now)) (sym (run_is past)) (may_run past)

keeps : (c : goal.In_ok-propagate) → Keeps c.args.self.now.rows c.keep.new.self c.args.stage c.args.exit.now.line c.args.exit.now.place.heading (kept_of c.args.problem.now c.args.stage c.args.at c.args.exit.now)
keeps c =
    let x = c.args.exit.now in
    subst (Keeps c.args.self.now.rows c.keep.new.self c.args.stage x.line x.place.heading) (kept_is (goal.at.returns-clause-searching c).After-reach) c.in_ok-keep.ensures.ok

propagated : (c : goal.In_ok-propagate) → (z : ℕ) (q : Point) → IsBehind c.args.problem.now (number_of c.args.lists.now) (run (goal.at.returns-clause-searching c).After-stop-from) z q →
    IsPropagatedAt c.args.problem.now (number_of c.args.lists.now) c.propagate.new.self None c.args.stage c.args.exit.now.place.heading (run (goal.at.returns-clause-searching c).After-stop-from).kept z q
propagated c =
    subst (λ (r : Run). (z : ℕ) (q : Point) → IsBehind c.args.problem.now (number_of c.args.lists.now) r z q → IsPropagatedAt c.args.problem.now (number_of c.args.lists.now) c.propagate.new.self None r.stage r.heading r.kept z q)
    (run_is (goal.at.returns-clause-searching c).After-stop-from) c.in_ok-propagate.ensures.propagated

-- the search goes on, nothing is lost, and the exit is late
all : (c : goal.In_ok-propagate) → IsSearching c.args.problem.now (number_of c.args.lists.now) c.propagate.new.self (Some c.args.exit.now) None
    × Grows c.args.problem.now c.args.lists.now c.args.self.now c.propagate.new.self
    × IsLate (kept_in c.propagate.new.self.rows c.args.stage c.args.exit.now.line c.args.exit.now.place.heading)
    (kept_of c.args.problem.now c.args.stage c.args.at c.args.exit.now)
all c =
    let p = c.args.problem.now in
    let lists = c.args.lists.now in
    let x = c.args.exit.now in
    let arena = c.requires.ready.arena in
    let are = c.requires.of.are_lists in
    let past = (goal.at.returns-clause-searching c).After-stop-from in
    taken_in p c.requires.ready lists (number_of lists) x c.args.at c.requires.exit c.args.stage c.requires.comes c.args.self.now (Some x) c.requires.searching
    c.stop-from.result (stops past).0 (stops past).1 (lists_number p.arena.now lists arena are)
    (crossing_below p.arena.now arena lists are x.place.crossing c.args.at c.requires.exit.way.here) (not_late past)
    c.keep.new.self (keeps c) c.in_ok-keep.ensures.marked c.propagate.new.self c.in_ok-propagate.ensures.rows c.in_ok-propagate.ensures.adds (propagated c)

pub returns-clause-searching : goal.returns-clause-searching
returns-clause-searching c = (all c).0

pub returns-clause-grows : goal.returns-clause-grows
returns-clause-grows c = (all c).1

pub returns-clause-taken : goal.returns-clause-taken
returns-clause-taken c = (all c).2
