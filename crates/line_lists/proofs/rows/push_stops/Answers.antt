-- Stop by stop, from the first one on.
use Rattle.std.proofs.Common.{◌<◌, ◌∙◌, List, Option, Some, ap, length, refl, sym, subst}
use Rattle.std.proofs.lemmas.List.{length-set}
use Rattle.std.specs.Prelude.{IfSome, IsSome}
use Rattle.line_lists.specs.declared.stop.Numbers.{Numbers}
use Rattle.line_lists.specs.declared.stop.Stop.{Stop}
use Rattle.line_lists.specs.Rows.{IsColumnAt}
use Rattle.line_lists.proofs.Walking.{Walking, left_on, less_left, put, walk_begins, walk_ends, walk_on}
use Rattle.line_lists.proofs.rows.push_stops.Goals as goal
use Rattle.line_lists.proofs.rows.push_stops.Goals.{In-Some}

pub loop-next-init : goal.loop-next-init
loop-next-init c =
    let e = c.first_stop-next.ensures in
    walk_begins c.args.arena.now c.laws.ensures.arena c.args.id c.args.line c.requires.is c.args.number c.args.stops.now.items c.args.numbers.now c.first_stop-next.result
    e.stop e.column e.first e.none

-- the line is listed up to the stop
upto : (c : In-Some) → Walking c.args.arena.now c.args.id c.args.line c.args.number c.args.stops.now.items c.loop-next.stops.items c.args.numbers.now c.loop-next.numbers (Some c.in-Some.stop)
upto c =
    subst (Walking c.args.arena.now c.args.id c.args.line c.args.number c.args.stops.now.items c.loop-next.stops.items c.args.numbers.now c.loop-next.numbers) c.in-Some.is
    c.loop-next.invariant

pub push_stop-requires : goal.push_stop-requires
push_stop-requires c =
    let walking = upto (goal.at.push_stop-requires c).In-Some in
    record { live = subst IsSome (sym walking.rest.stop.is) refl; places = walking.places ∙ c.requires.places }

pub next_stop-next-requires : goal.next_stop-next-requires
next_stop-next-requires c =
    let walking = upto (goal.at.next_stop-next-requires c).In-Some in
    record {
      is = c.requires.is;
      way = c.requires.way;
      stop = walking.rest.stop;
      places = ap length c.push_stop.ensures.numbers ∙ length-set c.loop-next.numbers c.in-Some.stop.crossing _ ∙ walking.places ∙ c.requires.places;
      few = c.requires.few;
    }

pub loop-next-smaller : goal.loop-next-smaller
loop-next-smaller c =
    let walking = upto (goal.at.loop-next-smaller c).In-Some in
    let e = c.next_stop-next.ensures in
    subst (λ (o : Option Stop). left_on c.args.line c.next_stop-next.result < left_on c.args.line o) (sym c.in-Some.is)
    (less_left c.args.arena.now c.laws.ensures.arena c.args.id c.args.line c.requires.is c.args.number c.requires.way c.args.stops.now.items c.loop-next.stops.items c.args.numbers.now
    c.loop-next.numbers c.in-Some.stop walking c.push_stop.ensures.within c.next_stop-next.result e.stop e.nearest)

pub loop-next-preserved : goal.loop-next-preserved
loop-next-preserved c =
    let walking = upto (goal.at.loop-next-preserved c).In-Some in
    let e = c.next_stop-next.ensures in
    let numbers = c.push_stop.ensures.numbers in
    let column = subst (λ (ms : List Numbers). IfSome c.next_stop-next.result (λ (s : Stop). IsColumnAt c.args.arena.now ms s.crossing s.across)) numbers e.column in
    let on = walk_on c.args.arena.now c.laws.ensures.arena c.args.id c.args.line c.requires.is c.args.number c.requires.way c.args.stops.now.items c.loop-next.stops.items c.args.numbers.now
    c.loop-next.numbers c.in-Some.stop walking c.push_stop.ensures.within c.next_stop-next.result e.stop column e.nearest e.none in
    subst (λ (ms : List Numbers). Walking c.args.arena.now c.args.id c.args.line c.args.number c.args.stops.now.items c.push_stop.new.stops.items c.args.numbers.now ms c.next_stop-next.result)
    (sym numbers)
    (subst (λ (xs : List Stop). Walking c.args.arena.now c.args.id c.args.line c.args.number c.args.stops.now.items xs c.args.numbers.now
    (put c.loop-next.numbers c.in-Some.stop c.args.number) c.next_stop-next.result) (sym c.in_ok-push_stop.ensures.stops) on)

pub returns-clause-come : goal.returns-clause-come
returns-clause-come c = walk_ends c.args.arena.now c.laws.ensures.arena c.args.id c.args.line c.requires.is c.args.number c.args.stops.now.items c.loop-next.stops.items c.args.numbers.now
    c.loop-next.numbers
    (subst (Walking c.args.arena.now c.args.id c.args.line c.args.number c.args.stops.now.items c.loop-next.stops.items c.args.numbers.now c.loop-next.numbers) c.in_default.is c.loop-next.invariant)
