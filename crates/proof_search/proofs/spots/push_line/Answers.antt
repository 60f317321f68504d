-- Crossing by crossing, from the first one on the line to the east.
use Rattle.std.proofs.Common.{◌<◌, ◌++◌, ◌∷◌, [], List, Option, Some, sym, subst, inl}
use Rattle.proof_search.specs.declared.spots.Spot.{Spot}
use Rattle.proof_search.proofs.RowsInOrder.Listing.{IsRest, Listing, first_rest, left_on, less_left, more, next_rest}
use Rattle.proof_search.proofs.spots.push_line.Goals as goal
use Rattle.proof_search.proofs.spots.push_line.Goals.{In-Some, In_default, After-next_spot-next}

pub loop-next-init : goal.loop-next-init
loop-next-init c =
    let old = c.args.spots.now.items in
    let e = c.first_spot-next.ensures in
    record {
      kept = λ s has. has;
      only = λ s has. inl has;
      rise = c.requires.rise;
      rest = first_rest c.args.arena.now c.laws.ensures.arena c.args.line c.args.id c.requires.is c.requires.way old c.first_spot-next.result c.requires.before
          e.stands e.first e.none;
    }

-- the line is listed up to the crossing
upto : (c : In-Some) → Listing c.args.arena.now c.args.line c.args.id c.args.spots.now.items c.loop-next.spots.items (Some c.in-Some.spot)
upto c = subst (Listing c.args.arena.now c.args.line c.args.id c.args.spots.now.items c.loop-next.spots.items) c.in-Some.is c.loop-next.invariant

-- and what is to come then
rest : (c : After-next_spot-next) → Listing c.args.arena.now c.args.line c.args.id c.args.spots.now.items c.loop-next.spots.items (Some c.in-Some.spot)
    → IsRest c.args.arena.now c.args.line c.args.id (c.loop-next.spots.items ++ c.in-Some.spot ∷ []) c.next_spot-next.result
rest c listing =
    let e = c.next_spot-next.ensures in
    next_rest c.args.arena.now c.laws.ensures.arena c.args.line c.args.id c.requires.is c.requires.way c.args.spots.now.items c.loop-next.spots.items
    c.in-Some.spot listing
    c.next_spot-next.result e.stands e.nearest e.none

pub next_spot-next-requires : goal.next_spot-next-requires
next_spot-next-requires c = record { stands = (upto (goal.at.next_spot-next-requires c).In-Some).rest.stands }

pub loop-next-smaller : goal.loop-next-smaller
loop-next-smaller c =
    let here = goal.at.loop-next-smaller c in
    let listing = upto here.In-Some in
    subst (λ (o : Option Spot). left_on c.args.line c.next_spot-next.result < left_on c.args.line o) (sym c.in-Some.is)
    (less_left c.args.arena.now c.laws.ensures.arena c.args.line c.args.id c.requires.is c.requires.way c.args.spots.now.items c.loop-next.spots.items
    c.in-Some.spot listing
    c.next_spot-next.result (rest here.After-next_spot-next listing))

pub loop-next-preserved : goal.loop-next-preserved
loop-next-preserved c =
    let here = goal.at.loop-next-preserved c in
    let listing = upto here.In-Some in
    subst (λ (xs : List Spot). Listing c.args.arena.now c.args.line c.args.id c.args.spots.now.items xs c.next_spot-next.result)
    (sym c.in_ok-push.ensures.items)
    (more c.args.arena.now c.laws.ensures.arena c.args.line c.args.id c.requires.is c.requires.way c.args.spots.now.items c.loop-next.spots.items c.in-Some.spot
    listing
    c.next_spot-next.result (rest here.After-next_spot-next listing))

pub returns : goal.returns
returns c =
    let all = subst (Listing c.args.arena.now c.args.line c.args.id c.args.spots.now.items c.loop-next.spots.items) c.in_default.is c.loop-next.invariant in
    record { kept = all.kept; only = all.only; all = all.rest; rise = all.rise }
