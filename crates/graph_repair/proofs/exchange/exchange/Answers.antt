-- What stays, goes and comes is what the two floors have in common and alone.
use Rattle.std.proofs.Common.{List, not, sym, subst, ◌∙◌}
use Rattle.std.specs.Prelude.{All}
use Rattle.plane_geom.specs.declared.floor.Line.{Line}
use Rattle.plane_geom.specs.declared.floor.Floor.{Floor}
use Rattle.line_arena.specs.Stands.{HasLine, StandsFor}
use Rattle.visibility_graph.specs.Meeting.{coming}
use Rattle.visibility_graph.specs.Fill.{ArePut, CanPut}
use Rattle.graph_repair.specs.declared.repair.Repair.TheInside.{Inside}
use Rattle.graph_repair.specs.Change.{Change, LeadsFrom}
use Rattle.graph_repair.specs.Take.{AreTaken}
use Rattle.graph_repair.proofs.Exchanged.{all_there, leads_at, leads_back, may_come, stands_there}
use Rattle.graph_repair.proofs.exchange.exchange.Goals as goal
use Rattle.graph_repair.proofs.exchange.exchange.Goals.{After-take-parts, After-take_lines, After-put_lines}

-- the model of the repair, with its vectors as lists
abbrev seen : Inside → Change
seen r = record { floor = r.floor; stay = r.stay.items; here = r.here.items; there = r.there.items; applied = r.applied }

-- the repair leads from the graph that was taken out
leads_here : (c : After-take-parts) → LeadsFrom (record { floor = c.take-parts.result.floor; arena = c.take-parts.result.arena }) (seen c.repair.inside)
leads_here c =
    leads_at c.args.graph.now c.take-parts.result.floor c.take-parts.result.arena c.args.repair.now (seen c.repair.inside) c.take-parts.ensures.floor c.take-parts.ensures.arena c.repair.view_is c.requires

-- the lines here have gone
taken_here : (c : After-take_lines) → AreTaken c.take-parts.result.arena c.take_lines.new.arena c.repair.inside.here.items
taken_here c = subst (AreTaken c.take-parts.result.arena c.take_lines.new.arena) c.as_slice.ensures.value c.take_lines.ensures

-- and those there have come
put_there : (c : After-put_lines) → ArePut c.take_lines.new.arena c.put_lines.new.arena c.repair.inside.there.items (coming c.repair.inside.there.items c.repair.inside.stay.items)
put_there c =
    let left = c.take_lines.new.arena in
    let last = c.put_lines.new.arena in
    subst (λ (new : List Line). ArePut left last new (coming new c.repair.inside.stay.items)) c.as_slice-2.ensures.value
    (subst (λ (stay : List Line). ArePut left last c.as_slice-2.result.now (coming c.as_slice-2.result.now stay)) c.as_slice-3.ensures.value c.put_lines.ensures)

pub take_lines-requires-clause-there : goal.take_lines-requires-clause-there
take_lines-requires-clause-there c =
    let leads = leads_here (goal.at.take_lines-requires-clause-there c).After-take-parts in
    let r = c.repair.inside in
    subst (All (HasLine c.take-parts.result.arena)) (sym c.as_slice.ensures.value)
    (all_there c.take-parts.result.floor r.floor r.stay.items r.here.items leads.stay leads.here c.take-parts.result.arena c.take-parts.ensures.stands)

pub put_lines-requires : goal.put_lines-requires
put_lines-requires c =
    let at = goal.at.put_lines-requires c in
    let leads = leads_here at.After-take-parts in
    let r = c.repair.inside in
    let left = c.take_lines.new.arena in
    let can = may_come c.take-parts.result.floor r.floor r.stay.items r.here.items leads.stay leads.here c.take-parts.result.arena c.take-parts.ensures.stands left (taken_here at.After-take_lines) r.there.items leads.there c.laws-2.ensures.arena leads.line_places leads.crossing_places in
    subst (λ (new : List Line). CanPut left new c.as_slice-3.result.now) (sym c.as_slice-2.ensures.value)
    (subst (CanPut left r.there.items) (sym c.as_slice-3.ensures.value) can)

pub from_parts-requires : goal.from_parts-requires
from_parts-requires c =
    let at = goal.at.from_parts-requires c in
    let leads = leads_here at.After-take-parts in
    let r = c.repair.inside in
    let last = c.put_lines.new.arena in
    subst (λ (f : Floor). StandsFor f last) (sym c.swap.ensures.x_after)
    (stands_there c.take-parts.result.floor r.floor r.stay.items r.here.items leads.stay leads.here c.take-parts.result.arena c.take-parts.ensures.stands c.take_lines.new.arena (taken_here at.After-take_lines) r.there.items leads.there last (put_there at.After-put_lines))

pub returns-clause-back : goal.returns-clause-back
returns-clause-back c =
    let at = goal.at.returns-clause-back c in
    let leads = leads_here at.After-take-parts in
    let r = c.repair.inside in
    let parts = c.take-parts.result in
    let last = c.put_lines.new.arena in
    let back = leads_back parts.floor r.floor r.stay.items r.here.items leads.stay leads.here parts.arena c.take-parts.ensures.stands c.take_lines.new.arena (taken_here at.After-take_lines) r.there.items leads.there last (put_there at.After-put_lines) (not r.applied) c.laws.ensures.arena in
    leads_at (record { floor = r.floor; arena = last }) c.from_parts.result.floor c.from_parts.result.arena
    (record { floor = parts.floor; stay = r.stay.items; here = r.there.items; there = r.here.items; applied = not r.applied })
    (record { floor = c.swap.new.y; stay = r.stay.items; here = c.swap-2.new.x.items; there = c.swap-2.new.y.items; applied = not r.applied })
    (c.from_parts.ensures.floor ∙ c.swap.ensures.x_after) c.from_parts.ensures.arena
    (λ i. record { floor = c.swap.ensures.y_after i; stay = r.stay.items; here = (c.swap-2.ensures.x_after i).items; there = (c.swap-2.ensures.y_after i).items; applied = not r.applied })
    back
