-- The graph is that of the start.
use Rattle.std.proofs.Common.{◌≡◌, Ok}
use Rattle.route_session.proofs.session.Session.on.Goals as goal

pub returns-clause-written : goal.returns-clause-written
returns-clause-written c =
    let was : c.args.start ≡ Ok c.in_ok-graph.field-0 = c.in_ok-graph.was in
    (c.in_ok-graph.field-0.graph.arena, rw was at c.requires.stands, rw was at c.requires.written)
