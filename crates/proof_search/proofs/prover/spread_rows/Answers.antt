-- The labels of a search that has ended, in rows, are the least ones.
use Rattle.std.proofs.Common.{◌+◌, List, length, sym, subst}
use Rattle.plane_geom.specs.declared.rect.Solid.{Solid}
use Rattle.line_arena.specs.Arena.{Arena}
use Rattle.walk_model.specs.declared.task.Task.{Task}
use Rattle.proof_search.specs.Provers.{AreLeastOn}
use Rattle.proof_search.specs.Rows.{rows_upto}
use Rattle.proof_search.specs.Scopes.{claim_of}
use Rattle.proof_search.specs.Spots.{AreSpots}
use Rattle.proof_search.proofs.RowsInOrder.LeastRows.{least_rows, ok_is}
use Rattle.proof_search.proofs.prover.spread_rows.Goals as goal

pub returns : goal.returns
returns c =
    let p = c.in_ok-problem.problem in
    let made = c.in_ok-problem.ensures in
    let claim = claim_of c.args.scope in
    let l = c.spread.new.self in
    let spots = c.args.spots.now in
    let rows = rows_upto l (length p.task.now.via + 1) spots in
    let are : AreSpots p.arena.now spots = subst (λ (a : Arena). AreSpots a spots) (sym made.arena) c.requires.spots in
    let least = least_rows p made.ready c.args.scope l c.in_ok-spread.ensures.spread spots are in
    let on_arena = subst (λ (a : Arena). AreLeastOn a p.solids.now p.task.now claim rows) made.arena least in
    let on_solids = subst (λ (ss : List Solid). AreLeastOn c.args.arena.now ss p.task.now claim rows) made.solids on_arena in
    let on_task = subst (λ (t : Task). AreLeastOn c.args.arena.now c.args.solids.now t claim rows) made.task on_solids in
    ok_is (AreLeastOn c.args.arena.now c.args.solids.now c.args.task.now claim) rows c.rows.result c.rows.ensures on_task
