-- What `follow_alone` leaves if its search fails, and otherwise.
use Rattle.std.proofs.Common.{◌+◌, ap, sym, subst, ◌∙◌, arith}
use Rattle.plane_geom.specs.Floor.{IsFloor}
use Rattle.line_arena.specs.Count.{counted_by}
use Rattle.line_arena.proofs.Counting.{counted_on}
use Rattle.visibility_graph.specs.Drawing.{Drawing}
use Rattle.graph_repair.specs.Change.{CountsWrites}
use Rattle.route_session.proofs.Upholding.{on_err_by, on_error, on_ok_by}
use Rattle.route_session.proofs.present.Present.follow_alone.Goals as goal

pub returns-in_err-repair-clause-err_written : goal.returns-in_err-repair-clause-err_written
returns-in_err-repair-clause-err_written c =
    let stays = (c.in_err-repair.ensures {u = tt}).err_written in
    on_error c.from_residual.result (0, omega (arith, c.bounded.ensures.written, stays))

pub settle-requires-clause-back : goal.settle-requires-clause-back
settle-requires-clause-back c = subst IsFloor (sym c.in_ok-repair.ensures.back) c.requires.fits

pub returns-clause-floor : goal.returns-clause-floor
returns-clause-floor c =
    on_ok_by c.follow_alone-found.result c.is_err.result c.is_err.ensures.value c.settle.ensures.stays (λ same. ap (λ (d : Drawing). d.floor) same ∙ c.in_ok-repair.ensures.floor)

pub returns-clause-written : goal.returns-clause-written
returns-clause-written c =
    let here = c.args.self.now.graph in
    on_ok_by c.follow_alone-found.result c.is_err.result c.is_err.ensures.value c.settle.ensures.stays
    (λ same. subst (λ (d : Drawing). CountsWrites here.floor d.floor here.arena.written d.arena.written) (sym same) c.in_ok-repair.ensures.written)

pub returns-clause-err_floor : goal.returns-clause-err_floor
returns-clause-err_floor c =
    on_err_by c.follow_alone-found.result c.is_err.result c.is_err.ensures.value c.settle.ensures.floor (λ at. at ∙ c.in_ok-repair.ensures.back)

pub returns-clause-err_written : goal.returns-clause-err_written
returns-clause-err_written c =
    let there = c.in_ok-repair.ensures.written in
    on_err_by c.follow_alone-found.result c.is_err.result c.is_err.ensures.value c.settle.ensures.written
    (λ back. (there.0 + back.0, back.1 ∙ ap (counted_by back.0) there.2 ∙ counted_on there.0 back.0 c.args.self.now.graph.arena.written))
