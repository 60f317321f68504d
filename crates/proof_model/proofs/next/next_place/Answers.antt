-- By the nearest crossing.
use Rattle.std.proofs.Common.{refl, sym, subst, arith}
use Rattle.plane_geom.proofs.Signed.{distance_bound}
use Rattle.move_model.proofs.GoingOn.Rests.{crossing_on_sheet}
use Rattle.proof_model.specs.Next.{IsNext}
use Rattle.proof_model.proofs.Nexts.{is_next, is_none_next}
use Rattle.proof_model.proofs.next.next_place.Goals as goal

pub returns-in_err-crossing-clause-none : goal.returns-in_err-crossing-clause-none
returns-in_err-crossing-clause-none c = λ none floor problem.
    let p = c.args.problem.now in
    is_none_next floor p.arena.now c.requires.ready.arena problem.stands p.task.now c.args.stage c.args.at c.args.dir c.args.crossing c.requires.here
    (c.in_err-crossing.ensures.absent.0 refl)

pub distance-requires-clause-from_within : goal.distance-requires-clause-from_within
distance-requires-clause-from_within c =
    let r = c.requires.ready in
    crossing_on_sheet r.floor c.args.problem.now.arena.now c.args.crossing c.args.at r.arena r.problem.stands c.requires.here

pub distance-requires-clause-to_within : goal.distance-requires-clause-to_within
distance-requires-clause-to_within c =
    let r = c.requires.ready in
    crossing_on_sheet r.floor c.args.problem.now.arena.now c.in_ok-crossing.crossing c.point-there.result r.arena r.problem.stands c.point-there.ensures

pub returns-clause-short : goal.returns-clause-short
returns-clause-short c =
    let r = c.requires.ready in
    let a = c.args.problem.now.arena.now in
    let from = crossing_on_sheet r.floor a c.args.crossing c.args.at r.arena r.problem.stands c.requires.here in
    let to = crossing_on_sheet r.floor a c.in_ok-crossing.crossing c.point-there.result r.arena r.problem.stands c.point-there.ensures in
    omega (arith, distance_bound c.args.at c.point-there.result from to, c.distance.ensures)

pub returns-clause-next : goal.returns-clause-next
returns-clause-next c = λ floor problem.
    let p = c.args.problem.now in
    let comes = rw c.as_slice.ensures at c.stage_at-stage.ensures in
    let next = is_next floor p.arena.now c.requires.ready.arena problem.stands p.task.now c.args.stage c.args.at c.args.dir c.args.crossing c.requires.here
    c.in_ok-crossing.crossing c.stage_at-stage.result c.point-there.result c.in_ok-crossing.ensures.nearest c.point-there.ensures comes in
    subst (λ n. IsNext floor p.task.now c.args.stage c.args.at c.args.dir
    (record {
      place = record { crossing = c.in_ok-crossing.crossing; stage = c.stage_at-stage.result; heading = c.args.dir };
      at =
          c.point-there.result;
      steps = n;
    }))
    (sym c.distance.ensures) next
