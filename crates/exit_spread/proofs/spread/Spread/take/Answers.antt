-- Stage by stage.
use Rattle.std.proofs.Common.{◌+◌, sym, subst, arith}
use Rattle.plane_geom.specs.declared.point.Point.{Point}
use Rattle.line_arena.proofs.Arenas.ArenaLaws.{one_point}
use Rattle.line_lists.specs.Lists.{number_of}
use Rattle.move_model.specs.Places.{ComesTo}
use Rattle.move_model.proofs.Moving.Stages.{one_stage}
use Rattle.exit_rows.specs.Exits.{IsLate}
use Rattle.exit_rows.specs.Rows.{kept_in}
use Rattle.exit_spread.specs.declared.spread.Spread.{Spread}
use Rattle.exit_spread.specs.Offers.{kept_of}
use Rattle.exit_spread.specs.Taking.{IsExit}
use Rattle.exit_spread.proofs.Searches.{TakenUpTo, taken_more, taken_past}
use Rattle.exit_spread.proofs.Taking.Offered.{grows_not}
use Rattle.exit_spread.proofs.spread.Spread.take.Goals as goal
use Rattle.exit_spread.proofs.spread.Spread.take.Goals.{then-stage_at-exit+in_ok-take_in, else-stage_at-exit}

pub loop-stage-init : goal.loop-stage-init
loop-stage-init c = record {
  searching = c.requires.searching;
  grows = grows_not c.args.problem.now c.args.lists.now c.args.self.now;
  taken = λ k less comes. absurd (omega (arith, less));
}

pub take_in-requires-clause-exit : goal.take_in-requires-clause-exit
take_in-requires-clause-exit c =
    let p = c.args.problem.now in
    let x = c.args.exit.now in
    let e = c.requires.exit in
    subst (IsExit p (number_of c.args.lists.now) x) (one_point p.arena.now x.place.crossing e.0 c.point-at.result c.requires.ready.arena e.1.way.here c.point-at.ensures) e.1

pub loop-stage-preserved : goal.loop-stage-preserved
loop-stage-preserved c =
    let p = c.args.problem.now in
    let lists = c.args.lists.now in
    let x = c.args.exit.now in
    let old = c.args.self.now in
    let mid = c.loop-stage.self in
    let k = c.loop-stage.stage in
    let at = c.point-at.result in
    elim c.if-stage_at-exit.branch as (λ _. TakenUpTo p lists x at old c.if-stage_at-exit.self (k + 1)) [
      | then-stage_at-exit+in_ok-take_in w ↦ subst (λ (s : Spread). TakenUpTo p lists x at old s (k + 1)) (sym w.self-is)
          (taken_more p lists x at old mid k c.loop-stage.invariant w.take_in.new.self w.in_ok-take_in.ensures.searching w.in_ok-take_in.ensures.grows w.in_ok-take_in.ensures.taken)
      | else-stage_at-exit w ↦ subst (λ (s : Spread). TakenUpTo p lists x at old s (k + 1)) (sym w.self-is)
          (taken_past p lists x at old mid k c.loop-stage.invariant
          (λ comes. w.if-stage_at-exit.false (one_stage p.task.now.via k c.stage_at.result x.place.stage at (subst (λ vs. ComesTo vs k at c.stage_at.result) c.as_slice.ensures c.stage_at.ensures) comes)))
    ]

pub returns-clause-taken : goal.returns-clause-taken
returns-clause-taken c = λ q here k comes.
    let p = c.args.problem.now in
    let x = c.args.exit.now in
    let same = one_point p.arena.now x.place.crossing c.point-at.result q c.requires.ready.arena c.point-at.ensures here in
    let from = comes.from in
    let all = c.loop-stage-test.false in
    subst (λ (r : Point). IsLate (kept_in c.loop-stage.self.rows k x.line x.place.heading) (kept_of p k r x)) same
    (c.loop-stage.invariant.taken k (omega (arith, from, all)) (subst (λ (r : Point). ComesTo p.task.now.via k r x.place.stage) (sym same) comes))
