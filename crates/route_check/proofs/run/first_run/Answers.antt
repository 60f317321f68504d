-- One segment more goes on in the direction of the first run, or ends it.
use Rattle.std.proofs.Common.{sym, ◌∙◌, inl, inr, arith, rules}
use denote.Enum.Bare.{differs_true, differs_false}
use Rattle.plane_geom.specs.contracts.point.Dir.{the_type}
use Rattle.route_check.proofs.Segments.Corners.{at_next}
use Rattle.route_check.proofs.Segments.Runs.{first_none, first_same, first_more, first_stop, first_all}
use Rattle.route_check.proofs.run.first_run.Goals as goal
use Rattle.route_check.proofs.run.first_run.Goals.{then-length-gt0+else-run-gt0, else-run-gt0-via-then-run-gt0+else-ne, else-run-gt0-via-else-run-gt0, else-length-gt0}

pub loop-to-init : goal.loop-to-init
loop-to-init c = first_none c.args.first c.args.rest.now _ c.requires.line.straight c.requires.line.begin_within

pub distance-length-requires-clause-from_within : goal.distance-length-requires-clause-from_within
distance-length-requires-clause-from_within c = c.loop-to.invariant.at.on_sheet

pub returns-then-ne : goal.returns-then-ne
returns-then-ne c = first_stop c.args.first c.args.rest.now c.loop-to.to-index c.loop-to.from c.loop-to-test.true c.requires.line.within c.loop-to.run c.loop-to.invariant
    c.if-run-gt0.true (omega arith) (λ same. differs_true the_type _ _ (sym c.ne.ensures ∙ c.if-ne.true) (c.heading-heading.ensures.heading ∙ same))

pub overflow_add-run : goal.overflow_add-run
overflow_add-run c =
    let next = at_next c.args.first c.args.rest.now c.loop-to.to-index c.loop-to.run.length c.loop-to.from c.loop-to.invariant.at c.loop-to-test.true c.requires.line.within in
    omega arith

pub loop-to-preserved : goal.loop-to-preserved
loop-to-preserved c =
    elim c.if-length-gt0.branch [
      | then-length-gt0+else-run-gt0 w ↦
          rw (w.run-is, w.from-is, c.heading-heading.ensures.heading, c.distance-length.ensures) (first_more c.args.first c.args.rest.now c.loop-to.to-index c.loop-to.from c.loop-to-test.true c.requires.line.within c.loop-to.run c.loop-to.invariant
          (elim w.else-run-gt0.branch [
            | else-run-gt0-via-then-run-gt0+else-ne w' ↦ inr (sym c.heading-heading.ensures.heading ∙ differs_false the_type (search rules) _ _ (sym w'.ne.ensures ∙ w'.if-ne.false))
            | else-run-gt0-via-else-run-gt0 w' ↦ inl (omega arith)
          ]))
      | else-length-gt0 w ↦
          rw (w.run-is, w.from-is) (first_same c.args.first c.args.rest.now c.loop-to.to-index c.loop-to.from c.loop-to-test.true c.requires.line.within c.loop-to.run c.loop-to.invariant (omega arith))
    ]

pub returns : goal.returns
returns c = first_all c.args.first c.args.rest.now c.loop-to.to-index c.loop-to.from c.loop-to.run c.loop-to.invariant c.loop-to-test.false
