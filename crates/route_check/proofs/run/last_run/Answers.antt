-- One segment more goes on in the direction of the last run, or begins a new one.
use Rattle.std.proofs.Common.{◌+◌, sym, ◌∙◌, arith, rules, zero-add}
use denote.Enum.Bare.{same_true, same_false}
use Rattle.plane_geom.specs.contracts.point.Dir.{the_type}
use Rattle.route_check.proofs.Segments.Corners.{at_next}
use Rattle.route_check.proofs.Segments.Runs.{last_none, last_same, last_longer, last_anew, last_all}
use Rattle.route_check.proofs.run.last_run.Goals as goal
use Rattle.route_check.proofs.run.last_run.Goals.{then-length-gt0, then-eq, else-eq, else-length-gt0}

pub loop-to-init : goal.loop-to-init
loop-to-init c = (0, last_none c.args.first c.args.rest.now _ c.requires.line.straight c.requires.line.begin_within)

pub distance-length-requires-clause-from_within : goal.distance-length-requires-clause-from_within
distance-length-requires-clause-from_within c = c.loop-to.invariant.1.at.on_sheet

pub overflow_add-run : goal.overflow_add-run
overflow_add-run c =
    let (k, so) = c.loop-to.invariant in
    let next = at_next c.args.first c.args.rest.now c.loop-to.to-index k c.loop-to.from so.at c.loop-to-test.true c.requires.line.within in
    elim c.if-eq.branch [ then-eq w ↦ omega (arith, so.last.within) | else-eq w ↦ omega arith ]

pub loop-to-preserved : goal.loop-to-preserved
loop-to-preserved c =
    let (k, so) = c.loop-to.invariant in
    elim c.if-length-gt0.branch [
      | then-length-gt0 w ↦ (
        k + c.distance-length.result,
        elim w.if-eq.branch [
          | then-eq w' ↦ rw (w.run-is, w.from-is, w'.before-is, c.heading-heading.ensures.heading, c.distance-length.ensures)
              (last_longer c.args.first c.args.rest.now c.loop-to.to-index c.loop-to.from c.loop-to-test.true c.requires.line.within k c.loop-to.run so (omega arith)
              (sym c.heading-heading.ensures.heading ∙ same_true the_type (search rules) _ _ (sym w.eq.ensures ∙ w'.if-eq.true)))
          | else-eq w' ↦ rw (w.run-is, w.from-is, w'.before-is, zero-add, c.heading-heading.ensures.heading, c.distance-length.ensures)
              (last_anew c.args.first c.args.rest.now c.loop-to.to-index c.loop-to.from c.loop-to-test.true c.requires.line.within k c.loop-to.run so (omega arith)
              (λ same. same_false the_type _ _ (sym w.eq.ensures ∙ w'.if-eq.false) (c.heading-heading.ensures.heading ∙ same)))
        ],
      )
      | else-length-gt0 w ↦
          (k, rw (w.run-is, w.from-is) (last_same c.args.first c.args.rest.now c.loop-to.to-index c.loop-to.from c.loop-to-test.true c.requires.line.within k c.loop-to.run so (omega arith)))
    ]

pub returns : goal.returns
returns c = last_all c.args.first c.args.rest.now c.loop-to.to-index c.loop-to.invariant.0 c.loop-to.from c.loop-to.run c.loop-to.invariant.1 c.loop-to-test.false
