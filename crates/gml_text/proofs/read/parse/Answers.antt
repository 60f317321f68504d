-- Where a reader stands, and from it what the bytes are read as.
use Rattle.std.proofs.Common.{[], sym, subst}
use Rattle.gml_text.specs.Reading.{between}
use Rattle.gml_text.specs.Standing.{Stands}
use Rattle.gml_text.specs.Tree.{no_pairs}
use Rattle.gml_text.proofs.Answering.{answer_passed, answer_printable, answer_exact}
use Rattle.gml_text.proofs.Standing.{stands_at_start}
use Rattle.gml_text.proofs.read.parse.Goals as goal

pub loop-at-init : goal.loop-at-init
loop-at-init c =
    let bytes = c.args.bytes.now in
    record {
      within = c.gap_end-at.ensures.within;
      no_gap = c.gap_end-at.ensures.stops;
      stands = subst (Stands bytes c.gap_end-at.result) (sym c.new-reader.ensures) (c.gap_end-at.ensures.ends between [] no_pairs (stands_at_start bytes));
    }

pub returns-in_err-next-clause-exact : goal.returns-in_err-next-clause-exact
returns-in_err-next-clause-exact c =
    answer_exact c.args.bytes.now c.from_residual.result
    (answer_passed c.args.bytes.now c.in_err-next.field-0.0 c.from_residual.result c.from_residual.ensures.1 c.in_err-next.ensures.goes)

pub returns-clause-printable : goal.returns-clause-printable
returns-clause-printable c = answer_printable c.args.bytes.now c.finish.result c.finish.ensures

pub returns-clause-exact : goal.returns-clause-exact
returns-clause-exact c = answer_exact c.args.bytes.now c.finish.result c.finish.ensures
