-- The pieces that are written are the line of the costs.
use Rattle.std.proofs.Common.{◌∙◌, ◌%◌, append_assoc, arith}
use Rattle.std.proofs.lemmas.Result.{on_ok_weaker}
use Rattle.fixed_milli.proofs.Reading.{padded_three}
use Rattle.form_make.proofs.summary.push_cost.Goals as goal

pub returns : goal.returns
returns c =
    let written = rw (c.laid_out.ensures, padded_three (c.args.cost % 1000) (omega arith)) at c.write.ensures.bytes in
    on_ok_weaker c.write.result (λ e. e ∙ simp append_assoc) written
