-- The pieces that are written are the text of the size.
use Rattle.std.proofs.Common.{◌≡◌, ◌∙◌, ◌%◌, append_assoc, arith, string_bytes}
use Rattle.fixed_milli.specs.Milli.{size_text}
use Rattle.fixed_milli.proofs.Reading.{padded_three}
use Rattle.fixed_milli.proofs.milli.push_milli.Goals as goal

pub returns-clause-ok : goal.returns-clause-ok
returns-clause-ok c =
    let pieces = rw (c.laid_out.ensures, padded_three (c.args.size % 1000) (omega arith)) at c.in_ok-number.ensures.ok in
    let written : string_bytes c.in_ok-number.number ≡ size_text c.args.size = pieces ∙ simp append_assoc in
    grind (arith, written)
