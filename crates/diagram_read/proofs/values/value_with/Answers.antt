-- The value of the pair at the place.
use Rattle.std.proofs.Common.{ap, ◌∙◌, arith}
use Rattle.std.specs.Option.{option_copied, option_map}
use Rattle.gml_text.specs.View.{content}
use Rattle.diagram_read.proofs.Lists.{value_here, value_beyond}
use Rattle.diagram_read.proofs.values.value_with.Goals as goal

pub returns : goal.returns
returns c = value_here c.args.list.now c.args.place c.in_ok-get.field-0.now (omega (arith, c.in_ok-get.ensures.lookup)) c.in_ok-get.ensures.lookup.1

pub returns-in_err-get : goal.returns-in_err-get
returns-in_err-get c =
    ap (λ r. option_map content (option_copied r)) c.from_residual.ensures
    ∙ value_beyond c.args.list.now c.args.place (omega (arith, c.in_err-get.ensures.lookup))
