-- The first pair with the key has the value.
use Rattle.std.proofs.Common.{sym, ap, ◌∙◌, arith}
use Rattle.std.specs.Option.{option_copied, option_map}
use Rattle.gml_text.specs.View.{content}
use Rattle.diagram_read.proofs.Lists.{key_within, value_found, value_missing}
use Rattle.diagram_read.proofs.values.value_at.Goals as goal

pub returns-in_err-index : goal.returns-in_err-index
returns-in_err-index c = ap (λ r. option_map content (option_copied r)) c.from_residual.ensures ∙ sym (value_missing c.args.list.now c.args.key.now c.in_err-index.ensures.none)

pub offset_bounds-list-index : goal.offset_bounds-list-index
offset_bounds-list-index c =
    let within = key_within c.args.list.now c.in_ok-index.index c.args.key.now c.in_ok-index.ensures.found in
    omega (arith, within)

pub bounds-list-index : goal.bounds-list-index
bounds-list-index c = key_within c.args.list.now c.in_ok-index.index c.args.key.now c.in_ok-index.ensures.found

pub returns : goal.returns
returns c = value_found c.args.list.now c.args.key.now c.in_ok-index.index c.index-list-index.result c.in_ok-index.ensures.found c.in_ok-index.ensures.first
