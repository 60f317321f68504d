-- Two spaces for each open list.
use Rattle.std.proofs.Common.{◌++◌, ap, ◌∙◌, append_assoc, append-nil, sym}
use Rattle.gml_text.specs.Printed.{indent}
use Rattle.gml_text.proofs.Printing.{indent_more}
use Rattle.gml_text.proofs.write.put_indent.Goals as goal

pub loop-init : goal.loop-init
loop-init c = sym (append-nil c.args.out.now.items)

pub loop-preserved : goal.loop-preserved
loop-preserved c =
    c.in_ok-extend_from_slice.ensures.items
    ∙ (ap (λ x. x ++ indent 1) c.loop.invariant
    ∙ (append_assoc c.args.out.now.items (indent c.loop.counter) (indent 1)
    ∙ ap (λ x. c.args.out.now.items ++ x) (indent_more c.loop.counter)))
