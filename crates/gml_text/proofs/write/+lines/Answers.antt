-- The lines of pairs, and how deep the calls go.
use denote.Param.Weighed.{most, at_most}
use Rattle.std.proofs.Common.{◌≤◌, subst, rules, [], ◌∷◌, ◌++◌, take, ap, sym, ◌∙◌, append_assoc, append-nil}
use Rattle.gml_text.specs.Printed.{printed_inside}
use Rattle.gml_text.specs.View.{pairs}
use Rattle.gml_text.proofs.Printing.{more_lines, fits_inside}
use Rattle.gml_text.proofs.tree.Pair.TheLaws.{the_size}
use Rattle.gml_text.proofs.write.+lines.Goals as goal

pub put_lines-loop-pair-init : goal.put_lines-loop-pair-init
put_lines-loop-pair-init t c = sym (append-nil c.args.out.now.items)

pub put_lines-loop-pair-preserved : goal.put_lines-loop-pair-preserved
put_lines-loop-pair-preserved t c =
    let done = printed_inside c.args.level (pairs (take c.loop-pair.pair-index c.args.list.now)) in
    let line = printed_inside c.args.level (pairs (c.pair-item.result ∷ [])) in
    c.in_ok-put_pair.ensures
    ∙ (ap (λ x. x ++ line) c.loop-pair.invariant
    ∙ (append_assoc c.args.out.now.items done line
    ∙ ap (λ x. c.args.out.now.items ++ x) (more_lines c.args.list.now c.loop-pair.pair-index c.pair-item.result c.args.level c.loop-pair-test.true c.pair-item.is)))

pub put_lines-put_pair-requires : goal.put_lines-put_pair-requires
put_lines-put_pair-requires t c =
    let below : the_size c.pair-item.result ≤ most the_size c.args.list.now =
    subst (λ x. the_size x ≤ most the_size c.args.list.now) (sym c.pair-item.is)
    (at_most the_size c.args.list.now c.loop-pair.pair-index c.pair-item.result c.loop-pair-test.true) in
    (search (rules, below), fits_inside c.args.list.now c.loop-pair.pair-index c.pair-item.result c.args.level c.loop-pair-test.true c.pair-item.is c.requires)
