-- The next line is still there, and goes too.
use Rattle.std.proofs.Common.{◌∷◌, [], get_or, take, sym, subst}
use Rattle.std.proofs.lemmas.List.{take_all, take_more}
use Rattle.visibility_graph.proofs.Counts.{no_line}
use Rattle.visibility_graph.proofs.Crossed.{not_before}
use Rattle.graph_repair.specs.Take.{AreTaken}
use Rattle.graph_repair.proofs.Taken.{taken_none, taken_on}
use Rattle.graph_repair.proofs.exchange.take_lines.Goals as goal

pub loop-line-init : goal.loop-line-init
loop-line-init c = taken_none c.args.arena.now c.requires.complete

pub take_line-requires-clause-there : goal.take_line-requires-clause-there
take_line-requires-clause-there c =
    let lines = c.args.lines.now in
    let i = c.loop-line.line-index in
    (c.loop-line.invariant.stands (get_or lines i no_line)).1
    (c.requires.there i no_line c.loop-line-test.true, λ gone. not_before lines i no_line c.requires.ordered c.loop-line-test.true gone)

pub loop-line-preserved : goal.loop-line-preserved
loop-line-preserved c =
    let lines = c.args.lines.now in
    let i = c.loop-line.line-index in
    subst (AreTaken c.args.arena.now c.take_line.new.arena) (sym (take_more lines i no_line c.loop-line-test.true))
    (taken_on c.args.arena.now c.loop-line.arena c.take_line.new.arena (take i lines) (get_or lines i no_line ∷ []) c.loop-line.invariant c.take_line.ensures)

pub returns : goal.returns
returns c = subst (AreTaken c.args.arena.now c.loop-line.arena) (take_all c.loop-line.line-index c.args.lines.now c.loop-line-test.false) c.loop-line.invariant
