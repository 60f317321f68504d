-- A line goes once its crossings have gone, from the first on.
use Rattle.std.proofs.Common.{rules, ◌<◌, [], ◌∷◌, sym, subst}
use Rattle.std.specs.FinMap.{len}
use Rattle.line_arena.specs.Arena.{Arena}
use Rattle.graph_repair.specs.Take.{AreTaken}
use Rattle.graph_repair.proofs.Taken.{IsEmptied, not_emptied, emptied_more, emptied_smaller, taken}
use Rattle.graph_repair.proofs.exchange.take_line.Goals as goal

pub loop-crossing-init : goal.loop-crossing-init
loop-crossing-init c = not_emptied c.args.arena.now c.in-Some.id

pub loop-crossing-smaller : goal.loop-crossing-smaller
loop-crossing-smaller c =
    subst (λ (a : Arena). len a.crossings < len c.loop-crossing.arena.crossings) (sym c.remove_crossing.ensures.after)
    (emptied_smaller c.loop-crossing.arena c.in-Some.id _ c.in-Some-first_on_line.ensures.first.on)

pub loop-crossing-preserved : goal.loop-crossing-preserved
loop-crossing-preserved c =
    subst (λ (a : Arena). IsEmptied c.args.arena.now a c.in-Some.id) (sym c.remove_crossing.ensures.after)
    (emptied_more c.args.arena.now c.loop-crossing.arena c.in-Some.id _ c.loop-crossing.invariant c.in-Some-first_on_line.ensures.first.on)

pub remove_line-requires-clause-no_crossings : goal.remove_line-requires-clause-no_crossings
remove_line-requires-clause-no_crossings c = c.in_default-first_on_line.ensures.absent.0 (search rules)

pub returns : goal.returns
returns c =
    subst (λ (a : Arena). AreTaken c.args.arena.now a (c.args.line ∷ [])) (sym c.remove_line.ensures.after)
    (taken c.args.arena.now c.loop-crossing.arena c.in-Some.id c.args.line c.in-Some.ensures.arena c.requires.complete c.in-Some.ensures.found c.loop-crossing.invariant
    (c.in_default-first_on_line.ensures.absent.0 (search rules)))
