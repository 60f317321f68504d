-- All words of the chain were pushed.
use Rattle.std.proofs.Common.{◌==◌, filter, map, not, length, ap, ◌∙◌, rules, tests}
use Rattle.std.proofs.lemmas.Iterator.Consumers.{YieldsList-at, YieldsList-from_filter}
use Rattle.std.proofs.lemmas.Iterator.Splits.{YieldsList-from_slice_split}
use Rattle.std.specs.List.{slice_split}
use Rattle.edit_script.specs.Script.{is_blank}
use Rattle.edit_script.proofs.Chains.{ended}
use Rattle.edit_script.proofs.script.words.Goals as goal

pub returns : goal.returns
returns c =
    let line = c.without_return.result.now in
    let all = ended c.loop-word.yielded _ c.loop-word.yielded_by _ _ c.in-None.is c.next.ensures.steps (YieldsList-at c.into_iter-word-iterator.ensures.into_iter_gives (YieldsList-from_filter _ (λ w. not (length w == 0)) (YieldsList-at c.filter-word-items.ensures.source (YieldsList-from_slice_split _ is_blank line c.split.ensures.rest c.split.ensures.done c.split.ensures.closure (λ x b q k. search (rules, tests)))) c.filter-word-items.ensures.closure (λ x b q k. search (rules, tests)))) in
    ap (map (λ w. w.now)) c.loop-word.invariant ∙ all.0 ∙ ap (λ l. filter (λ w. not (length w == 0)) (slice_split is_blank l)) c.without_return.ensures
