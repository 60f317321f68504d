-- The words of a line are those that the chain gives.
use Rattle.std.proofs.Common.{◌<◌, ◌==◌, [], ◌∷◌, ◌++◌, filter, map, not, length, ap, ◌∙◌, arith, rules, tests, length-append, length-set, length-take}
use Rattle.std.proofs.lemmas.List.{take_more_set}
use Rattle.std.proofs.lemmas.Iterator.{YieldsList-from_take}
use Rattle.std.proofs.lemmas.Iterator.Consumers.{YieldsList-at, YieldsList-from_filter}
use Rattle.std.proofs.lemmas.Iterator.Splits.{YieldsList-from_slice_split}
use Rattle.std.specs.List.{slice_split}
use Rattle.edit_script.specs.Script.{is_blank, words, command_of}
use Rattle.edit_script.proofs.Chains.{turn, ended}
use Rattle.edit_script.proofs.Fronts.{front_decides}
use Rattle.edit_script.proofs.script.command_in.Goals as goal

-- fewer than seven words stand there yet
below : (c : goal.In-Some) → c.loop-word.count < 7
below c =
    let line = c.without_return.result.now in
    let found = turn c.loop-word.yielded _ c.loop-word.yielded_by _ _ c.in-Some.word c.in-Some.is c.next.ensures.steps (YieldsList-at c.into_iter-word-iterator.ensures.into_iter_gives (YieldsList-from_take 7 (YieldsList-at c.take-word-items.ensures.source (YieldsList-from_filter _ (λ w. not (length w == 0)) (YieldsList-at c.filter.ensures.source (YieldsList-from_slice_split _ is_blank line c.split.ensures.rest c.split.ensures.done c.split.ensures.closure (λ x b q k. search (rules, tests)))) c.filter.ensures.closure (λ x b q k. search (rules, tests)))) c.take-word-items.ensures.count)) in
    omega (arith, found.0, length-take 7 (words c.args.line.now), length-take 7 (filter (λ w. not (length w == 0)) (slice_split is_blank line)), c.loop-word.invariant.counted)

pub offset_bounds-words-count : goal.offset_bounds-words-count
offset_bounds-words-count c = let small = below c in omega arith

pub loop-word-preserved : goal.loop-word-preserved
loop-word-preserved c =
    let small = below c in
    let i = c.loop-word.invariant in
    record {
      counted = omega (arith, i.counted, length-append c.loop-word.yielded (c.in-Some.word ∷ []));
      room = length-set _ _ _ ∙ i.room;
      kept = take_more_set c.loop-word.words c.loop-word.count c.in-Some.word (omega (arith, small, i.room)) ∙ ap (λ ws. ws ++ c.in-Some.word ∷ []) i.kept;
    }

pub returns : goal.returns
returns c =
    let line = c.without_return.result.now in
    let all = ended c.loop-word.yielded _ c.loop-word.yielded_by _ _ c.in-None.is c.next.ensures.steps (YieldsList-at c.into_iter-word-iterator.ensures.into_iter_gives (YieldsList-from_take 7 (YieldsList-at c.take-word-items.ensures.source (YieldsList-from_filter _ (λ w. not (length w == 0)) (YieldsList-at c.filter.ensures.source (YieldsList-from_slice_split _ is_blank line c.split.ensures.rest c.split.ensures.done c.split.ensures.closure (λ x b q k. search (rules, tests)))) c.filter.ensures.closure (λ x b q k. search (rules, tests)))) c.take-word-items.ensures.count)) in
    c.command_of.ensures ∙ ap (λ ws. command_of (map (λ w. w.now) ws)) c.loop-word.invariant.kept ∙ ap command_of all.0
    ∙ front_decides (filter (λ w. not (length w == 0)) (slice_split is_blank line))
    ∙ ap (λ l. command_of (filter (λ w. not (length w == 0)) (slice_split is_blank l))) c.without_return.ensures
