-- The words of a line are those that the chain gives.
use Rattle.std.proofs.Common.{◌<◌, ◌==◌, [], ◌∷◌, ◌++◌, map, ap, ◌∙◌, arith, rules, tests, length-append, length-set, length-take}
use Rattle.std.proofs.lemmas.List.{take_more_set}
use Rattle.std.proofs.lemmas.Iterator.{YieldsList-from_take}
use Rattle.std.proofs.lemmas.Iterator.Consumers.{YieldsList-at}
use Rattle.std.proofs.lemmas.Iterator.Splits.{YieldsList-from_slice_split}
use Rattle.proof_text.specs.Forms.{words, line_of_words}
use Rattle.proof_text.proofs.Chains.{turn, ended}
use Rattle.proof_text.proofs.Words.{front_decides}
use Rattle.proof_text.proofs.form.line_of.Goals as goal

-- fewer than nine words stand there yet
below : (c : goal.In-Some) → c.loop-word.count < 9
below c =
    let line = c.args.line.now in
    let found = turn c.loop-word.yielded _ c.loop-word.yielded_by _ _ c.in-Some.word c.in-Some.is c.next.ensures.steps
    (YieldsList-at c.into_iter-word-iterator.ensures.into_iter_gives (YieldsList-from_take 9
    (YieldsList-at c.take-word-items.ensures.source
    (YieldsList-from_slice_split _ (λ b. b == 32) line c.split.ensures.rest c.split.ensures.done c.split.ensures.closure (λ x b q k. search (rules, tests))))
    c.take-word-items.ensures.count)) in
    omega (arith, found.0, length-take 9 (words line), c.loop-word.invariant.counted)

pub offset_bounds-words-count : goal.offset_bounds-words-count
offset_bounds-words-count c = let small = below c in omega arith

pub bounds-words-count : goal.bounds-words-count
bounds-words-count c = below c

pub overflow_add-count : goal.overflow_add-count
overflow_add-count c = let small = below c in omega arith

pub loop-word-preserved : goal.loop-word-preserved
loop-word-preserved c =
    let small = below c in
    let i = c.loop-word.invariant in
    record {
      counted = omega (arith, i.counted, length-append c.loop-word.yielded (c.in-Some.word ∷ []));
      room = length-set _ _ _ ∙ i.room;
      kept = take_more_set c.loop-word.words c.loop-word.count c.in-Some.word (omega (arith, small, i.room)) ∙ ap (λ ws. ws ++ c.in-Some.word ∷ []) i.kept;
    }

pub returns : goal.returns
returns c =
    let line = c.args.line.now in
    let all = ended c.loop-word.yielded _ c.loop-word.yielded_by _ _ c.in-None.is c.next.ensures.steps
    (YieldsList-at c.into_iter-word-iterator.ensures.into_iter_gives (YieldsList-from_take 9
    (YieldsList-at c.take-word-items.ensures.source
    (YieldsList-from_slice_split _ (λ b. b == 32) line c.split.ensures.rest c.split.ensures.done c.split.ensures.closure (λ x b q k. search (rules, tests))))
    c.take-word-items.ensures.count)) in
    c.line_of_words.ensures ∙ ap (λ ws. line_of_words (map (λ w. w.now) ws)) c.loop-word.invariant.kept ∙ ap line_of_words all.0
    ∙ front_decides (words line)
