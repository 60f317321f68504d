-- Line by line.
use Rattle.std.proofs.Common.{◌≡◌, ◌+◌, ◌==◌, [], ◌++◌, Some, None, length, sym, ap, ◌∙◌, rules, tests}
use Rattle.std.proofs.lemmas.List.{append-nil}
use Rattle.std.proofs.lemmas.Iterator.Consumers.{YieldsList-at, YieldsList-from_enumerate}
use Rattle.std.proofs.lemmas.Iterator.Splits.{YieldsList-from_slice_split}
use Rattle.edit_script.specs.Script.{words, command_of, numbered}
use Rattle.edit_script.proofs.Chains.{turn, ended}
use Rattle.edit_script.proofs.Lines.{next_line, last_line}
use Rattle.edit_script.proofs.script.commands.Goals as goal

pub loop-index-preserved-in-Continue-1 : goal.loop-index-preserved-in-Continue-1
loop-index-preserved-in-Continue-1 c =
    let bytes = c.args.bytes.now in
    let found = turn c.loop-index.yielded _ c.loop-index.yielded_by _ _ (c.in-Some.index, c.in-Some.line) c.in-Some.is c.next.ensures.steps (YieldsList-at c.into_iter-index-iterator.ensures.into_iter_gives (YieldsList-from_enumerate (YieldsList-at c.enumerate-index-items.ensures.source (YieldsList-from_slice_split _ (λ b. b == 10) bytes c.split.ensures.rest c.split.ensures.done c.split.ensures.closure (λ x b q k. search (rules, tests)))) c.enumerate-index-items.ensures.count)) in
    let one : Some c.in-Some-command_in.command ≡ command_of (words c.in-Some.line.now) = sym c.in-Some-command_in.is ∙ c.command_in.ensures in
    let grown = c.in_ok-push.ensures.items ∙ ap (λ o. c.loop-index.list.items ++ numbered (c.in-Some.index + 1) o []) one in
    next_line bytes c.loop-index.list.items _ c.loop-index.yielded _ c.in-Some.index c.in-Some.line.now found.0 found.1 grown c.loop-index.invariant

pub loop-index-preserved : goal.loop-index-preserved
loop-index-preserved c =
    let bytes = c.args.bytes.now in
    let found = turn c.loop-index.yielded _ c.loop-index.yielded_by _ _ (c.in-Some.index, c.in-Some.line) c.in-Some.is c.next.ensures.steps (YieldsList-at c.into_iter-index-iterator.ensures.into_iter_gives (YieldsList-from_enumerate (YieldsList-at c.enumerate-index-items.ensures.source (YieldsList-from_slice_split _ (λ b. b == 10) bytes c.split.ensures.rest c.split.ensures.done c.split.ensures.closure (λ x b q k. search (rules, tests)))) c.enumerate-index-items.ensures.count)) in
    let none : None ≡ command_of (words c.in-Some.line.now) = sym c.in_default.is ∙ c.command_in.ensures in
    let same = sym (append-nil c.loop-index.list.items) ∙ ap (λ o. c.loop-index.list.items ++ numbered (c.in-Some.index + 1) o []) none in
    next_line bytes c.loop-index.list.items _ c.loop-index.yielded _ c.in-Some.index c.in-Some.line.now found.0 found.1 same c.loop-index.invariant

pub returns : goal.returns
returns c =
    let bytes = c.args.bytes.now in
    let all = ended c.loop-index.yielded _ c.loop-index.yielded_by _ _ c.in-None.is c.next.ensures.steps (YieldsList-at c.into_iter-index-iterator.ensures.into_iter_gives (YieldsList-from_enumerate (YieldsList-at c.enumerate-index-items.ensures.source (YieldsList-from_slice_split _ (λ b. b == 10) bytes c.split.ensures.rest c.split.ensures.done c.split.ensures.closure (λ x b q k. search (rules, tests)))) c.enumerate-index-items.ensures.count)) in
    last_line bytes c.loop-index.list.items (length c.loop-index.yielded) all.1 c.loop-index.invariant
