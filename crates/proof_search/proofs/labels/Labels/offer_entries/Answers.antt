-- Entry by entry.
use Rattle.std.proofs.Common.{◌≡◌, ◌≤◌, ◌+◌, ◌++◌, ◌∷◌, [], None, List, length, take, sym, ap, subst, ◌∙◌}
use Rattle.std.specs.Prelude.{All}
use Rattle.std.proofs.lemmas.List.{take_all, take_more}
use Rattle.std.proofs.lemmas.List.Elements.{All-push}
use Rattle.search_problem.specs.declared.ends.Entry.{Entry}
use Rattle.proof_search.specs.Search.{IsEntryOffered}
use Rattle.proof_search.proofs.Offers.Entering.{entering}
use Rattle.proof_search.proofs.Searching.Spreading.{entries_still}
use Rattle.proof_search.proofs.labels.Labels.offer_entries.Goals as goal

pub offer-requires-clause-coming : goal.offer-requires-clause-coming
offer-requires-clause-coming c =
    let value = c.deref-entry-items.ensures.value in
    entering c.args.problem.now c.requires.ready c.args.scope c.entry-item.result
    (c.loop-entry.entry-index, rw value at c.loop-entry-test.true, sym (rw value at c.entry-item.is))

pub loop-entry-preserved : goal.loop-entry-preserved
loop-entry-preserved c =
    let p = c.args.problem.now in
    let s = c.args.scope in
    let mid = c.loop-entry.self in
    let new = c.offer.new.self in
    let xs = p.entries.items in
    let i = c.loop-entry.entry-index in
    let e = c.entry-item.result in
    let value = c.deref-entry-items.ensures.value in
    let before = take i xs in
    let cut : take (i + 1) xs ≡ before ++ e ∷ [] = take_more xs i e (rw value at c.loop-entry-test.true)
    ∙ ap (λ (k : Entry). before ++ k ∷ []) (sym (rw value at c.entry-item.is)) in
    let still : All (IsEntryOffered s new) before = entries_still s mid new c.in_ok-offer.ensures.spreads.falls before c.loop-entry.invariant.1 in (
      c.in_ok-offer.ensures.searching None c.loop-entry.invariant.0,
      subst (All (IsEntryOffered s new)) (sym cut) (All-push (IsEntryOffered s new) before e still c.in_ok-offer.ensures.offered),
    )

pub returns-clause-offered : goal.returns-clause-offered
returns-clause-offered c =
    let all = subst (λ (xs : List Entry). length xs ≤ c.loop-entry.entry-index) c.deref-entry-items.ensures.value c.loop-entry-test.false in
    subst (All (IsEntryOffered c.args.scope c.loop-entry.self)) (take_all c.loop-entry.entry-index c.args.problem.now.entries.items all)
    c.loop-entry.invariant.1
