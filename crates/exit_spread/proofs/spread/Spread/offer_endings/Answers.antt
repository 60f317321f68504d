-- Ending by ending.
use Rattle.std.proofs.Common.{◌≡◌, ◌+◌, ◌*◌, ◌≤◌, None, List, [], ◌∷◌, ◌++◌, length, take, sym, ap, subst, ◌∙◌, arith}
use Rattle.std.specs.Prelude.{All}
use Rattle.std.proofs.lemmas.List.{take_all, take_more}
use Rattle.std.proofs.lemmas.List.Elements.{All-push}
use Rattle.line_lists.specs.Lists.{number_of}
use Rattle.search_problem.specs.declared.ends.Ending.{Ending}
use Rattle.exit_spread.specs.Propagating.{Adds}
use Rattle.exit_spread.specs.Searching.{IsStubOffered}
use Rattle.exit_spread.proofs.Spreading.Adding.{adds_both, offered_on}
use Rattle.exit_spread.proofs.spread.Spread.offer_endings.Goals as goal

pub loop-ending-preserved : goal.loop-ending-preserved
loop-ending-preserved c =
    let p = c.args.problem.now in
    let n = number_of c.args.lists.now in
    let old = c.args.self.now in
    let mid = c.loop-ending.self in
    let new = c.offer_ending.new.self in
    let xs = p.endings.items in
    let i = c.loop-ending.ending-index in
    let e = c.ending-item.result in
    let value = c.deref-ending-items.ensures.value in
    let before = take i xs in
    let cut : take (i + 1) xs ≡ before ++ e ∷ [] = take_more xs i e (rw value at c.loop-ending-test.true) ∙ ap (λ (k : Ending). before ++ k ∷ []) (sym (rw value at c.ending-item.is)) in
    let more = c.in_ok-offer_ending.ensures.adds in
    let still : All (IsStubOffered p n new None) before = λ k d lt h. offered_on p n mid new 4 more None _ _ (c.loop-ending.invariant.offered k d lt h) in
    let both = adds_both p n old mid new (4 * i) 4 c.loop-ending.invariant.adds more in
    record {
      rows = c.in_ok-offer_ending.ensures.rows ∙ c.loop-ending.invariant.rows;
      adds = subst (Adds p n old new) (omega arith) both;
      offered = subst (All (IsStubOffered p n new None)) (sym cut) (All-push (IsStubOffered p n new None) before e still c.in_ok-offer_ending.ensures.offered);
    }

pub returns-clause-offered : goal.returns-clause-offered
returns-clause-offered c =
    let p = c.args.problem.now in
    let all = subst (λ (xs : List Ending). length xs ≤ c.loop-ending.ending-index) c.deref-ending-items.ensures.value c.loop-ending-test.false in
    subst (All (IsStubOffered p (number_of c.args.lists.now) c.loop-ending.self None)) (take_all c.loop-ending.ending-index p.endings.items all) c.loop-ending.invariant.offered
