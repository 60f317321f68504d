-- One ending more.
use Rattle.std.proofs.Common.{◌≡◌, ◌<◌, Some, List, fold, take, length, get_or, rules, sym, ap, subst, ◌∙◌}
use Rattle.std.proofs.lemmas.Bool.{false≢true}
use Rattle.std.proofs.lemmas.Bool.Decides.{Decides-eqb}
use Rattle.std.proofs.lemmas.List.Sums.{fold_more}
use Rattle.move_model.specs.declared.ahead.Ahead.{Ahead}
use Rattle.search_problem.specs.declared.ends.Ending.{Ending}
use Rattle.line_lists.specs.Lists.{number_of}
use Rattle.exit_rows.specs.Exits.{lesser}
use Rattle.exit_spread.specs.Known.{by_ending, known_onwards}
use Rattle.exit_spread.proofs.Known.ByEndings.{ends_elsewhere, ends_here, none_ends}
use Rattle.exit_spread.proofs.spread.Spread.ahead_of.Goals as goal
use Rattle.exit_spread.proofs.spread.Spread.ahead_of.Goals.{then-eq, else-eq}

pub returns-then-place-as_slice : goal.returns-then-place-as_slice
returns-then-place-as_slice c at here =
    let p = c.args.problem.now in
    let x = c.args.place.now in
    c.ahead_onwards-least.ensures at here
    ∙ sym (none_ends p x p.endings.items (known_onwards p (number_of c.args.lists.now) c.args.self.now x at) (λ last. search rules))

pub loop-ending-preserved : goal.loop-ending-preserved
loop-ending-preserved c at here =
    let p = c.args.problem.now in
    let x = c.args.place.now in
    let i = c.loop-ending.ending-index in
    let ending = c.ending-item.result in
    let least = c.loop-ending.least in
    let value = c.deref-ending-items.ensures.value in
    let item : ending ≡ get_or p.endings.items i ending = subst (λ (xs : List Ending). ending ≡ get_or xs i ending) value c.ending-item.is in
    let within : i < length p.endings.items = subst (λ (xs : List Ending). i < length xs) value c.loop-ending-test.true in
    let step : c.if-eq.least ≡ lesser least (by_ending p x ending) =
    elim c.if-eq.branch as (λ _. c.if-eq.least ≡ lesser least (by_ending p x ending)) [
      | then-eq w ↦ w.least-is ∙ w.lesser-least.ensures
          ∙ ap (lesser least) (ap (λ (v : Ahead). Some v) w.ahead_by.ensures ∙ sym (ends_here p x ending (search rules) (search rules)))
      | else-eq w ↦ w.least-is ∙ sym (ends_elsewhere p x ending least (λ same. false≢true (sym w.if-eq.false ∙ c.eq.ensures ∙ (Decides-eqb ending.crossing x.crossing).1 same)))
    ] in
    step
    ∙ ap (λ v. lesser v (by_ending p x ending)) (c.loop-ending.invariant at here)
    ∙ ap (λ (e : Ending). lesser (fold (λ least e. lesser least (by_ending p x e)) (known_onwards p (number_of c.args.lists.now) c.args.self.now x at) (take i p.endings.items)) (by_ending p x e)) item
    ∙ sym (fold_more (λ least e. lesser least (by_ending p x e)) (known_onwards p (number_of c.args.lists.now) c.args.self.now x at) p.endings.items i ending within)
