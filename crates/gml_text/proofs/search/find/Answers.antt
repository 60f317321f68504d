-- The first pair with the key, one pair after another.
use Rattle.std.proofs.Common.{Some, sym, ap, ◌∙◌, inl, inr, arith, below_more}
use Rattle.std.proofs.lemmas.Bool.{false≢true, cases_lt}
use Rattle.std.proofs.lemmas.Option.{none-some, same_Some}
use Rattle.std.proofs.lemmas.Slice.Eq.{bytes_eq-Decides}
use Rattle.gml_text.proofs.Views.{keys_at, keys_past}
use Rattle.gml_text.proofs.search.find.Goals as goal

pub returns-then-eq-clause-found : goal.returns-then-eq-clause-found
returns-then-eq-clause-found c =
    keys_at c.args.list.now c.loop-index.index c.index-list-index.result c.loop-index-test.true c.index-list-index.is
    ∙ ap Some (sym c.as_slice.ensures ∙ (bytes_eq-Decides c.as_slice.result.now c.args.key.now).0 (sym c.eq.ensures ∙ c.if-eq.true))

pub loop-index-preserved : goal.loop-index-preserved
loop-index-preserved c =
    below_more _ _ c.loop-index.invariant
    (λ e.
    let here = keys_at c.args.list.now c.loop-index.index c.index-list-index.result c.loop-index-test.true c.index-list-index.is in
    let same = same_Some c.index-list-index.result.key c.args.key.now (sym here ∙ e) in
    false≢true (sym c.if-eq.false ∙ (c.eq.ensures ∙ (bytes_eq-Decides c.as_slice.result.now c.args.key.now).1 (c.as_slice.ensures ∙ same))))

pub returns-clause-none : goal.returns-clause-none
returns-clause-none c k e =
    elim (cases_lt k c.loop-index.index) [
      | inl below ↦ c.loop-index.invariant k below e
      | inr past ↦ none-some c.args.key.now (sym (keys_past c.args.list.now k (omega arith)) ∙ e)
    ]
