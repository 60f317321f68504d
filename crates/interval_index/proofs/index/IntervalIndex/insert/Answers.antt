-- The span goes into the tree and into the table by keys, and the two agree again.
use Rattle.std.proofs.Common.{◌≡◌, ◌<◌, ◌^◌, false, refl, ◌∙◌, rules}
use Rattle.interval_index.specs.Order.{inserted}
use Rattle.interval_index.specs.Index.{IsSpan, has_key}
use Rattle.interval_index.proofs.Listed.{few_spans}
use Rattle.interval_index.proofs.Keyed.{index_inserted}
use Rattle.interval_index.proofs.index.IntervalIndex.insert.Goals as goal

pub insert-requires-2-clause-fits : goal.insert-requires-2-clause-fits
insert-requires-2-clause-fits c = rw c.replace-tree.ensures.value (few_spans c.self.inside.tree.0 c.self.invariant.listed)

pub invariant_of-self-2 : goal.invariant_of-self-2
invariant_of-self-2 c =
    let node_is = (c.in_ok-node.ensures {u = tt}).ok in
    let is : c.insert-2.result.0 ≡ inserted c.args.span c.self.inside.tree.0 = c.insert-2.ensures.spans ∙ rw (node_is, c.new.ensures, c.replace-tree.ensures.value) refl in
    let new : has_key c.args.span.key c.self.inside.tree.0 ≡ false = rw c.self.view_is c.requires.new_key in
    let fits : c.args.span.key < 2 ^ 32 = search rules in
    let span : IsSpan c.args.span = record { key = fits; lo = c.requires.lo_within; hi = c.requires.hi_within; not_empty = c.requires.not_empty } in
    rw is (index_inserted c.args.span c.self.inside.tree.0 c.self.inside.by_key c.insert.new.self new span c.self.invariant (λ q. (c.in_ok-insert.ensures {u = tt}).updates.0 q))
