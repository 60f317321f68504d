-- The line stands last of those that it does not stand before.
use Rattle.std.proofs.Common.{◌≡◌, ◌≢◌, ◌≤◌, ◌+◌, true, false, length, sym, subst}
use Rattle.std.specs.Prelude.{Contains, ◌↔◌}
use Rattle.std.specs.List.Sorted.{IsPartitionPoint}
use Rattle.std.proofs.lemmas.List.Quantifiers.{all_pairs_remove}
use Rattle.line_arena.specs.Order.{AreOrderedWithIds}
use Rattle.plane_geom.specs.Order.{stands_before}
use Rattle.line_arena.proofs.LineOrder.InOrder.{inside, last_upto, left_out}
use Rattle.line_arena.proofs.order.take_out.Goals as goal
use Rattle.line_arena.proofs.order.take_out.Goals.{After-remove}

at : (c : After-remove) → c.requires.there.1.0 + 1 ≡ c.count_upto-place.result
at c =
    let line = c.args.line.now in
    let p = c.count_upto-place.result in
    let point = subst (λ ls. IsPartitionPoint (λ e. stands_before line e.0 ≡ false) (λ e. stands_before line e.0 ≡ true) ls p) c.as_slice.ensures.value c.count_upto-place.ensures.point in
    let bound = subst (λ ls. p ≤ length ls) c.as_slice.ensures.value c.count_upto-place.ensures.bound in
    last_upto c.args.lines.now.items c.requires.ordered line p bound point.0 point.1 c.requires.there.0 c.requires.there.1

pub returns-clause-ordered : goal.returns-clause-ordered
returns-clause-ordered c =
    let lines = c.args.lines.now.items in
    let there = c.requires.there in
    subst AreOrderedWithIds (sym c.remove.ensures.items)
    (all_pairs_remove (λ d e. stands_before d.0 e.0 ≡ true) lines _ (inside lines c.requires.ordered c.args.line.now there.0 there.1 c.count_upto-place.result (at c)) c.requires.ordered)

pub returns-clause-left : goal.returns-clause-left
returns-clause-left c = λ e.
    let lines = c.args.lines.now.items in
    let there = c.requires.there in
    subst (λ ls. Contains ls e ↔ (Contains lines e × (e.0 ≢ c.args.line.now))) (sym c.remove.ensures.items)
    (left_out lines c.requires.ordered c.args.line.now there.0 there.1 c.count_upto-place.result (at c) e)
