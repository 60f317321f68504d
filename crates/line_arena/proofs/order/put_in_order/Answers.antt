-- The new line goes after all that it does not come before.
use Rattle.std.proofs.Common.{◌≡◌, ◌⊎◌, ◌≤◌, true, false, length, sym, subst}
use Rattle.std.specs.Prelude.{Contains, ◌↔◌}
use Rattle.std.specs.List.{insert}
use Rattle.std.specs.List.Sorted.{IsPartitionPoint}
use Rattle.line_arena.specs.Order.{AreOrderedWithIds}
use Rattle.plane_geom.specs.Order.{stands_before}
use Rattle.line_arena.proofs.LineOrder.InOrder.{in_order_put, succeeded, there_put}
use Rattle.line_arena.proofs.order.put_in_order.Goals as goal
use Rattle.line_arena.proofs.order.put_in_order.Goals.{After-insert}

point : (c : After-insert) → IsPartitionPoint (λ e. stands_before c.args.line e.0 ≡ false) (λ e. stands_before c.args.line e.0 ≡ true) c.args.lines.now.items c.count_upto-place.result
point c = subst (λ ls. IsPartitionPoint (λ e. stands_before c.args.line e.0 ≡ false) (λ e. stands_before c.args.line e.0 ≡ true) ls c.count_upto-place.result) c.as_slice.ensures.value c.count_upto-place.ensures.point

bound : (c : After-insert) → c.count_upto-place.result ≤ length c.args.lines.now.items
bound c = subst (λ ls. c.count_upto-place.result ≤ length ls) c.as_slice.ensures.value c.count_upto-place.ensures.bound

items : (c : After-insert) → c.insert.new.self.items ≡ insert c.args.lines.now.items c.count_upto-place.result (c.args.line, c.args.id)
items c = succeeded c.insert.result _ _ _ (c.insert.ensures.succeeds c.requires.room) c.insert.ensures.items

pub returns-clause-ordered : goal.returns-clause-ordered
returns-clause-ordered c =
    subst AreOrderedWithIds (sym (items c))
    (in_order_put c.args.lines.now.items c.requires.ordered c.args.line c.count_upto-place.result (bound c) (point c).0 (point c).1 c.args.id c.requires.place)

pub returns-clause-there : goal.returns-clause-there
returns-clause-there c = λ e.
    subst (λ ls. Contains ls e ↔ ((e ≡ (c.args.line, c.args.id)) ⊎ Contains c.args.lines.now.items e)) (sym (items c))
    (there_put c.args.lines.now.items c.requires.ordered c.args.line c.count_upto-place.result (bound c) (point c).0 (point c).1 c.args.id e)
