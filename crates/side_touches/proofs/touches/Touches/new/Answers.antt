-- The rows of the lines give what touches them.
use Rattle.side_touches.proofs.Pieces.{all_counted, all_in_order, all_touches}
use Rattle.side_touches.proofs.touches.Touches.new.Goals as goal

pub invariant_of-result : goal.invariant_of-result
invariant_of-result c = all_in_order c.args.solids.now c.args.lines.now c.push_lines.new.extents.items c.push_lines.new.rows.items c.in_ok-push_lines.ensures

pub returns-clause-touches : goal.returns-clause-touches
returns-clause-touches c = all_touches c.args.solids.now c.args.lines.now c.push_lines.new.extents.items c.push_lines.new.rows.items c.in_ok-push_lines.ensures

pub returns-clause-count : goal.returns-clause-count
returns-clause-count c = all_counted c.args.solids.now c.args.lines.now c.push_lines.new.extents.items c.push_lines.new.rows.items c.in_ok-push_lines.ensures
