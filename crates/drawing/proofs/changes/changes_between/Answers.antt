-- Each step finds what it passes; at the end, all is found.
use Rattle.std.proofs.Common.{rules, [], sym, ◌∙◌}
use Rattle.drawing.proofs.Places.{all_passed, none_passed, pass_both, pass_gone, pass_new}
use Rattle.drawing.proofs.changes.changes_between.Goals as goal

pub loop-at-init : goal.loop-at-init
loop-at-init c = none_passed c.args.reported.now c.args.lines.now c.new-changed.result.items c.new-gone.result.items c.new-changed.ensures.items c.new-gone.ensures.items

pub loop-at-preserved-in-Less : goal.loop-at-preserved-in-Less
loop-at-preserved-in-Less c =
    pass_gone c.args.reported.now c.args.lines.now c.requires.reported c.requires.lines c.loop-at.at c.loop-at.place c.index-reported-at.result c.index-reported-at.result
    c.loop-at.changed.items c.loop-at.gone.items c.push.new.self.items (sym c.next.ensures.order ∙ c.in-Less.is) (search rules) c.loop-at.invariant

pub loop-at-preserved-in-Equal : goal.loop-at-preserved-in-Equal
loop-at-preserved-in-Equal c =
    pass_both c.args.reported.now c.args.lines.now c.requires.reported c.requires.lines c.loop-at.at c.loop-at.place c.index-reported-at-in-Equal.result c.index-lines-place.result
    c.loop-at.changed.items c.push-in-Equal.new.self.items c.loop-at.gone.items (sym c.next.ensures.order ∙ c.in-Equal.is) (search rules) c.loop-at.invariant

pub loop-at-preserved : goal.loop-at-preserved
loop-at-preserved c =
    pass_new c.args.reported.now c.args.lines.now c.requires.reported c.requires.lines c.loop-at.at c.loop-at.place (record { edge = 0; points = [] }) (record { edge = 0; points = [] })
    c.loop-at.changed.items c.push-in-Greater.new.self.items c.loop-at.gone.items (sym c.next.ensures.order ∙ c.in-Greater.is) (c.next.ensures.greater c.in-Greater.is) (search rules) c.loop-at.invariant

pub returns-clause-changed : goal.returns-clause-changed
returns-clause-changed c = (all_passed c.args.reported.now c.args.lines.now c.loop-at.at c.loop-at.place c.loop-at.changed.items c.loop-at.gone.items (search rules) (search rules) c.loop-at.invariant).0

pub returns-clause-gone : goal.returns-clause-gone
returns-clause-gone c = (all_passed c.args.reported.now c.args.lines.now c.loop-at.at c.loop-at.place c.loop-at.changed.items c.loop-at.gone.items (search rules) (search rules) c.loop-at.invariant).1
