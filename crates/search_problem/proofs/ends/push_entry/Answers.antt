-- One entry more, or none for a choice that has none.
use Rattle.std.proofs.Common.{◌+◌, List, subst, sym, refl}
use Rattle.search_problem.specs.Ends.{AreEntries}
use Rattle.search_problem.specs.declared.ends.Entry.{Entry}
use Rattle.search_problem.proofs.Choices.{entries_more, entries_none}
use Rattle.search_problem.proofs.ends.push_entry.Goals as goal

pub returns-in_ok-push : goal.returns-in_ok-push
returns-in_ok-push c =
    let more = entries_more c.args.sorted.now.solids.items c.args.arena.now c.args.task.now c.args.number c.args.entries.now.items c.requires.entries c.args.start c.requires.number
    c.in-Some.entry c.in-Some.ensures.number c.in-Some.ensures.entry in
    subst (λ (es : List Entry). AreEntries c.args.sorted.now.solids.items c.args.arena.now c.args.task.now (c.args.number + 1) es) (sym c.in_ok-push.ensures.items) more

pub returns-in_default : goal.returns-in_default
returns-in_default c =
    entries_none c.args.sorted.now.solids.items c.args.arena.now c.args.task.now c.args.number c.args.entries.now.items c.requires.entries c.args.start c.requires.number
    (c.in_default.ensures.none refl)
