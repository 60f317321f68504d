-- Entry by entry.
use Rattle.std.proofs.Common.{◌≡◌, ◌<◌, ◌≤◌, List, length, get_or, subst}
use Rattle.search_problem.specs.declared.ends.Entry.{Entry}
use Rattle.route_search.specs.Known.{known_of}
use Rattle.route_search.proofs.Ahead.LeastEntries.{least_more, none_found}
use Rattle.route_search.proofs.follow.Follower.first_entry.Goals as goal

pub loop-entry-preserved : goal.loop-entry-preserved
loop-entry-preserved c =
    let value = c.deref-entry-items.ensures.value in
    let entry = c.entry-item.result in
    least_more (known_of c.args.self.now) c.args.self.now.problem.now.entries.items c.loop-entry.entry-index entry c.loop-entry.best c.better-best.result
    (subst (λ (xs : List Entry). c.loop-entry.entry-index < length xs) value c.loop-entry-test.true)
    (subst (λ (xs : List Entry). entry ≡ get_or xs c.loop-entry.entry-index entry) value c.entry-item.is)
    c.requires.knowing.ready.entries.ordered
    c.better-best.ensures
    c.loop-entry.invariant

pub returns-clause-none : goal.returns-clause-none
returns-clause-none c =
    none_found (known_of c.args.self.now) c.args.self.now.problem.now.entries.items c.loop-entry.entry-index c.loop-entry.best
    (subst (λ (xs : List Entry). length xs ≤ c.loop-entry.entry-index) c.deref-entry-items.ensures.value c.loop-entry-test.false)
    c.loop-entry.invariant
