-- The first test that fails, with those before it.
use Rattle.std.proofs.Common.{◌≡◌, All, true, false, length, sym, subst, refl}
use Rattle.search_problem.specs.Ends.{AreEndings, AreEntries}
use Rattle.proof_model.specs.Rules.{by_endings, by_entries, by_moves}
use Rattle.route_audit.specs.Ends.{IsEndingIn, IsEntryFound, IsEntryIn, MayEndAt}
use Rattle.route_audit.proofs.MovesByRow.{small_labels}
use Rattle.route_audit.proofs.RowsIn.{endings_in, entries_in}
use Rattle.route_audit.proofs.task.broken_by_labels.Goals as goal

never : {A : Type 0} → false ≡ true → A
never e = absurd (cc)

pub are_entries_found-requires-clause-entries : goal.are_entries_found-requires-clause-entries
are_entries_found-requires-clause-entries c =
    let p = c.args.problem.now in
    subst (All (IsEntryIn p.arena.now (length p.task.now.via))) (sym c.deref.ensures.value) (entries_in p c.requires.ready)

pub returns-then-not-are_entries_found : goal.returns-then-not-are_entries_found
returns-then-not-are_entries_found c = λ floor problem shown.
    let p = c.args.problem.now in
    let a = p.arena.now in
    let task = p.task.now in
    let claim = c.args.claim.now in
    let rows = c.args.labels.now.rows.now in
    let are_entries = subst (λ s. AreEntries s a task (length task.starts) p.entries.items) (sym problem.same_solids) c.requires.ready.entries in
    let by_list = c.rules_by_lists.ensures.entries floor a task claim rows p.entries.items c.requires.ready.arena problem.stands are_entries in
    by_entries (c.requires.rows floor problem) shown
    (λ found. never (c.if-not-are_entries_found.ensures.1 (subst (All (IsEntryFound claim rows)) (sym c.deref.ensures.value) (by_list.1 found)))) refl

pub returns-then-not-are_moves_found : goal.returns-then-not-are_moves_found
returns-then-not-are_moves_found c = λ floor problem shown.
    let p = c.args.problem.now in
    let a = p.arena.now in
    let task = p.task.now in
    let claim = c.args.claim.now in
    let rows = c.args.labels.now.rows.now in
    let are_entries = subst (λ s. AreEntries s a task (length task.starts) p.entries.items) (sym problem.same_solids) c.requires.ready.entries in
    let by_list = c.rules_by_lists.ensures.entries floor a task claim rows p.entries.items c.requires.ready.arena problem.stands are_entries in
    let entries = by_list.0 (subst (All (IsEntryFound claim rows)) c.deref.ensures.value (c.if-not-are_entries_found.ensures.0 refl)) in
    let by_row = c.rules_by_lists.ensures.moves floor task claim rows c.requires.labels.rise in
    by_moves (c.requires.rows floor problem) shown entries (λ found. never ((c.if-not-are_moves_found.ensures floor problem).1 (by_row.1 found))) refl

pub may_all_end-requires-clause-endings : goal.may_all_end-requires-clause-endings
may_all_end-requires-clause-endings c =
    let p = c.args.problem.now in
    subst (All (IsEndingIn p.arena.now)) (sym c.deref-2.ensures.value) (endings_in p c.requires.ready)

pub may_all_end-requires-clause-small : goal.may_all_end-requires-clause-small
may_all_end-requires-clause-small c =
    let r = c.requires.ready in
    small_labels r.floor c.args.problem.now.task.now c.args.claim.now c.args.labels.now.rows.now (c.requires.rows r.floor r.problem)

pub returns-then-not-may_all_end : goal.returns-then-not-may_all_end
returns-then-not-may_all_end c = λ floor problem shown.
    let p = c.args.problem.now in
    let a = p.arena.now in
    let task = p.task.now in
    let claim = c.args.claim.now in
    let rows = c.args.labels.now.rows.now in
    let are_entries = subst (λ s. AreEntries s a task (length task.starts) p.entries.items) (sym problem.same_solids) c.requires.ready.entries in
    let by_list = c.rules_by_lists.ensures.entries floor a task claim rows p.entries.items c.requires.ready.arena problem.stands are_entries in
    let entries = by_list.0 (subst (All (IsEntryFound claim rows)) c.deref.ensures.value (c.if-not-are_entries_found.ensures.0 refl)) in
    let by_row = c.rules_by_lists.ensures.moves floor task claim rows c.requires.labels.rise in
    let moves = by_row.0 ((c.if-not-are_moves_found.ensures floor problem).0 refl) in
    let are_endings = subst (λ s. AreEndings s a task (length task.ends) p.endings.items) (sym problem.same_solids) c.requires.ready.endings in
    let by_end = c.rules_by_lists.ensures.endings floor a task claim rows p.endings.items c.requires.ready.arena problem.stands are_endings in
    by_endings (c.requires.rows floor problem) shown entries moves
    (λ may. never (c.if-not-may_all_end.ensures.1 (subst (All (MayEndAt task claim rows)) (sym c.deref-2.ensures.value) (by_end.1 may)))) refl

pub returns : goal.returns
returns c = λ floor problem shown.
    let p = c.args.problem.now in
    let a = p.arena.now in
    let task = p.task.now in
    let claim = c.args.claim.now in
    let rows = c.args.labels.now.rows.now in
    let are_entries = subst (λ s. AreEntries s a task (length task.starts) p.entries.items) (sym problem.same_solids) c.requires.ready.entries in
    let by_list = c.rules_by_lists.ensures.entries floor a task claim rows p.entries.items c.requires.ready.arena problem.stands are_entries in
    let by_row = c.rules_by_lists.ensures.moves floor task claim rows c.requires.labels.rise in
    let are_endings = subst (λ s. AreEndings s a task (length task.ends) p.endings.items) (sym problem.same_solids) c.requires.ready.endings in
    let by_end = c.rules_by_lists.ensures.endings floor a task claim rows p.endings.items c.requires.ready.arena problem.stands are_endings in
    record {
      right_rows = c.requires.rows floor problem;
      shown = shown;
      entries = by_list.0 (subst (All (IsEntryFound claim rows)) c.deref.ensures.value (c.if-not-are_entries_found.ensures.0 refl));
      moves = by_row.0 ((c.if-not-are_moves_found.ensures floor problem).0 refl);
      endings = by_end.0 (subst (All (MayEndAt task claim rows)) c.deref-2.ensures.value (c.if-not-may_all_end.ensures.0 refl));
    }
