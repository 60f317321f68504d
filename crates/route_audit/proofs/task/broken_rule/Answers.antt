-- The first test that fails, with those before it.
use Rattle.std.proofs.Common.{◌≡◌, Ok, true, false, length, sym, ap, subst, refl, ◌∙◌}
use Rattle.proof_model.specs.Rules.{by_line, by_rows}
use Rattle.route_audit.specs.Index.{AreIndexed}
use Rattle.route_audit.proofs.task.broken_rule.Goals as goal

never : {A : Type 0} → false ≡ true → A
never e = absurd (cc)

pub returns-then-not-branch : goal.returns-then-not-branch
returns-then-not-branch c = λ floor problem.
    let long = ap length (sym c.as_slice-last.ensures) in
    by_rows (λ are. never (sym c.if-not-branch.true ∙ (c.in_ok-put_rows.ensures.good floor c.args.problem.now.task.now problem.stands long).1 are)) refl

pub returns-then-not-is_shown : goal.returns-then-not-is_shown
returns-then-not-is_shown c = λ floor problem.
    let long = ap length (sym c.as_slice-last.ensures) in
    by_line ((c.in_ok-put_rows.ensures.good floor c.args.problem.now.task.now problem.stands long).0 c.if-not-branch.false)
    (λ shown. never ((c.if-not-is_shown.ensures floor problem.same_solids).1 shown)) refl

pub broken_by_labels-requires-clause-labels : goal.broken_by_labels-requires-clause-labels
broken_by_labels-requires-clause-labels c =
    let p = c.args.problem.now in
    let rows = c.args.rows.now in
    let long = ap length (sym c.as_slice-last.ensures) in
    record {
      rise = ((c.in_ok-put_rows.ensures.good c.requires.floor p.task.now c.requires.problem.stands long).0 c.if-not-branch.false).rise;
      indexed = subst (λ n. AreIndexed p.arena.now n rows (length rows) c.put_rows.new.index) (sym long) (c.in_ok-put_rows.ensures.indexed
          (ap Ok c.if-not-branch.false));
    }

pub broken_by_labels-requires-clause-rows : goal.broken_by_labels-requires-clause-rows
broken_by_labels-requires-clause-rows c = λ floor problem.
    let long = ap length (sym c.as_slice-last.ensures) in
    (c.in_ok-put_rows.ensures.good floor c.args.problem.now.task.now problem.stands long).0 c.if-not-branch.false

pub returns : goal.returns
returns c = λ floor problem. c.broken_by_labels.ensures floor problem ((c.if-not-is_shown.ensures floor problem.same_solids).0 refl)
