-- Where a line is bad.
use Rattle.std.proofs.Common.{None, Some, sym, ap, ◌∙◌}
use Rattle.std.specs.Prelude.{option_and_then, if◌then◌else◌}
use Rattle.proof_text.specs.Reading.{State, with_line}
use Rattle.proof_text.specs.Reading.IsStuck.{bad_line}
use Rattle.proof_text.proofs.reader.Reader.take_line.Goals as goal

pub returns-in_default-line_of-clause-stuck : goal.returns-in_default-line_of-clause-stuck
returns-in_default-line_of-clause-stuck c =
    let s : State = (c.args.self.now.done.items, c.args.self.now.last) in
    λ _. bad_line c.in-Some.line.now c.in-Some.after.now c.in-Some.ensures
    (ap (option_and_then (with_line s)) (sym c.line_of.ensures ∙ c.in_default-line_of.is))

pub returns-else-branch-clause-stuck : goal.returns-else-branch-clause-stuck
returns-else-branch-clause-stuck c =
    let s : State = (c.args.self.now.done.items, c.args.self.now.last) in
    let t : State = (c.add.new.self.done.items, c.add.new.self.last) in
    λ _. bad_line c.in-Some.line.now c.in-Some.after.now c.in-Some.ensures
    (ap (option_and_then (with_line s)) (sym c.in-Some-line_of.ensures) ∙ c.in_ok-add.ensures ∙ ap (λ b. if b then Some t else None) c.if-branch.false)
