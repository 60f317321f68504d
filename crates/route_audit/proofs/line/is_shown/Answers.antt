-- By the line, where a cost is claimed.
use Rattle.std.proofs.Common.{sym, subst, IsTrue}
use Rattle.proof_model.specs.Rules.{IsLineOf, IsShown}
use Rattle.route_audit.proofs.line.is_shown.Goals as goal

pub returns-in-Cost : goal.returns-in-Cost
returns-in-Cost c = λ floor solids.
    let r = c.is_line_of.result in
    let task = c.args.task.now in
    subst (λ k. (IsTrue r → IsShown floor task k) × (IsShown floor task k → IsTrue r)) (sym c.in-Cost.is)
    (subst (λ ps. (IsTrue r → IsLineOf floor task ps c.in-Cost.cost) × (IsLineOf floor task ps c.in-Cost.cost →
    IsTrue r)) c.as_slice.ensures (c.is_line_of.ensures floor solids))
