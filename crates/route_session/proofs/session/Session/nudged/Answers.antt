-- The clauses of `nudge` hold for the present scene and its book.
use Rattle.std.proofs.Common.{IfOk, ap, subst₂, ◌∙◌}
use Rattle.nudge_phases.specs.Apart.{KeepsApart}
use Rattle.nudge_phases.specs.Nudged.{IsNudgedScene}
use Rattle.session_model.specs.State.{State}
use Rattle.route_session.proofs.session.Session.nudged.Goals as goal

pub returns-clause-apart : goal.returns-clause-apart
returns-clause-apart c =
    subst₂ (λ s answers. IfOk c.nudge.result (λ n. (p : IsNudgedScene s answers n.routes.items) → KeepsApart p.nudged.x × KeepsApart p.nudged.y))
    (ap (λ (v : State). v.world.present) c.self.view_is) (c.answers.ensures ∙ ap (λ (v : State). v.book) c.self.view_is) c.nudge.ensures.apart
