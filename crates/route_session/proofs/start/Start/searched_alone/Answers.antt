-- The searches of a start are those of the connectors, which are few.
use Rattle.std.proofs.Common.{◌≡◌, IfOk, length, ap, subst, ◌∙◌}
use Rattle.line_arena.specs.Count.{counted_by}
use Rattle.scene_model.specs.Scene.{connectors}
use Rattle.route_session.proofs.Upholding.{few_counted}
use Rattle.route_session.proofs.start.Start.searched_alone.Goals as goal

pub returns-clause-searched : goal.returns-clause-searched
returns-clause-searched c =
    subst (λ n. IfOk c.with.result (λ s. s.tally ≡ n))
    (c.in_ok-book.ensures.tally ∙ ap (counted_by (length (connectors c.args.scene.now))) c.new-tally.ensures ∙ few_counted c.args.scene.now c.valid.ensures)
    c.with.ensures.tally
