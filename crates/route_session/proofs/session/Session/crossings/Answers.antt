-- The nudged lines have few points, and so few runs.
use Rattle.std.proofs.Common.{List, ◌<◌, ◌≤◌, ◌^◌, length, sym, subst, arith}
use Rattle.std.specs.Prelude.{All}
use Rattle.walk_model.specs.declared.route.WrittenRoute.{WrittenRoute}
use Rattle.scene_model.specs.Valid.{IsValid}
use Rattle.scene_model.specs.Answers.{AreAnswers}
use Rattle.shared_paths.specs.Listed.{runs_in}
use Rattle.nudge_phases.specs.Nudged.{HasFewPoints}
use Rattle.nudge_phases.specs.Raw.{routed}
use Rattle.route_session.specs.Shares.{line_runs}
use Rattle.route_session.proofs.FewRuns.{each_line_few, few_lines}
use Rattle.route_session.proofs.session.Session.crossings.Goals as goal

pub line_crossings-requires-clause-each : goal.line_crossings-requires-clause-each
line_crossings-requires-clause-each c =
    let session = c.args.self.now in
    let n = c.in_ok-nudged.nudged in
    let valid : IsValid session.world.present = subst IsValid c.scene.ensures.scene c.valid.ensures in
    let right : AreAnswers session.world.present session.book = subst (λ s. AreAnswers s session.book) c.scene.ensures.scene c.scene.ensures.right in
    let few : HasFewPoints session.book n.routes.items = c.nudged_lines_are_short.ensures session.world.present session.book n.routes.items valid right c.in_ok-nudged.ensures.nudged in
    subst (All (λ (l : WrittenRoute). length l.points ≤ 2 ^ 32)) (sym c.deref.ensures.value) (each_line_few (routed session.book) n.routes.items few.routes few.short)

pub line_crossings-requires-clause-few : goal.line_crossings-requires-clause-few
line_crossings-requires-clause-few c =
    let session = c.args.self.now in
    let n = c.in_ok-nudged.nudged in
    let valid : IsValid session.world.present = subst IsValid c.scene.ensures.scene c.valid.ensures in
    let right : AreAnswers session.world.present session.book = subst (λ s. AreAnswers s session.book) c.scene.ensures.scene c.scene.ensures.right in
    let few : HasFewPoints session.book n.routes.items = c.nudged_lines_are_short.ensures session.world.present session.book n.routes.items valid right c.in_ok-nudged.ensures.nudged in
    let all = few_lines (routed session.book) n.routes.items few.routes few.short in
    let count = few.count in
    subst (λ (ls : List WrittenRoute). length (runs_in (line_runs ls)) < 2 ^ 32) (sym c.deref.ensures.value) (omega (arith, all, count))
