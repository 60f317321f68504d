-- A scene has one text.
use Rattle.std.proofs.Common.{◌≡◌, ◌++◌, sym, subst, ap, ◌∙◌}
use Rattle.scene_model.specs.Answers.{HaveOneList}
use Rattle.shared_paths.specs.Listed.{AreSharedPaths, HaveOneListOfPaths}
use Rattle.shared_paths.specs.Crossings.{crossing_count}
use Rattle.report_text.specs.Shared.{crossings_line, shared_lines}
use Rattle.nudge_phases.specs.Nudged.{HaveOneNudged}
use Rattle.route_session.specs.Shares.{CountsCrossings, line_runs, raw_runs}
use Rattle.form_shared.specs.Shares.{HaveOneText}

pub comes_to_one : HaveOneList → HaveOneNudged → HaveOneListOfPaths → HaveOneText
comes_to_one one_answers one_nudged one_paths s text other valid a b =
    let same : b.answers ≡ a.answers = one_answers s b.answers a.answers b.right a.right in
    let b_paths : AreSharedPaths (raw_runs a.answers) b.paths = subst (λ as_. AreSharedPaths (raw_runs as_) b.paths) same b.are_paths in
    let b_crossed : CountsCrossings s a.answers b.crossings = subst (λ as_. CountsCrossings s as_ b.crossings) same b.crossed in
    let paths = one_paths (raw_runs a.answers) a.paths b.paths a.are_paths b_paths in
    let lines = one_nudged s a.answers a.crossed.lines b_crossed.lines valid a.right a.crossed.nudged b_crossed.nudged in
    let crossings = a.crossed.counted ∙ ap (λ ls. crossing_count (line_runs ls)) lines ∙ sym b_crossed.counted in
    a.is_text ∙ (λ i. shared_lines (paths i) ++ crossings_line (crossings i)) ∙ sym b.is_text
