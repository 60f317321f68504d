-- The scene at the end is valid, and its lines are nudged.
use Rattle.form_route.proofs.OneOutput.{ends_valid}
use Rattle.form_route.proofs.laws.written_lines_are_legal_and_apart.Goals as goal

pub returns-clause-legal : goal.returns-clause-legal
returns-clause-legal c = λ tree s commands count text refused searched unrouted valid directed r.
    c.nudged_scenes_are_legal_and_apart.ensures.legal _ r.answers r.lines
    (ends_valid s commands c.scenes_stay_valid.ensures valid directed) r.are_lines.right r.are_lines.nudged

pub returns-clause-apart : goal.returns-clause-apart
returns-clause-apart c = λ tree s commands count text refused searched unrouted valid directed r.
    c.nudged_scenes_are_legal_and_apart.ensures.apart _ r.answers r.lines
    (ends_valid s commands c.scenes_stay_valid.ensures valid directed) r.are_lines.right r.are_lines.nudged
