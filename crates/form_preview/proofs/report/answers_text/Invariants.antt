-- What is written so far, and the answers that are left, give the whole.
use Rattle.std.proofs.Common.{◌≡◌, ◌+◌, ◌++◌, drop}
use Rattle.form_preview.specs.Proposes.{lines_from}
use Rattle.form_preview.proofs.report.answers_text.Given as goal

abbrev pub invariant-loop-index : goal.invariant-loop-index
invariant-loop-index l = l.text.items ++ lines_from (l.index + 1) (drop l.index l.answers) ≡ lines_from 1 l.answers
