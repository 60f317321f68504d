-- What was read so far, and the commands that are left, give the whole.
use Rattle.std.proofs.Common.{◌≡◌, drop}
use Rattle.form_preview.specs.Blocks.{blocks_from}
use Rattle.form_preview.specs.Reading.{read_by}
use Rattle.form_preview.proofs.blocks.Reader.read_all.Given as goal

abbrev pub invariant-loop-line : goal.invariant-loop-line
invariant-loop-line l = blocks_from (drop l.line-index l.commands) (read_by l.self) ≡ blocks_from l.fn.commands (read_by l.fn.self)
