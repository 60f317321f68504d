-- The numbered commands so far, and those ahead with their numbers, are all.
use Rattle.std.proofs.Common.{◌≡◌, ◌+◌, ◌++◌, drop}
use Rattle.form_make.specs.Makes.{numbered_from}
use Rattle.form_make.proofs.seed.numbered.Given as goal

abbrev pub invariant-loop-place : goal.invariant-loop-place
invariant-loop-place l = l.numbered.items ++ numbered_from (l.place + 1) (drop l.place l.commands) ≡ numbered_from 1 l.commands
