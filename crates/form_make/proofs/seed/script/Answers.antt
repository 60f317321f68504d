-- The generated commands are numbered.
use Rattle.std.proofs.Common.{◌≡◌, subst, ◌∙◌}
use Rattle.std.specs.Prelude.{IfOk}
use Rattle.form_make.specs.Makes.{numbered_from}
use Rattle.form_make.proofs.seed.script.Goals as goal

pub returns : goal.returns
returns c = subst (λ commands. IfOk c.numbered.result (λ r. r.items ≡ numbered_from 1 commands)) (c.deref.ensures.value ∙ c.in_ok-commands.ensures) c.numbered.ensures
