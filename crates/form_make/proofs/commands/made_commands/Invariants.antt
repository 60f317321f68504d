-- The transactions so far are there, of three draws each.
use Rattle.std.proofs.Common.{◌≡◌, ◌*◌}
use Rattle.std.specs.Prelude.{flat_map}
use Rattle.form_make.specs.Draws.{first, state_after}
use Rattle.form_make.specs.Made.{made_transaction}
use Rattle.form_make.proofs.commands.made_commands.Given as goal

abbrev pub invariant-loop-place : goal.invariant-loop-place
invariant-loop-place l = record {
  commands : l.commands.items ≡ flat_map (λ commands. commands) (first l.place (made_transaction l.initial.draws.state));
  draws : l.draws.state ≡ state_after l.initial.draws.state (3 * l.place);
}
