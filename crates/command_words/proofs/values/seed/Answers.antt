-- An argument that spells a seed has its number.
use Rattle.std.proofs.Common.{sym, ◌∙◌}
use Rattle.command_words.proofs.Numbers.{seed_read}
use Rattle.command_words.proofs.values.seed.Goals as goal

pub returns-then-is_seed : goal.returns-then-is_seed
returns-then-is_seed c = c.ok.ensures.value ∙ seed_read c.args.word.now c.parse.result (sym c.if-is_seed.ensures) c.parse.ensures.value.0
