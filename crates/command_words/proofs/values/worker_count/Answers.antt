-- Four arguments give a number of workers each, and no other one gives one.
use Rattle.std.proofs.Common.{refl}
use Rattle.command_words.proofs.Numbers.{no_worker_count}
use Rattle.command_words.proofs.values.worker_count.Goals as goal

pub returns-in-text : goal.returns-in-text
returns-in-text c = let is = c.in-text.is in rw is refl

pub returns-in-text-2 : goal.returns-in-text-2
returns-in-text-2 c = let is = c.in-text-2.is in rw is refl

pub returns-in-text-3 : goal.returns-in-text-3
returns-in-text-3 c = let is = c.in-text-3.is in rw is refl

pub returns-in-text-4 : goal.returns-in-text-4
returns-in-text-4 c = let is = c.in-text-4.is in rw is refl

pub returns-in_default : goal.returns-in_default
returns-in_default c = no_worker_count c.args.word.now c.in_default.not-text c.in_default.not-text-2 c.in_default.not-text-3 c.in_default.not-text-4
