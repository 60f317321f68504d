-- The directions so far, and the letters that are left, give what the whole word does.
use Rattle.std.proofs.Common.{◌≡◌, drop}
use Rattle.scene_model.specs.LetterSteps.{with_letters}
use Rattle.scene_model.proofs.pin.Dirs.from_letters.Given as goal

abbrev pub invariant-loop-letter : goal.invariant-loop-letter
invariant-loop-letter l = with_letters l.initial.dirs l.initial.letters ≡ with_letters l.dirs (drop l.letter-index l.letters)
