-- Letter by letter, what was read is what the word spells.
use Rattle.std.proofs.lemmas.Bool.Decides.{nat_tests}
use Rattle.std.proofs.Common.{◌≡◌, ◌<◌, length, get_or, None, sym, ◌∙◌, arith}
use Rattle.scene_model.specs.LetterSteps.{with_letter}
use Rattle.scene_model.proofs.Directions.{letters_read, letters_end, letters_done}
use Rattle.scene_model.proofs.pin.Dirs.from_letters.Goals as goal

pub returns-in_err-dirs : goal.returns-in_err-dirs
returns-in_err-dirs c =
    let word = c.args.letters.now in
    let none : with_letter c.loop-letter.dirs (get_or word c.loop-letter.letter-index 0) ≡ None = cc (c.with_letter.ensures, c.in_err-dirs.was) in
    let read = letters_read word (omega arith) ∙ c.loop-letter.invariant ∙ letters_end c.loop-letter.dirs word c.loop-letter.letter-index c.loop-letter-test.true none in
    cc

pub returns-else-is_empty : goal.returns-else-is_empty
returns-else-is_empty c =
    let word = c.args.letters.now in
    let some : 0 < length word = grind (arith, nat_tests, c.is_empty.ensures) in
    sym (letters_read word some ∙ c.loop-letter.invariant ∙ letters_done c.loop-letter.dirs word c.loop-letter.letter-index (omega arith))
