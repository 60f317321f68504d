-- A count is a whole number without a sign.
use Rattle.std.proofs.Common.{◌≡◌, true, get_or, sym, ◌∙◌, arith}
use Rattle.std.specs.Char.{is_ascii_digit}
use Rattle.std.proofs.lemmas.Int.{ints}
use Rattle.edit_script.proofs.Counts.{IsCount, count_read}
use Rattle.edit_script.proofs.values.count_of.Goals as goal

pub overflow_cast-result : goal.overflow_cast-result
overflow_cast-result c =
    let word = c.args.word.now in
    let digit : is_ascii_digit (get_or word 0 0) ≡ true = sym c.is_ascii_digit.ensures.value ∙ c.if-not-is_ascii_digit.false in
    let value = c.in_ok-read_whole.field-0 in
    let count : IsCount word value = count_read word value c.in-len1-up.len_at_least digit (sym c.in_ok-read_whole.ensures) in
    let same = count.same in
    let small = count.small in
    (omega (arith, ints, same, small), omega (arith, ints, same, small))
