-- Words of 18 digits spell small numbers.
use Rattle.std.proofs.Common.{◌≡◌, ◌-◌, Some, pos, length, take, drop, sym, ap, ◌∙◌, arith, w64}
use Rattle.std.proofs.lemmas.Int.{ints}
use mir.Val.{to_z}
use Rattle.proof_text.proofs.Numbers.{natural_spells, whole_plain}
use Rattle.proof_text.proofs.value.whole.Goals as goal

pub negative-requires : goal.negative-requires
negative-requires c =
    let word = c.args.word.now in
    omega (arith, (natural_spells (take (length word - 1) (drop 1 word)) c.in_ok-natural-in-45.field-0 (sym c.in_ok-natural-in-45.ensures)).1)

pub overflow_cast-result : goal.overflow_cast-result
overflow_cast-result c = omega (arith, ints, (natural_spells c.args.word.now c.in_ok-natural-in_default.field-0 (sym c.in_ok-natural-in_default.ensures)).1)

pub returns-in_ok-natural-in_default : goal.returns-in_ok-natural-in_default
returns-in_ok-natural-in_default c =
    let n = c.in_ok-natural-in_default.field-0 in
    let reads = sym c.in_ok-natural-in_default.ensures in
    let same : to_z w64 n ≡ pos n = omega (arith, ints, (natural_spells c.args.word.now n reads).1) in
    ap Some same ∙ sym (whole_plain c.args.word.now n reads)
