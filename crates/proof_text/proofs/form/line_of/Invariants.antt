-- The words so far stand in front, and there are as many as were counted.
use Rattle.std.proofs.Common.{◌≡◌, length, take}
use Rattle.proof_text.proofs.form.line_of.Given as goal

abbrev pub invariant-loop-word : goal.invariant-loop-word
invariant-loop-word l = record {
  counted : l.count ≡ length l.yielded;
  room : length l.words ≡ 9;
  kept : take l.count l.words ≡ l.yielded;
}
