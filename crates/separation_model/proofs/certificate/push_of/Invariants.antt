-- What the loop of `push_of` keeps.
use Rattle.std.proofs.Common.{◌≡◌, ◌^◌, pos, ◌+ℤ◌, ◌≤ℤ◌, drop}
use Rattle.separation_model.specs.Certified.{from_left, from_right}
use Rattle.separation_model.proofs.certificate.push_of.Given as goal

abbrev pub invariant-loop-j : goal.invariant-loop-j
invariant-loop-j l = record {
  left : l.push.from_left +ℤ from_left l.item (drop l.j l.rules) (drop l.j l.multipliers) ≡ from_left l.item l.rules l.multipliers;
  right : l.push.from_right +ℤ from_right l.item (drop l.j l.rules) (drop l.j l.multipliers) ≡ from_right l.item l.rules l.multipliers;
  left_low : pos 0 ≤ℤ l.push.from_left;
  right_low : pos 0 ≤ℤ l.push.from_right;
  small : (l.push.from_left +ℤ l.push.from_right) ≤ℤ pos (2 ^ 126);
}
