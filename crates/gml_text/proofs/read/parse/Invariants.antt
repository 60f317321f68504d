-- What holds while pairs are read.
use Rattle.std.proofs.Common.{◌<◌, ◌≤◌, ◌-◌, length, get_or}
use Rattle.gml_text.specs.Reader.{state_of}
use Rattle.gml_text.specs.Standing.{IsNoGap, Stands}
use Rattle.gml_text.proofs.read.parse.Given as goal

-- the reader stands where something is that is no white space, or at the end
abbrev pub invariant-loop-at : goal.invariant-loop-at
invariant-loop-at l = record {
  within : l.at ≤ length l.bytes;
  no_gap : l.at < length l.bytes → IsNoGap (get_or l.bytes l.at 0);
  stands : Stands l.bytes l.at (state_of l.reader);
}

abbrev pub decreases-loop-at : goal.decreases-loop-at
decreases-loop-at l = length l.bytes - l.at
