-- What holds while a comment goes on.
use Rattle.std.proofs.Common.{List, ◌≤◌, ◌-◌, length}
use Rattle.gml_text.specs.Reading.{Where, Frame}
use Rattle.gml_text.specs.Standing.{Stands, comment_state}
use Rattle.gml_text.specs.Tree.{Pairs}
use Rattle.gml_text.proofs.scan.comment_end.Given as goal

abbrev pub invariant-loop-end : goal.invariant-loop-end
invariant-loop-end l = record {
  after : l.fn.from ≤ l.end;
  within : l.end ≤ length l.bytes;
  goes : (here : Where) (fs : List Frame) (ps : Pairs) → Stands l.bytes l.fn.from (comment_state here fs ps) → Stands l.bytes l.end (comment_state here fs ps);
}

abbrev pub decreases-loop-end : goal.decreases-loop-end
decreases-loop-end l = length l.bytes - l.end
