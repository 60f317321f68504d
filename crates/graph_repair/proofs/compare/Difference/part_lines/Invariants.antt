-- The lines so far were appended.
use Rattle.std.proofs.Common.{◌≡◌, ◌++◌, not, take}
use Rattle.std.specs.Prelude.{filter}
use Rattle.sweep_lines.specs.Kept.{is_near}
use Rattle.graph_repair.specs.Listed.{lines_of}
use Rattle.graph_repair.proofs.compare.Difference.part_lines.Given as goal

abbrev pub invariant-loop-line : goal.invariant-loop-line
invariant-loop-line l = record {
  stay : l.self.stay.items ≡ l.initial.self.stay.items ++ filter (λ m. not (is_near l.hull m)) (lines_of (take l.line-index l.pairs));
  here : l.self.here.items ≡ l.initial.self.here.items ++ filter (is_near l.hull) (lines_of (take l.line-index l.pairs));
  there : l.self.there.items ≡ l.initial.self.there.items;
}
