-- What was read so far of the line.
use Rattle.std.proofs.Common.{◌≡◌, vec_capacity}
use Rattle.std.specs.Prelude.{IfSome}
use Rattle.host_edge.proofs.LineLemmas.{IsReading}
use Rattle.host_edge.proofs.reader_lines.read_line.Given as goal

abbrev pub invariant-loop : goal.invariant-loop
invariant-loop g l = record {
  room : vec_capacity l.line ≡ vec_capacity l.fn.line;
  reading : IfSome (g.R.Read.remaining l.fn.reader) (λ bytes. IsReading l.limit bytes (g.R.Read.remaining l.reader) l.line.items l.is_long);
}
