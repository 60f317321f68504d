-- One more byte of the line, and the bytes that were taken where it ends.
use Rattle.std.proofs.Common.{◌∙◌, rules, subst}
use Rattle.std.specs.Prelude.{IfSome}
use Rattle.host_edge.specs.Lines.{IsNextByte}
use Rattle.host_edge.proofs.LineLemmas.{reads_on, taken_with_next}
use Rattle.host_edge.proofs.reader_lines.read_line.Goals as goal

pub loop-preserved : goal.loop-preserved
loop-preserved g c = record {
  room = c.lacks_room-is_long.ensures.room ∙ c.loop.invariant.room;
  reading = reads_on c.args.limit c.in-Some.byte (g.R.Read.remaining c.args.reader.now) (g.R.Read.remaining c.loop.reader) (g.R.Read.remaining c.next_byte.new.reader) c.loop.line.items c.lacks_room-is_long.new.line.items
      c.loop.is_long c.lacks_room-is_long.result (search rules) c.loop.invariant.reading
      (subst (λ o. IfSome (g.R.Read.remaining c.loop.reader) (λ bytes. IsNextByte bytes (g.R.Read.remaining c.next_byte.new.reader) o)) c.in-Some.is c.in_ok-next_byte.ensures.ok) c.lacks_room-is_long.ensures.items c.lacks_room-is_long.ensures.full c.lacks_room-is_long.ensures.free;
}

pub returns-in-None-2-clause-taken : goal.returns-in-None-2-clause-taken
returns-in-None-2-clause-taken g c =
    taken_with_next c.args.limit (g.R.Read.remaining c.args.reader.now) (g.R.Read.remaining c.loop.reader) (g.R.Read.remaining c.next_byte.new.reader) c.loop.line.items c.loop.is_long _
    c.loop.invariant.reading c.in_ok-next_byte.ensures.ok
