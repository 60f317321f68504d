-- One more byte, and the place after it.
use Rattle.std.proofs.Common.{ap, get_or, sym, ◌∙◌}
use Rattle.reroute_app.specs.Hint.{next_place}
use Rattle.reroute_app.proofs.Places.{place_more, near_line, near_column}
use Rattle.reroute_app.proofs.hint.place_after.Goals as goal

pub loop-byte-preserved : goal.loop-byte-preserved
loop-byte-preserved c =
    let bytes = c.args.bytes.now in
    let i = c.loop-byte.byte-index in
    record {
      place = c.next_place-place.ensures ∙ ap (λ p. next_place p (get_or bytes i 0)) c.loop-byte.invariant.place ∙ sym (place_more bytes i 0 c.loop-byte-test.true);
      line = near_line c.loop-byte.place c.next_place-place.result (get_or bytes i 0) i c.next_place-place.ensures c.loop-byte.invariant.line;
      column = near_column c.loop-byte.place c.next_place-place.result (get_or bytes i 0) i c.next_place-place.ensures c.loop-byte.invariant.column;
    }
