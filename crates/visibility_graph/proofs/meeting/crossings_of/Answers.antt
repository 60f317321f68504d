-- One more line adds its crossings with those that stay and those before it.
use Rattle.std.proofs.Common.{◌≡◌, ap, ◌∙◌, arith, take, get_or}
use Rattle.std.specs.Prelude.{count_by}
use Rattle.visibility_graph.specs.Meeting.{meets}
use Rattle.visibility_graph.proofs.Counts.{coming_more, no_line}
use Rattle.visibility_graph.proofs.meeting.crossings_of.Goals as goal

pub loop-place-preserved : goal.loop-place-preserved
loop-place-preserved c =
    let new = c.args.new.now in
    let place = c.loop-place.place in
    let line = get_or new place no_line in
    let with_stay = c.count_met.ensures in
    let with_before : c.count_met-in-loop-place.result ≡ count_by (meets line) (take place new) = c.count_met-in-loop-place.ensures ∙ ap (count_by (meets line)) c.split_at.ensures.front in
    omega (arith, with_stay, with_before, c.in_ok-count.ensures.sum, c.in_ok-count-2.ensures.sum, c.loop-place.invariant, coming_more new c.args.stay.now place no_line c.loop-place-test.true)
