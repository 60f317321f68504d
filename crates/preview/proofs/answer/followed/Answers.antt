-- The changes hold the right answers of the new scene, and the tally counts its stale connectors.
use Rattle.std.proofs.Common.{◌∙◌, length, ap}
use Rattle.line_arena.specs.Count.{counted_by}
use Rattle.preview.proofs.Counts.{counted}
use Rattle.preview.proofs.answer.followed.Goals as goal

pub returns : goal.returns
returns c = λ edits none same.
    let counts = c.in_ok-book.ensures.tally in
    record {
      unrefused = none;
      scene = same;
      right = c.in_ok-book.ensures.right;
      stale = counts.0;
      are_stale = counts.1;
      searches = counted c.args.old.now c.args.book.now c.args.new counts.0 c.count.result c.valid-2.ensures counts.1 (c.count.ensures ∙ counts.2 ∙ ap (counted_by (length counts.0)) c.new-tally.ensures);
    }
