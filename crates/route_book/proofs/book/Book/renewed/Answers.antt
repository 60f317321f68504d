-- The searches are as many as the stale connectors.
use Rattle.std.proofs.Common.{ℕ, List, length, ap, ◌∙◌}
use Rattle.line_arena.specs.Count.{counted_by}
use Rattle.route_book.specs.Exchange.{CountsStale}
use Rattle.route_book.proofs.Answering.Searched.{on_ok}
use Rattle.route_book.proofs.book.Book.renewed.Goals as goal

pub returns-clause-tally : goal.returns-clause-tally
returns-clause-tally g c =
    on_ok c.merged.result (CountsStale c.args.old.now c.args.self.now c.args.new.now c.args.tally.now c.answers.new.tally)
    (c.in_ok-sought.sought.stale.items, c.in_ok-sought.ensures.stale, c.in_ok-found.ensures.tally ∙ ap (λ (ns : List ℕ). counted_by (length ns) c.args.tally.now) c.deref.ensures.value)
