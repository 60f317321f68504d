-- The tasks may be searched, and the searches are as many as the connectors.
use Rattle.std.proofs.Common.{◌≡◌, List, length, ap, sym, subst, ◌∙◌}
use Rattle.std.specs.Prelude.{All}
use Rattle.walk_model.specs.declared.task.Task.{Task}
use Rattle.line_arena.specs.Count.{counted_by}
use Rattle.par_route.specs.Routes.{MayBeSearched}
use Rattle.route_book.specs.Search.{IsTaskWith}
use Rattle.route_book.proofs.Answering.Searched.{on_ok, zip_length}
use Rattle.route_book.proofs.search.Searches.answers.Goals as goal

pub route_all-requires-clause-tasks : goal.route_all-requires-clause-tasks
route_all-requires-clause-tasks g c κs within =
    subst (λ (ts : List Task). All (MayBeSearched c.in_ok-asked.asked.arena.now c.in_ok-asked.asked.solids.now) ts) (sym c.deref.ensures.value) c.in_ok-asked.ensures.searched

pub returns-clause-tally : goal.returns-clause-tally
returns-clause-tally g c =
    let many : length c.deref.result.now ≡ length c.args.numbers.now = ap length c.deref.ensures.value ∙ zip_length (IsTaskWith c.args.self.now.scene.now) c.args.numbers.now c.in_ok-asked.asked.tasks.items c.in_ok-asked.ensures.tasks in
    on_ok c.answers_of.result (c.route_all.new.tally ≡ counted_by (length c.args.numbers.now) c.args.tally.now) (c.in_ok-routes.ensures.tally ∙ ap (λ n. counted_by n c.args.tally.now) many)
