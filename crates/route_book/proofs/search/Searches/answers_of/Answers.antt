-- The routes that are found are right answers.
use Rattle.std.proofs.Common.{◌≡◌, List, Option, map, sym, subst, ◌∙◌}
use Rattle.std.specs.List.{AllZip}
use Rattle.plane_geom.specs.declared.rect.Solid.{Solid}
use Rattle.walk_model.specs.declared.task.Task.{Task}
use Rattle.walk_model.specs.declared.route.Route.{Route}
use Rattle.walk_model.specs.declared.route.Answer.{Answer}
use Rattle.walk_model.specs.Answers.{IsAnswer}
use Rattle.scene_model.specs.Routing.{solids}
use Rattle.route_book.specs.Search.{IsAnswerWith, IsTaskWith}
use Rattle.route_book.proofs.Answering.Searched.{answered, both_ok, zip_length}
use Rattle.route_book.proofs.search.Searches.answers_of.Goals as goal

pub of_routes-requires-clause-same_length : goal.of_routes-requires-clause-same_length
of_routes-requires-clause-same_length c =
    let tasks : List Task = c.args.asked.now.tasks.items in
    zip_length (IsAnswer c.args.asked.now.solids.now) tasks c.args.routes.items c.requires.routes
    ∙ zip_length (IsTaskWith c.args.self.now.scene.now) c.args.numbers.now tasks c.requires.tasks

pub returns : goal.returns
returns c =
    let s = c.args.self.now.scene.now in
    let numbers = c.args.numbers.now in
    let tasks : List Task = c.args.asked.now.tasks.items in
    let routes : List (Option Route) = c.args.routes.items in
    let right : AllZip (IsAnswer (solids s)) tasks routes = subst (λ (ss : List Solid). AllZip (IsAnswer ss) tasks routes) c.requires.solids c.requires.routes in
    both_ok c.of_routes.result (λ a. map (λ (x : Answer). x.edge) a ≡ numbers) (λ a. map (λ (x : Answer). x.route) a ≡ routes) (AllZip (IsAnswerWith s) numbers)
    (λ a edges is. answered s numbers tasks a c.requires.tasks (subst (AllZip (IsAnswer (solids s)) tasks) (sym is) right) edges)
    c.of_routes.ensures.edges c.of_routes.ensures.routes
