-- All pieces, searched side by side, are all tasks.
use Rattle.std.proofs.Common.{rules, ◌≡◌, ◌∙◌, All, IsOk, length}
use Rattle.std.specs.List.{AllZip, flat_map, sum_by}
use Rattle.line_arena.specs.Count.{counted_by}
use Rattle.walk_model.specs.declared.task.Task.{Task}
use Rattle.par_route.specs.declared.pieces.Piece.{Piece}
use Rattle.par_route.specs.Pieces.{answers_in, searches_in}
use Rattle.par_route.specs.Routes.{AreAnswers, MayBeSearched}
use Rattle.par_route.proofs.Cutting.{All-pieces}
use Rattle.par_route.proofs.Joining.{Fits, IfOk-both, counted_part, joined_answers, joined_searches}
use Rattle.par_route.proofs.Zips.{All-read, zip_from_places}
use Rattle.par_route.proofs.routes.route_pieces.Goals as goal
use Rattle.par_route.proofs.routes.route_pieces.Given as given

pub map_vec-requires-after_bounds : goal.map_vec-requires-after_bounds
map_vec-requires-after_bounds g c κs within i x lt at =
    let P = MayBeSearched c.args.arena.now c.args.solids.now in
    let cut = c.in_ok-pieces.ensures in
    let each : All (λ (p : Piece Task). All P p.items.now) c.in_ok-pieces.pieces.items = All-pieces P c.in_ok-pieces.pieces.items (rw cut.items c.requires.tasks) in
    (All-read (λ (p : Piece Task). All P p.items.now) c.in_ok-pieces.pieces.items i x lt at each, (c.requires.lines, record { shared = c.type_bounds.sync-G.shared }))

-- each piece is searched
fit : (g : given.Over) (c : goal.After-join g) → AllZip (Fits c.args.solids.now) c.in_ok-pieces.pieces.items c.in_ok-searched.searched.items
fit g c =
    let same : length c.in_ok-searched.searched.items ≡ length c.in_ok-pieces.pieces.items = search rules in
    zip_from_places (Fits c.args.solids.now) c.in_ok-pieces.pieces.items c.in_ok-searched.searched.items same (λ i d e lt.
    let job = (c.in_ok-searched.ensures.each i e lt).1 in
    rw (job.job_is d) job.call.met)

pub returns-clause-answers : goal.returns-clause-answers
returns-clause-answers g c =
    let pieces = c.in_ok-pieces.pieces.items in
    let results = c.in_ok-searched.searched.items in
    let cut = c.in_ok-pieces.ensures in
    IfOk-both c.join.result (λ _. All (λ r. IsOk r) results) (λ a. a.items ≡ flat_map answers_in results) (λ a. AreAnswers c.args.solids.now c.args.tasks.now a.items)
    (λ a ok at. rw (at, ← cut.items) (joined_answers c.args.solids.now pieces results (fit g c) ok))
    c.join.ensures.memory c.join.ensures.answers

pub returns-clause-tally : goal.returns-clause-tally
returns-clause-tally g c =
    let pieces = c.in_ok-pieces.pieces.items in
    let results = c.in_ok-searched.searched.items in
    let cut = c.in_ok-pieces.ensures in
    IfOk-both c.join.result (λ _. All (λ r. IsOk r) results) (λ _. c.join.new.tally ≡ counted_by (counted_by (sum_by searches_in results) 0) c.args.tally.now)
    (λ _. c.join.new.tally ≡ counted_by (length c.args.tasks.now) c.args.tally.now)
    (λ _ ok at. at ∙ (counted_part (sum_by searches_in results) c.args.tally.now ∙ (rw (← cut.items) (joined_searches c.args.solids.now pieces results c.args.tally.now (fit g c) ok))))
    c.join.ensures.memory c.join.ensures.tally
