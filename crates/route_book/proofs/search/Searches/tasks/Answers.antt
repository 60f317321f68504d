-- The task of one connector more.
use Rattle.std.proofs.Common.{◌≡◌, ◌≢◌, ◌<◌, ℕ, length, get_or}
use Rattle.std.proofs.lemmas.List.{get_or_default}
use Rattle.std.proofs.lemmas.List.Elements.{All-get_or}
use Rattle.walk_model.specs.declared.task.Task.{Task}
use Rattle.scene_model.specs.Scene.{edge_with}
use Rattle.scene_model.specs.Routing.{task_of}
use Rattle.par_route.proofs.Zips.{zip_more}
use Rattle.route_book.specs.Search.{IsConnector, IsTaskWith}
use Rattle.route_book.proofs.Answering.Searched.{there_then}
use Rattle.route_book.proofs.search.Searches.tasks.Goals as goal

pub loop-number-preserved : goal.loop-number-preserved
loop-number-preserved c =
    let s = c.args.self.now.scene.now in
    let numbers = c.args.numbers.now in
    let i = c.loop-number.number-index in
    let n : ℕ = get_or numbers i 0 in
    let lt : i < length numbers = c.loop-number-test.true in
    let task : Task = c.in_ok-task.field-0 in
    let connector : IsConnector s n = All-get_or (IsConnector s) numbers i 0 lt c.requires in
    let here : IsTaskWith s n task = there_then (edge_with s n) (λ e. e.from ≢ e.to) (λ e. task ≡ task_of s e) connector c.in_ok-task.ensures.ok in
    rw c.in_ok-push.ensures.items (zip_more (IsTaskWith s) numbers c.loop-number.tasks.items i n task lt (get_or_default numbers i 0 n lt) c.loop-number.invariant here)
