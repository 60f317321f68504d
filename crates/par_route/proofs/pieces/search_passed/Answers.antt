-- The tasks so far and one more.
use Rattle.std.proofs.Common.{◌∙◌}
use Rattle.walk_model.specs.Answers.{IsAnswer}
use Rattle.par_route.specs.Routes.{MayBeSearched}
use Rattle.line_arena.proofs.Counting.{counted_on}
use Rattle.par_route.proofs.Zips.{All-read, zip_more}
use Rattle.par_route.proofs.pieces.search_passed.Goals as goal

pub find-requires : goal.find-requires
find-requires c =
    rw (c.loop-task.invariant.0, c.loop-task.invariant.1)
    (All-read (MayBeSearched c.args.arena.now c.args.solids.now) c.args.piece.items.now c.loop-task.task-index c.task-item.result c.loop-task-test.true c.task-item.is c.requires.tasks)

pub loop-task-preserved : goal.loop-task-preserved
loop-task-preserved c =
    let kept = c.loop-task.invariant in
    let answer : IsAnswer c.args.solids.now c.task-item.result c.in_ok-find.field-0 = rw (← kept.1) c.in_ok-find.ensures.answer in (
      c.in_ok-find.ensures.arena ∙ kept.0,
      c.in_ok-find.ensures.solids ∙ kept.1,
      rw c.in_ok-push.ensures.items
          (zip_more (IsAnswer c.args.solids.now) c.args.piece.items.now c.loop-task.answers.items c.loop-task.task-index c.task-item.result c.in_ok-find.field-0 c.loop-task-test.true c.task-item.is kept.2 answer),
      rw (c.in_ok-find.ensures.tally, kept.3) (counted_on c.loop-task.task-index 1 0),
    )
