-- The pieces so far and one more.
use Rattle.std.proofs.Common.{rules, ◌≡◌, ◌∙◌, Ok, IsOk, [], refl}
use Rattle.std.specs.List.{sum_by}
use Rattle.std.proofs.lemmas.List.{flat_map_more}
use Rattle.std.proofs.lemmas.List.Elements.{All-push}
use Rattle.std.proofs.lemmas.List.Sums.{sum_by_push}
use Rattle.par_route.specs.Pieces.{answers_in, searches_in}
use Rattle.line_arena.proofs.Counting.{counted_on}
use Rattle.par_route.proofs.Joining.{Ok-is}
use Rattle.par_route.proofs.pieces.join.Goals as goal

pub loop-piece-preserved : goal.loop-piece-preserved
loop-piece-preserved c =
    let kept = c.loop-piece.invariant in
    let at : c.in-Some.piece ≡ Ok c.in_ok-answers.field-0 = search rules in (
      All-push (λ p. IsOk p) c.loop-piece.yielded c.in-Some.piece kept.0 (Ok-is c.in-Some.piece c.in_ok-answers.field-0 at),
      rw (← flat_map_more answers_in [] c.loop-piece.yielded c.in-Some.piece, at) (c.in_ok-append.ensures.items ∙ rw kept.1 refl),
      rw (sum_by_push searches_in c.loop-piece.yielded c.in-Some.piece, at) (c.join.ensures ∙ rw kept.2 (counted_on (sum_by searches_in c.loop-piece.yielded) c.in_ok-answers.field-0.tally 0)),
    )
