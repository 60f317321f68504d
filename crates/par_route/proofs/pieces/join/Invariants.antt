-- What stands so far is what the pieces so far have.
use Rattle.std.proofs.Common.{◌≡◌, All, IsOk}
use Rattle.std.specs.List.{flat_map, sum_by}
use Rattle.line_arena.specs.Count.{counted_by}
use Rattle.par_route.specs.Pieces.{answers_in, searches_in}
use Rattle.par_route.proofs.pieces.join.Given as goal

abbrev pub invariant-loop-piece : goal.invariant-loop-piece
invariant-loop-piece l =
    All (λ p. IsOk p) l.yielded
    × (l.all.items ≡ flat_map answers_in l.yielded)
    × (l.searches ≡ counted_by (sum_by searches_in l.yielded) 0)
