-- From no pin of the class so far a way is near.
use Rattle.std.proofs.Common.{◌≡◌, true, take, All, ◌==◌}
use Rattle.route_book.specs.Reach.{IsNearFrom}
use Rattle.route_book.proofs.reach.Reach.is_near_between.Given as goal

abbrev pub invariant-loop-start : goal.invariant-loop-start
invariant-loop-start l =
    All (λ p. (p.class == l.class) ≡ true → IsNearFrom l.self.source.now l.self.target.now l.self.edge.now l.self.cost l.rect p → ⊥) (take l.start-index l.start-items)
