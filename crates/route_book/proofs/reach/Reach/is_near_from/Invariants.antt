-- From no pin of the class so far a way is near.
use Rattle.std.proofs.Common.{◌≡◌, true, take, All, ◌==◌}
use Rattle.route_book.specs.Reach.{IsNear}
use Rattle.route_book.proofs.reach.Reach.is_near_from.Given as goal

abbrev pub invariant-loop-end : goal.invariant-loop-end
invariant-loop-end l =
    All (λ p. (p.class == l.class) ≡ true → IsNear l.self.source.now l.self.target.now l.self.edge.now l.self.cost l.rect l.start p → ⊥) (take l.end-index l.end-items)
