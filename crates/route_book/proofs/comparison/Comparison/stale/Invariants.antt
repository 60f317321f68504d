-- The numbers so far are those of the stale connectors so far.
use Rattle.std.proofs.Common.{take, filter, not}
use Rattle.scene_model.specs.Scene.{is_loop}
use Rattle.scene_model.specs.Stale.{ArePicked, IsCurrent, IsStale}
use Rattle.route_book.proofs.comparison.Comparison.stale.Given as goal

abbrev pub invariant-loop-edge : goal.invariant-loop-edge
invariant-loop-edge l =
    ArePicked (IsStale l.self.old.now l.answers l.self.new.now) (IsCurrent l.self.old.now l.answers l.self.new.now)
    (filter (λ e. not (is_loop e)) (take l.edge-index l.self.new.now.edges)) l.numbers.items
