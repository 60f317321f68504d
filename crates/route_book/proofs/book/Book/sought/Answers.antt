-- The stale connectors are connectors of the new scene, in order.
use Rattle.scene_model.specs.Stale.{IsCurrent, IsStale}
use Rattle.route_book.proofs.Answering.Connectors.{picked_connectors, picked_rising}
use Rattle.route_book.proofs.book.Book.sought.Goals as goal

pub returns-clause-order : goal.returns-clause-order
returns-clause-order c =
    picked_rising (IsStale c.args.old.now c.args.self.now c.args.new.now) (IsCurrent c.args.old.now c.args.self.now c.args.new.now)
    c.args.new.now c.in_ok-stale.stale.items c.connector_numbers.ensures.valid c.in_ok-stale.ensures

pub returns-clause-searched : goal.returns-clause-searched
returns-clause-searched c =
    picked_connectors (IsStale c.args.old.now c.args.self.now c.args.new.now) (IsCurrent c.args.old.now c.args.self.now c.args.new.now)
    c.args.new.now c.in_ok-stale.stale.items c.connector_numbers.ensures.valid c.in_ok-stale.ensures
