-- The tasks so far are those of the connectors so far.
use Rattle.std.proofs.Common.{take}
use Rattle.std.specs.List.{AllZip}
use Rattle.route_book.specs.Search.{IsTaskWith}
use Rattle.route_book.proofs.search.Searches.tasks.Given as goal

abbrev pub invariant-loop-number : goal.invariant-loop-number
invariant-loop-number l = AllZip (IsTaskWith l.self.scene.now) (take l.number-index l.numbers) l.tasks.items
