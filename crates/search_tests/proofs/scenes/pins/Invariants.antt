-- The pins so far may be loaded.
use Rattle.std.proofs.Common.{All}
use Rattle.scene_model.specs.Loads.{IsLoadablePin}
use Rattle.search_tests.proofs.scenes.pins.Given as goal

abbrev pub invariant-loop-dx : goal.invariant-loop-dx
invariant-loop-dx l = All IsLoadablePin l.pins.items
