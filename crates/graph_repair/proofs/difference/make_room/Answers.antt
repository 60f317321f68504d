-- Lines and crossings are as they were, so the arena still stands for the floor.
use Rattle.graph_repair.proofs.Exchanged.{stands_still}
use Rattle.graph_repair.proofs.difference.make_room.Goals as goal

pub from_parts-requires : goal.from_parts-requires
from_parts-requires c = stands_still c.take-parts.result.floor c.take-parts.result.arena c.reserve-reserved.new.self c.reserve-reserved.ensures.lines c.reserve-reserved.ensures.crossings c.take-parts.ensures.stands
