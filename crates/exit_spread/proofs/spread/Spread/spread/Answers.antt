-- The rows stay when their exits are removed.
use Rattle.line_lists.specs.Lists.{number_of}
use Rattle.plane_geom.specs.Along.{way_of}
use Rattle.exit_spread.proofs.Taking.Offered.{same_rooms}
use Rattle.exit_spread.proofs.spread.Spread.spread.Goals as goal

pub loop-self-preserved : goal.loop-self-preserved
loop-self-preserved c = record {
  none = c.clear.ensures.none;
  rooms = λ k b d at few here. same_rooms c.spread_within.new.self.rows c.clear.new.self.rows k (number_of c.args.lists.now b (way_of d)) c.clear.ensures.rooms
      (c.in_ok-spread_within.ensures.settled.searching.rooms k b d at few here);
  limit = c.raised-limit-in-loop-self.ensures.most;
}
