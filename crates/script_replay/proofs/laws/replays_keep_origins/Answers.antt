-- The law `replays_keep_origins` holds.
use Rattle.script_replay.proofs.Origins as origins
use Rattle.script_replay.proofs.laws.replays_keep_origins.Goals as goal

pub returns : goal.returns
returns c = origins.replays_keep_origins
