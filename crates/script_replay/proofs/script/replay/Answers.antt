-- The opening searches the connectors of a valid scene, which are few.
use Rattle.std.proofs.Common.{arith}
use Rattle.script_replay.proofs.Done.{few_connectors}
use Rattle.script_replay.proofs.script.replay.Goals as goal

pub replies_to-requires-clause-few_searched : goal.replies_to-requires-clause-few_searched
replies_to-requires-clause-few_searched g c κs within = omega (arith, few_connectors c.args.scene c.valid.ensures, c.in_ok-session.ensures.searched)
