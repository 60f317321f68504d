-- The law `one_list_of_replies` holds.
use Rattle.script_replay.proofs.Replying as replying
use Rattle.script_replay.proofs.laws.one_list_of_replies.Goals as goal

pub returns : goal.returns
returns c = replying.one_list_of_replies
