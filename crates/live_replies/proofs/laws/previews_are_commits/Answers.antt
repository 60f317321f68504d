-- The law follows from those that a scene has one list of answers and one list of lines.
use Rattle.live_replies.proofs.Previews.{commits_report}
use Rattle.live_replies.proofs.laws.previews_are_commits.Goals as goal

pub returns : goal.returns
returns c = commits_report c.one_list_of_answers.ensures c.one_nudged_scene.ensures
