-- The result for a seed: the commands generated from it are replayed on the scene generated from it, and the routes are summed up.
use Rattle.std.specs.Prelude.{◌≡◌, ℕ, suc, ◌+◌, List, [], ◌∷◌, length}
use Rattle.walk_model.specs.declared.route.Answer.{Answer}
use Rattle.scene_model.specs.declared.edit.Command.{Command}
use Rattle.scene_model.specs.Scene.{connectors}
use Rattle.scene_model.specs.Answers.{AreAnswers}
use Rattle.scene_model.specs.World.{opened}
use Rattle.report_text.specs.Outcome.{Outcome, counted}
use Rattle.report_text.specs.declared.reply.LineReply.{LineReply}
use Rattle.report_text.specs.declared.status.Status.TheVariants.{Done}
use Rattle.form_make.specs.declared.summary.Summary.{Summary}
use Rattle.form_make.specs.Made.{made_scene, made_commands}
use Rattle.form_make.specs.Summary.{summary_text}
use Rattle.script_replay.specs.Replies.{AreReplies, searched_in, world_after}
use Rattle.form_make.specs.Sums.{SumsUp}

-- the commands numbered from this number on, as the lines of a script are
abbrev pub numbered_from : ℕ → List Command → List (ℕ × Command)
numbered_from number [] = []
numbered_from number (c ∷ commands) = (number, c) ∷ numbered_from (suc number) commands

-- the commands that are generated from the seed, numbered from 1
abbrev pub made_script : ℕ → List (ℕ × Command)
made_script seed = numbered_from 1 (made_commands seed)

-- the output and the number of searches for the seed
pub record Makes (seed : ℕ) (output : List ℕ) (searches : ℕ) : Type 0 where
  pub replies : List LineReply
  pub answers : List Answer
  pub summary : Summary
  pub are_replies : AreReplies (opened (made_scene seed)) (made_script seed) replies
  pub right : AreAnswers (world_after (made_scene seed) (made_script seed)).present answers
  pub searched : searches ≡ length (connectors (made_scene seed)) + searched_in replies
  pub sums_up : SumsUp answers searches summary
  pub text : output ≡ summary_text summary

-- the summary of what is generated from the seed is the outcome
pub record Summarizes (seed : ℕ) (o : Outcome) : Type 0 where
  pub text : List ℕ
  pub searched : ℕ
  pub makes : Makes seed text searched
  pub outcome : o ≡ counted Done text searched

-- the law: a seed has at most one output and one number of searches
abbrev pub SeedsComeToOne : Type 0
SeedsComeToOne = (seed : ℕ) (text other_text : List ℕ) (searched other_searched : ℕ) →
    Makes seed text searched → Makes seed other_text other_searched → (text ≡ other_text) × (searched ≡ other_searched)
