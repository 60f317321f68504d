-- The replies to the commands of a script, one by one.
use Rattle.std.specs.Prelude.{◌≡◌, ℕ, List, [], ◌∷◌, length, map, Result, Ok, Err}
use Rattle.std.specs.List.{sum_by}
use Rattle.walk_model.specs.declared.route.Answer.{Answer}
use Rattle.scene_model.specs.declared.edit.Command.{Command}
use Rattle.scene_model.specs.declared.edit.Command.TheVariants.{Commit, Undo, Redo}
use Rattle.scene_model.specs.Scene.{Scene}
use Rattle.scene_model.specs.Answers.{AreAnswers}
use Rattle.scene_model.specs.Stale.{AreStale}
use Rattle.scene_model.specs.World.{World, CommandRefusal, syntax_error, refused, opened, step, next_world, played}
use Rattle.report_text.specs.declared.refusal.Refusal.{Refusal as ReportedRefusal}
use Rattle.report_text.specs.declared.refusal.Refusal.TheVariants as reported
use Rattle.report_text.specs.declared.reply.Reply.{Reply}
use Rattle.report_text.specs.declared.reply.Reply.TheVariants.{Kept, Searched, Refused}
use Rattle.report_text.specs.declared.reply.LineReply.{LineReply}

-- the number of searched connectors is that of the stale ones, for right answers of the scene before
pub record SearchesStale (old new : Scene) (reply : Reply) : Type 0 where
  pub answers : List Answer
  pub right : AreAnswers old answers
  pub stale : List ℕ
  pub are_stale : AreStale old answers new stale
  pub says : reply ≡ Searched (length stale)

-- the reply to a command that leads from the old present scene to the new one: undo and redo search nothing
abbrev pub IsReplyOfDone : Command → Scene → Scene → Reply → Type 0
IsReplyOfDone Commit old new reply = SearchesStale old new reply
IsReplyOfDone Undo old new reply = reply ≡ Searched 0
IsReplyOfDone Redo old new reply = reply ≡ Searched 0
IsReplyOfDone command old new reply = reply ≡ Kept

-- a refusal in the form of a reply
abbrev pub reported_refusal : CommandRefusal → ReportedRefusal
reported_refusal syntax_error = reported.Syntax
reported_refusal (refused fault) = reported.Command fault

-- the reply to a command with this result in the world
abbrev pub IsReplyOf : Command → World → Result World CommandRefusal → Reply → Type 0
IsReplyOf command w (Ok next) reply = IsReplyOfDone command w.present next.present reply
IsReplyOf command w (Err why) reply = reply ≡ Refused (reported_refusal why)

-- the reply to a command in a world
abbrev pub IsReply : Command → World → Reply → Type 0
IsReply command w reply = IsReplyOf command w (step command w) reply

-- the replies to the commands, which begin in this world, each with the number of its line
abbrev pub AreReplies : World → List (ℕ × Command) → List LineReply → Type 0
AreReplies w [] replies = replies ≡ []
AreReplies w (c ∷ commands) [] = ⊥
AreReplies w (c ∷ commands) (r ∷ replies) =
    (r.line ≡ c.0) × IsReply c.1 w r.reply × AreReplies (next_world c.1 w) commands replies

-- the world after the commands, from the scene
abbrev pub world_after : Scene → List (ℕ × Command) → World
world_after s commands = played (map (λ c. c.1) commands) (opened s)

-- the number of searched connectors in a reply, and in a list of replies
abbrev pub searched_by : Reply → ℕ
searched_by (Searched searched) = searched
searched_by Kept = 0
searched_by (Refused why) = 0

abbrev pub searched_in : List LineReply → ℕ
searched_in replies = sum_by (λ r. searched_by r.reply) replies

-- the law: there is at most one list of replies
abbrev pub HaveOneListOfReplies : Type 0
HaveOneListOfReplies = (w : World) (commands : List (ℕ × Command)) (these those : List LineReply) →
    AreReplies w commands these → AreReplies w commands those → these ≡ those
