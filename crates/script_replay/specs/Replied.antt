-- The results of the calls of a replay. No public clause cites this module.
use Rattle.std.specs.Prelude.{◌≡◌, ℕ, ◌+◌, ◌*◌, ◌≤◌, List, length, map}
use Rattle.scene_model.specs.declared.edit.Command.{Command}
use Rattle.scene_model.specs.declared.edit.Command.TheVariants.{Commit, Undo, Redo}
use Rattle.scene_model.specs.World.{next_world, played}
use Rattle.report_text.specs.declared.reply.Reply.{Reply}
use Rattle.report_text.specs.declared.reply.Reply.TheVariants.{Kept, Searched}
use Rattle.report_text.specs.declared.reply.LineReply.{LineReply}
use Rattle.session_model.specs.State.{State}
use Rattle.script_replay.specs.Replies.{IsReply, AreReplies, searched_by, searched_in}

-- the reply to a command that is done, with this many searches
abbrev pub done_reply : Command → ℕ → Reply
done_reply Commit searched = Searched searched
done_reply Undo searched = Searched searched
done_reply Redo searched = Searched searched
done_reply c searched = Kept

-- the command was executed or refused, with this reply, and searched the number that the reply gives
pub record IsReplied (command : Command) (old new : State) (given : Reply) : Type 0 where
  pub reply : IsReply command old.world given
  pub world : new.world ≡ next_world command old.world
  pub searched : new.searched ≡ old.searched + searched_by given
  pub few : searched_by given ≤ 512

-- the same for commands in a row
pub record AreReplied (commands : List (ℕ × Command)) (old new : State) (given : List LineReply) : Type 0 where
  pub replies : AreReplies old.world commands given
  pub world : new.world ≡ played (map (λ c. c.1) commands) old.world
  pub searched : new.searched ≡ old.searched + searched_in given
  pub few : searched_in given ≤ 512 * length commands
