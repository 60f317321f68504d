-- The replies to commands in a row: one more, and no two lists of them.
use Rattle.std.proofs.Common.{◌≡◌, ℕ, ◌+◌, ◌<◌, List, [], ◌∷◌, ◌++◌, length, map, take, get_or, Result, Ok, Err, refl, sym, ap, subst, subst₂, ◌∙◌, arith}
use Rattle.std.proofs.lemmas.List.{length_push, map_push, take_more}
use Rattle.std.proofs.lemmas.List.Sums.{sum_by_push}
use Rattle.scene_model.specs.declared.edit.Command.{Command}
use Rattle.scene_model.specs.declared.edit.Command.TheVariants.{Begin, Edit, Commit, Abort, Undo, Redo, Bad}
use Rattle.scene_model.specs.Scene.{Scene}
use Rattle.scene_model.specs.Stale.{AreStale}
use Rattle.scene_model.specs.World.{World, CommandRefusal, step, next_world, played}
use Rattle.scene_model.proofs.ForRouting.OneList.{one_list}
use Rattle.scene_model.proofs.ForRouting.Fresh.{one_stale_list}
use Rattle.report_text.specs.declared.reply.Reply.{Reply}
use Rattle.report_text.specs.declared.reply.Reply.TheVariants.{Searched}
use Rattle.report_text.specs.declared.reply.LineReply.{LineReply}
use Rattle.session_model.specs.State.{State}
use Rattle.script_replay.specs.Replied.{IsReplied, AreReplied}
use Rattle.script_replay.specs.Replies.{SearchesStale, IsReplyOfDone, IsReplyOf, IsReply, AreReplies, searched_by, searched_in, HaveOneListOfReplies}

-- the world after one more command
played_push : (cs : List Command) (c : Command) (w : World) → played (cs ++ c ∷ []) w ≡ next_world c (played cs w)
played_push [] c w = refl
played_push (d ∷ cs) c w = played_push cs c (next_world d w)

-- the replies to one more command
replies_push : (w : World) (cs : List (ℕ × Command)) (c : ℕ × Command) (rs : List LineReply) (r : LineReply) → AreReplies w cs rs → r.line ≡ c.0 → IsReply c.1 (played (map (λ d. d.1) cs) w) r.reply
    → AreReplies w (cs ++ c ∷ []) (rs ++ r ∷ [])
replies_push w [] c [] r are line reply = (line, reply, refl)
replies_push w [] c (q ∷ rs) r are line reply = cc
replies_push w (d ∷ cs) c [] r are line reply = absurd are
replies_push w (d ∷ cs) c (q ∷ rs) r are line reply = (are.0, are.1, replies_push (next_world d.1 w) cs c rs r are.2 line reply)

-- one more command was done or refused
replied_push : (cs : List (ℕ × Command)) (c : ℕ × Command) (start old new : State) (rs : List LineReply) (r : LineReply) → AreReplied cs start old rs → r.line ≡ c.0 → IsReplied c.1 old new r.reply
    → AreReplied (cs ++ c ∷ []) start new (rs ++ r ∷ [])
replied_push cs c start old new rs r before line h =
    let all : searched_in (rs ++ r ∷ []) ≡ searched_in rs + searched_by r.reply = sum_by_push (λ (q : LineReply). searched_by q.reply) rs r in
    let long : length (cs ++ c ∷ []) ≡ length cs + 1 = length_push cs c in
    let searched_before = before.searched in
    let searched_now = h.searched in
    let few_before = before.few in
    let few_now = h.few in
    record {
      replies = replies_push start.world cs c rs r before.replies line (subst (λ w. IsReply c.1 w r.reply) before.world h.reply);
      world = h.world ∙ ap (next_world c.1) before.world ∙ sym (played_push (map (λ d. d.1) cs) c.1 start.world) ∙ sym (ap (λ l. played l start.world) (map_push (λ (d : ℕ × Command). d.1) cs c));
      searched = rw all (omega arith);
      few = rw (all, long) (omega arith);
    }

-- the next command of a script was done or refused
pub replied_more : (cs : List (ℕ × Command)) (i : ℕ) (d : ℕ × Command) (start old new : State) (rs more : List LineReply) (r : LineReply) → i < length cs → AreReplied (take i cs) start old rs
    → r.line ≡ (get_or cs i d).0 → IsReplied (get_or cs i d).1 old new r.reply → more ≡ rs ++ r ∷ [] → AreReplied (take (i + 1) cs) start new more
replied_more cs i d start old new rs more r within before line h is =
    subst₂ (λ (l : List (ℕ × Command)) (m : List LineReply). AreReplied l start new m) (sym (take_more cs i d within)) (sym is)
    (replied_push (take i cs) (get_or cs i d) start old new rs r before line h)

one_search : (old new : Scene) (r q : Reply) → SearchesStale old new r → SearchesStale old new q → r ≡ q
one_search old new r q h k =
    let same : k.answers ≡ h.answers = one_list old k.answers h.answers k.right h.right in
    let stale : k.stale ≡ h.stale =
    one_stale_list old h.answers new k.stale h.stale (subst (λ a. AreStale old a new k.stale) same k.are_stale) h.are_stale in
    h.says ∙ sym (ap (λ s. Searched (length s)) stale) ∙ sym k.says

one_done : (c : Command) (old new : Scene) (r q : Reply) → IsReplyOfDone c old new r → IsReplyOfDone c old new q → r ≡ q
one_done Commit old new r q h k = one_search old new r q h k
one_done Undo old new r q h k = h ∙ sym k
one_done Redo old new r q h k = h ∙ sym k
one_done Begin old new r q h k = h ∙ sym k
one_done (Edit e) old new r q h k = h ∙ sym k
one_done Abort old new r q h k = h ∙ sym k
one_done Bad old new r q h k = h ∙ sym k

one_reply : (c : Command) (w : World) (made : Result World CommandRefusal) (r q : Reply) → IsReplyOf c w made r → IsReplyOf c w made q → r ≡ q
one_reply c w (Ok next) r q h k = one_done c w.present next.present r q h k
one_reply c w (Err why) r q h k = h ∙ sym k

pub one_list_of_replies : HaveOneListOfReplies
one_list_of_replies w [] these those h k = h ∙ sym k
one_list_of_replies w (c ∷ cs) [] those h k = absurd h
one_list_of_replies w (c ∷ cs) (r ∷ these) [] h k = absurd k
one_list_of_replies w (c ∷ cs) (r ∷ these) (q ∷ those) h k =
    let line : r.line ≡ q.line = h.0 ∙ sym k.0 in
    let reply : r.reply ≡ q.reply = one_reply c.1 w (step c.1 w) r.reply q.reply h.1 k.1 in
    λ i. record { line = line i; reply = reply i } ∷ one_list_of_replies (next_world c.1 w) cs these those h.2 k.2 i
