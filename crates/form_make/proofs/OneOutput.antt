-- A seed has one output and one number of searches, since replies and right answers are one list.
use Rattle.std.proofs.Common.{◌≡◌, ℕ, ◌+◌, List, length, sym, ap, subst₂, ◌∙◌}
use Rattle.std.specs.List.{sum_by}
use Rattle.walk_model.specs.declared.route.Answer.{Answer}
use Rattle.scene_model.specs.Scene.{connectors}
use Rattle.scene_model.specs.World.{opened}
use Rattle.scene_model.proofs.ForRouting.OneList.{one_list}
use Rattle.form_make.specs.declared.summary.Summary.{Summary}
use Rattle.form_make.specs.Made.{made_scene}
use Rattle.form_make.specs.Summary.{summary_text}
use Rattle.script_replay.specs.Replies.{HaveOneListOfReplies, searched_in, world_after}
use Rattle.form_make.specs.Makes.{SeedsComeToOne, made_script}
use Rattle.form_make.specs.Sums.{SumsUp}
use Rattle.form_make.proofs.Bends.{bends_are}

same_summary : (answers : List Answer) (searched : ℕ) (m n : Summary) → SumsUp answers searched m → SumsUp answers searched n → m ≡ n
same_summary answers searched m n h k =
    let counts : h.bend_counts ≡ k.bend_counts = bends_are answers h.bend_counts h.have_bends ∙ sym (bends_are answers k.bend_counts k.have_bends) in
    let routed = h.routed ∙ sym k.routed in
    let unrouted = h.unrouted ∙ sym k.unrouted in
    let cost = h.cost ∙ sym k.cost in
    let bends = h.bends ∙ ap (sum_by (λ count. count)) counts ∙ sym k.bends in
    let searches = h.searched ∙ sym k.searched in
    λ i. record { routed = routed i; unrouted = unrouted i; cost = cost i; bends = bends i; searched = searches i }

pub one_output : HaveOneListOfReplies → SeedsComeToOne
one_output one_list_of_replies seed text other searched more h k =
    let script = made_script seed in
    let replies : h.replies ≡ k.replies = one_list_of_replies (opened (made_scene seed)) script h.replies k.replies h.are_replies k.are_replies in
    let count : searched ≡ more = h.searched ∙ ap (λ rs. length (connectors (made_scene seed)) + searched_in rs) replies ∙ sym k.searched in
    let answers : h.answers ≡ k.answers = one_list (world_after (made_scene seed) script).present h.answers k.answers h.right k.right in
    let sums = subst₂ (λ rs n. SumsUp rs n h.summary) answers count h.sums_up in
    (h.text ∙ ap summary_text (same_summary k.answers more h.summary k.summary sums k.sums_up) ∙ sym k.text, count)
