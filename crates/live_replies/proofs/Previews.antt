-- A commit reports what the preview before it reported.
use Rattle.std.proofs.Common.{◌≡◌, List, ◌++◌, Result, Ok, inl, inr, sym, ap, ◌∙◌, subst}
use Rattle.walk_model.specs.declared.route.Answer.{Answer}
use Rattle.walk_model.specs.declared.route.WrittenRoute.{WrittenRoute}
use Rattle.scene_model.specs.declared.edit.Command.TheVariants.{Commit}
use Rattle.scene_model.specs.Answers.{HaveOneList}
use Rattle.scene_model.specs.Scene.{Scene}
use Rattle.scene_model.specs.Valid.{IsValid}
use Rattle.scene_model.specs.World.{World, CommandRefusal}
use Rattle.session_model.specs.Calls.{IsCall}
use Rattle.nudge_phases.specs.Nudged.{AreLines, HaveOneNudged}
use Rattle.drawing.specs.Changes.{asked_of}
use Rattle.drawing.specs.Drawing.{DrawingState}
use Rattle.live_replies.specs.Changes.{changes, changes_text}
use Rattle.live_replies.specs.Previews.{PreviewsAreCommits}
use Rattle.live_replies.specs.Texts.{ok_line}

-- a call that is done leads to its world
abbrev done : World → Result World CommandRefusal
done w = Ok w

led_to : {v w : World} → done v ≡ Ok w → v ≡ w
led_to h = cc

module _ (one_answers : HaveOneList) (one_nudged : HaveOneNudged) where
  -- a valid scene has one list of lines
  same_lines : (s : Scene) (answers others : List Answer) (these those : List WrittenRoute) → IsValid s → AreLines s answers these → AreLines s others those → these ≡ those
  same_lines s answers others these those valid a b =
      let moved = subst (λ (found : List Answer). AreLines s found those) (sym (one_answers s answers others a.right b.right)) b in
      one_nudged s answers these those valid a.right a.nudged moved.nudged

  pub commits_report : PreviewsAreCommits
  commits_report old middle new previewed said valid p call (inr unreported) = inr unreported.1
  commits_report old middle new previewed said valid p call (inl reported) =
      let after = p.proposed.after in
      let done = subst (λ (l : DrawingState). IsCall Commit (Ok tt) l.session new.session) p.stays call in
      let world : after.world ≡ new.session.world = led_to (sym p.proposed.commit.ok ∙ done.ok) in
      let are = subst (λ (w : World). AreLines w.present after.book p.lines) world p.proposed.drawn.are_lines in
      let lines : p.lines ≡ new.reported = same_lines new.session.world.present after.book new.session.book p.lines new.reported valid are reported.0.are_lines in
      inl (reported.1
      ∙ ap (λ (l : DrawingState). changes_text (changes (asked_of l.reported new.reported)) ++ ok_line) p.stays
      ∙ ap (λ (ls : List WrittenRoute). changes_text (changes (asked_of old.reported ls)) ++ ok_line) (sym lines)
      ∙ sym p.is_said)
