-- A preview, and the commit right after it.
use Rattle.std.specs.Prelude.{◌≡◌, ◌⊎◌, ℕ, List, Ok}
use Rattle.scene_model.specs.Valid.{IsValid}
use Rattle.scene_model.specs.declared.edit.Command.TheVariants.{Commit}
use Rattle.session_model.specs.Calls.{IsCall}
use Rattle.drawing.specs.Drawing.{DrawingState}
use Rattle.live_replies.specs.Answers.{ReportsChanges, ReportsPreview}
use Rattle.live_replies.specs.Texts.{unreported_line}

-- the law: a commit that is done reports what the preview right before it reported, or that no memory is left to report it
abbrev pub PreviewsAreCommits : Type 0
PreviewsAreCommits =
    (old middle new : DrawingState) (previewed said : List ℕ) → IsValid new.session.world.present → ReportsPreview old middle previewed →
    IsCall Commit (Ok tt) middle.session new.session → ReportsChanges middle.reported new said → (said ≡ previewed) ⊎ (said ≡ unreported_line)
