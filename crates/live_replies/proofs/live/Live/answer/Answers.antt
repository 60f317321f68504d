-- The paths that routes share are said, or that no memory was left.
use Rattle.std.proofs.Common.{◌≡◌, ◌⊎◌, List, ℕ, Result, Ok, Err, Vec, inl, inr, refl, sym, ap, subst}
use Rattle.std.specs.Prelude.{IfOk}
use Rattle.std.specs.declared.alloc.AllocError.{AllocError}
use Rattle.std.specs.declared.alloc.Global.{Global}
use Rattle.drawing.specs.Drawing.{DrawingState}
use Rattle.live_replies.specs.declared.reply.Said.{Said}
use Rattle.live_replies.specs.declared.request.Request.{Request}
use Rattle.live_replies.specs.Answers.{Answers, AnswersNoMemory}
use Rattle.live_replies.specs.Checks.{SaysShared}
use Rattle.live_replies.specs.Said.{IsTextOrNoMemory, said_bytes}
use Rattle.live_replies.proofs.live.Live.answer.Goals as goal

shared_or_none : (inside old : DrawingState) (text : Result (Vec ℕ Global) AllocError) (said : Said) → inside ≡ old → IfOk text (λ t. SaysShared inside.session t.items)
    → IsTextOrNoMemory text said → ((old ≡ old) × SaysShared old.session (said_bytes said)) ⊎ AnswersNoMemory old old (said_bytes said)
shared_or_none inside old (Ok text) said same says is =
    inl (refl, subst (λ (s : Said). SaysShared old.session (said_bytes s)) (sym is) (subst (λ (d : DrawingState). SaysShared d.session text.items) same says))
shared_or_none inside old (Err none) said same says is = inr (refl, ap said_bytes is)

pub returns-in-Shared : goal.returns-in-Shared
returns-in-Shared g c =
    subst (λ (r : Request). Answers r c.args.self.now c.args.self.now (said_bytes c.of-in-Shared.result)) (sym c.in-Shared.is)
    (shared_or_none c.self-in-Shared.inside.drawing c.args.self.now c.shared_text.result c.of-in-Shared.result c.self-in-Shared.view_is c.shared_text.ensures c.of-in-Shared.ensures)
