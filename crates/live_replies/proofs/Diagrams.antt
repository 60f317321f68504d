-- A session that is served keeps its diagram.
use Rattle.std.proofs.Common.{◌≡◌, ℕ, List, [], ◌∷◌, Option, None, Some, Result, Ok, Err, inl, inr, sym, ap, ◌∙◌}
use Rattle.host_edge.specs.declared.line_source.LineRead.{LineRead}
use Rattle.host_edge.specs.declared.line_source.LineRead.TheVariants.{Whole, TooLong, End as NoLine}
use Rattle.scene_model.specs.Scene.{Scene}
use Rattle.scene_model.specs.declared.edit.Command.{Command}
use Rattle.scene_model.specs.declared.edit.Command.TheVariants.{Begin, Edit, Commit, Abort, Undo, Redo, Bad}
use Rattle.live_replies.specs.declared.request.Request.{Request}
use Rattle.live_replies.specs.declared.request.Request.TheVariants.{Nothing, Do, Label, Reconnect, Preview, Lines, Gml, Next, ReadScene, Why, Shared, Crossings, Check, Quit as AskForEnd}
use Rattle.live_replies.specs.declared.serving.End.{End}
use Rattle.live_replies.specs.declared.serving.End.TheVariants.{Input, Quit}
use Rattle.live_replies.specs.declared.serving.ServeFault.{ServeFault}
use Rattle.live_replies.specs.declared.serving.ServeFault.TheVariants.{Read, Write, Memory, Exhausted}
use Rattle.drawing.specs.Drawing.{DrawingState, edited_scene}
use Rattle.drawing.specs.Reconnect.{reconnection}
use Rattle.drawing.proofs.Reconnecting.{made_keeps}
use Rattle.live_replies.specs.Answers.{Answers, AnswersCommand, AnswersPreview, AnswersRead}
use Rattle.live_replies.specs.Requests.{request_of}
use Rattle.live_replies.specs.Serves.{AreTurns, DiagramsStay, EndsTurn, Moment, Turn}

module _ (old new : DrawingState) (said : List ℕ) where
  same : new ≡ old → new.document ≡ old.document
  same is = ap (λ (l : DrawingState). l.document) is

  after_command : (c : Command) → AnswersCommand c old new said → new.document ≡ old.document
  after_command Begin h = h.document
  after_command (Edit e) h = h.document
  after_command Commit h = h.document
  after_command Abort h = h.document
  after_command Undo h = h.document
  after_command Redo h = h.document
  after_command Bad h = h.0.keeps.document

  after_preview : (working : Option Scene) → AnswersPreview working old new said → new.document ≡ old.document
  after_preview None h = same h.0
  after_preview (Some s) h = same h.stays

  after_request : (r : Request) → Answers r old new said → new.document ≡ old.document
  after_request Nothing h = same h.0
  after_request (Do c) h = after_command c h
  after_request (Label what text) (inl h) = h.0.document
  after_request (Label what text) (inr (inl h)) = h.1.0.keeps.document
  after_request (Label what text) (inr (inr h)) = same h.0
  after_request (Reconnect number end id class) h =
      (made_keeps (reconnection (edited_scene old.session.world.working old.session.world.present) number end id class) h.answer old new h.reconnected).document
  after_request Preview (inl h) = after_preview old.session.world.working h
  after_request Preview (inr h) = same h.0
  after_request Lines (inl h) = h.document
  after_request Lines (inr h) = same h.0
  after_request Gml (inl h) = same h.0
  after_request Gml (inr h) = same h.0
  after_request Next (inl h) = same h.0
  after_request Next (inr h) = same h.0
  after_request ReadScene (inl h) = same h.0
  after_request ReadScene (inr h) = same h.0
  after_request Why (inl h) = same h.0
  after_request Why (inr h) = same h.0
  after_request Shared (inl h) = same h.0
  after_request Shared (inr h) = same h.0
  after_request Crossings (inl h) = same h.0
  after_request Crossings (inr h) = same h.0
  after_request (Check number corners) (inl h) = same h.0
  after_request (Check number corners) (inr h) = same h.0
  after_request AskForEnd h = same h.0

  after_reading : (read : LineRead) (line : List ℕ) → AnswersRead read line old new said → new.document ≡ old.document
  after_reading Whole line (inl h) = after_request (request_of line) h
  after_reading Whole line (inr h) = h.0.keeps.document
  after_reading TooLong line h = h.0.keeps.document
  after_reading NoLine line h = absurd h

after_turns : (a b : Moment) (turns : List Turn) → AreTurns a turns b → b.live.document ≡ a.live.document
after_turns a b [] h = ap (λ (m : Moment). m.live.document) (sym h)
after_turns a b (t ∷ turns) h = after_turns t.after b turns h.2 ∙ after_reading a.live t.after.live t.said t.read t.line h.0.answered

after_last : (last : Result (Option End) ServeFault) (a b : Moment) → EndsTurn last a b → b.live.document ≡ a.live.document
after_last (Ok None) a b h = after_turns a b h.turns h.are_turns
after_last (Ok (Some Input)) a b h = ap (λ (l : DrawingState). l.document) h.0.live
after_last (Ok (Some Quit)) a b h =
    ap (λ (m : Moment). m.live.document) (sym h.leads) ∙ after_reading a.live h.turn.after.live h.turn.said h.turn.read h.turn.line h.is_turn.answered
after_last (Err Read) a b h = ap (λ (l : DrawingState). l.document) h.live
after_last (Err Write) a b h = after_reading a.live b.live h.turn.said h.turn.read h.turn.line h.answered
after_last (Err Memory) a b h = absurd h
after_last (Err Exhausted) a b h = absurd h

pub diagrams_stay : DiagramsStay
diagrams_stay last a b h = after_last last h.middle b h.ended ∙ after_turns a h.middle h.served.turns h.served.are_turns
