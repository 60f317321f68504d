-- The reply to a request.
use Rattle.std.specs.Prelude.{◌≡◌, ◌⊎◌, ℕ, List, ◌++◌, Option, None, Some, Result, Ok, Err}
use Rattle.host_edge.specs.declared.line_source.LineRead.{LineRead}
use Rattle.host_edge.specs.declared.line_source.LineRead.TheVariants.{Whole, TooLong, End}
use Rattle.gml_text.specs.Bytes.{quote}
use Rattle.gml_text.specs.Grammar.{Lacks}
use Rattle.scene_model.specs.Scene.{Scene}
use Rattle.walk_model.specs.declared.route.WrittenRoute.{WrittenRoute}
use Rattle.scene_model.specs.declared.edit.Command.{Command}
use Rattle.scene_model.specs.declared.edit.Command.TheVariants.{Begin, Edit, Commit, Abort, Undo, Redo, Bad}
use Rattle.scene_model.specs.declared.fault.SessionFault.{SessionFault}
use Rattle.scene_model.specs.declared.fault.SessionFault.TheVariants.{Memory, NoTransaction}
use Rattle.report_text.specs.declared.refusal.Refusal.TheVariants as refusals
use Rattle.session_model.specs.Calls.{IsCall}
use Rattle.drawing.specs.Changes.{asked_of}
use Rattle.drawing.specs.Drawing.{DrawingState, IsWritten, RollsBack, edited_scene, next_edge}
use Rattle.drawing.specs.Labelled.{GivesLabel}
use Rattle.drawing.specs.declared.labels.Labelled.{Labelled}
use Rattle.drawing.specs.Lines.{AreDrawn, AreProposed}
use Rattle.live_replies.specs.declared.request.Request.{Request}
use Rattle.live_replies.specs.declared.request.Request.TheVariants.{Nothing, Do, Label, Reconnect, Preview, Lines, Gml, Next, ReadScene, Why, Shared, Crossings, Check, Quit}
use Rattle.live_replies.specs.Changes.{changes, changes_text}
use Rattle.live_replies.specs.Checks.{SaysCrossings, SaysShared, SaysVerdict}
use Rattle.live_replies.specs.Reconnect.{AnswersReconnect}
use Rattle.live_replies.specs.Requests.{request_of}
use Rattle.live_replies.specs.Scene.{scene_lines}
use Rattle.live_replies.specs.Texts.{drawn_texts, gml_text, next_text, no_memory_line, ok_line, refused_line, too_long_line, unreported_line}
use Rattle.live_replies.specs.Why.{SaysWhy}

-- the lines of the present scene are those that are reported now
abbrev pub ReportsPresent : DrawingState → Type 0
ReportsPresent new = AreDrawn new.session.world.present new.session.book new.reported

-- the changes from the lines that were reported before to those of the present scene; or no memory is left to report them
abbrev pub ReportsChanges : List WrittenRoute → DrawingState → List ℕ → Type 0
ReportsChanges before new said =
    (ReportsPresent new × (said ≡ changes_text (changes (asked_of before new.reported)) ++ ok_line)) ⊎ ((new.reported ≡ before) × (said ≡ unreported_line))

-- nothing is to be reported
abbrev pub ReportsNothing : List WrittenRoute → DrawingState → List ℕ → Type 0
ReportsNothing before new said = (new.reported ≡ before) × (said ≡ ok_line)

-- the reply to a command that is done: a commit, an undo and a redo report what they changed
abbrev pub ReportsDone : Command → List WrittenRoute → DrawingState → List ℕ → Type 0
ReportsDone Begin before new said = ReportsNothing before new said
ReportsDone (Edit e) before new said = ReportsNothing before new said
ReportsDone Commit before new said = ReportsChanges before new said
ReportsDone Abort before new said = ReportsNothing before new said
ReportsDone Undo before new said = ReportsChanges before new said
ReportsDone Redo before new said = ReportsChanges before new said
ReportsDone Bad before new said = ⊥

-- the reply to a command whose call has this result; a refusal whose text finds no memory is reported as no memory
abbrev pub ReportsResult : Command → Result Unit SessionFault → List WrittenRoute → DrawingState → List ℕ → Type 0
ReportsResult c (Ok done) before new said = ReportsDone c before new said
ReportsResult c (Err Memory) before new said = (new.reported ≡ before) × (said ≡ no_memory_line)
ReportsResult c (Err fault) before new said = (new.reported ≡ before) × ((said ≡ refused_line (refusals.Command fault)) ⊎ (said ≡ no_memory_line))

-- the call of a command, and what is reported of its result
pub record AnswersCall (c : Command) (old new : DrawingState) (said : List ℕ) : Type 0 where
  pub result : Result Unit SessionFault
  pub call : IsCall c result old.session new.session
  pub reports : ReportsResult c result old.reported new said
  pub document : new.document ≡ old.document
  pub labels : new.labels ≡ old.labels

-- the reply to a command
abbrev pub AnswersCommand : Command → DrawingState → DrawingState → List ℕ → Type 0
AnswersCommand Bad old new said = RollsBack old new × ((said ≡ refused_line refusals.Syntax) ⊎ (said ≡ no_memory_line))
AnswersCommand c old new said = AnswersCall c old new said

-- no memory is left, and nothing changes
abbrev pub AnswersNoMemory : DrawingState → DrawingState → List ℕ → Type 0
AnswersNoMemory old new said = (new ≡ old) × (said ≡ no_memory_line)

-- the changes that a commit would report; the transaction stays open
pub record ReportsPreview (old new : DrawingState) (said : List ℕ) : Type 0 where
  pub lines : List WrittenRoute
  pub proposed : AreProposed old.session lines
  pub is_said : said ≡ changes_text (changes (asked_of old.reported lines)) ++ ok_line
  pub stays : new ≡ old

-- the reply to `preview`, by the working scene: it is refused where no transaction is open
abbrev pub AnswersPreview : Option Scene → DrawingState → DrawingState → List ℕ → Type 0
AnswersPreview None old new said = (new ≡ old) × (said ≡ refused_line (refusals.Command NoTransaction))
AnswersPreview (Some working) old new said = ReportsPreview old new said

-- all lines of the session, which are reported now
pub record ReportsLines (old new : DrawingState) (said : List ℕ) : Type 0 where
  pub session : new.session ≡ old.session
  pub document : new.document ≡ old.document
  pub labels : new.labels ≡ old.labels
  pub present : ReportsPresent new
  pub is_said : said ≡ drawn_texts new.reported ++ ok_line

-- the diagram
abbrev pub ReportsDiagram : DrawingState → DrawingState → List ℕ → Type 0
ReportsDiagram old new said = (new ≡ old) × ((text : List ℕ) × IsWritten old text × (said ≡ gml_text text ++ ok_line))

-- the number of the next connector that is added, in the open transaction if one is open
abbrev pub ReportsNext : DrawingState → DrawingState → List ℕ → Type 0
ReportsNext old new said = (new ≡ old) × (said ≡ next_text (next_edge old.session.world) ++ ok_line)

-- the scene that the next edit changes: that of the open transaction, if one is open
abbrev pub ReportsScene : DrawingState → DrawingState → List ℕ → Type 0
ReportsScene old new said =
    (new ≡ old) × (said ≡ scene_lines (edited_scene old.session.world.working old.session.world.present) old.session.book ++ ok_line)

-- a label is given; or it has a quote, and so is no valid line; or no memory is left for it
abbrev pub AnswersLabel : Labelled → List ℕ → DrawingState → DrawingState → List ℕ → Type 0
AnswersLabel what text old new said =
    (GivesLabel what text old new × (said ≡ ok_line)) ⊎ ((Lacks quote text → ⊥) × AnswersCommand Bad old new said) ⊎ AnswersNoMemory old new said

-- the reply to a request
abbrev pub Answers : Request → DrawingState → DrawingState → List ℕ → Type 0
Answers Nothing old new said = (new ≡ old) × (said ≡ ok_line)
Answers (Do command) old new said = AnswersCommand command old new said
Answers (Label what text) old new said = AnswersLabel what text old new said
Answers (Reconnect number end id class) old new said = AnswersReconnect number end id class old new said
Answers Preview old new said = AnswersPreview old.session.world.working old new said ⊎ AnswersNoMemory old new said
Answers Lines old new said = ReportsLines old new said ⊎ AnswersNoMemory old new said
Answers Gml old new said = ReportsDiagram old new said ⊎ AnswersNoMemory old new said
Answers Next old new said = ReportsNext old new said ⊎ AnswersNoMemory old new said
Answers ReadScene old new said = ReportsScene old new said ⊎ AnswersNoMemory old new said
Answers Why old new said = ((new ≡ old) × SaysWhy old.session said) ⊎ AnswersNoMemory old new said
Answers Shared old new said = ((new ≡ old) × SaysShared old.session said) ⊎ AnswersNoMemory old new said
Answers Crossings old new said = ((new ≡ old) × SaysCrossings old.session said) ⊎ AnswersNoMemory old new said
Answers (Check number corners) old new said = ((new ≡ old) × SaysVerdict number corners old.session said) ⊎ AnswersNoMemory old new said
Answers Quit old new said = (new ≡ old) × (said ≡ ok_line)

-- the reply to a line that was read so: one that is too long, and one that finds no memory, rolls back the transaction
abbrev pub AnswersRead : LineRead → List ℕ → DrawingState → DrawingState → List ℕ → Type 0
AnswersRead Whole line old new said = Answers (request_of line) old new said ⊎ (RollsBack old new × (said ≡ no_memory_line))
AnswersRead TooLong line old new said = RollsBack old new × (said ≡ too_long_line)
AnswersRead End line old new said = ⊥
