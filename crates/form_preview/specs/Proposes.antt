-- The output for the proposals of a script: the answers to them, or the first line that is refused.
use Rattle.std.specs.Prelude.{◌≡◌, ℕ, ◌+◌, Bool, true, false, List, [], ◌∷◌, ◌++◌, length}
use Rattle.std.specs.List.{list_any}
use Rattle.walk_model.specs.declared.route.Answer.{Answer}
use Rattle.scene_model.specs.declared.edit.Command.{Command}
use Rattle.scene_model.specs.Scene.{Scene, connectors}
use Rattle.scene_model.specs.Answers.{AreAnswers}
use Rattle.report_text.specs.declared.reply.Reply.TheVariants as replies
use Rattle.report_text.specs.Outcome.{Outcome, counted}
use Rattle.report_text.specs.Previews.{preview_lines, refused_preview_line}
use Rattle.report_text.specs.Replies.{end_line, reply_text}
use Rattle.preview.specs.declared.answer.Previewed.{Previewed}
use Rattle.preview.specs.declared.answer.Previewed.TheVariants.{Committed, Refused}
use Rattle.preview.specs.declared.proposals.Proposal.{Proposal}
use Rattle.preview.specs.Previews.{ArePreviews}
use Rattle.form_route.specs.Report.{edges_routed, script_status}
use Rattle.form_preview.specs.Blocks.{Blocks, proposals, refused_at, unfinished, blocks_of}

-- the lines of the answer to the proposal with this number
abbrev pub answer_lines : ℕ → Previewed → List ℕ
answer_lines number (Committed after book searched) = preview_lines number searched (edges_routed after book)
answer_lines number (Refused place fault) = refused_preview_line number place fault

-- the lines of the answers to proposals with numbers from this one
abbrev pub lines_from : ℕ → List Previewed → List ℕ
lines_from number [] = []
lines_from number (p ∷ ps) = answer_lines number p ++ lines_from (number + 1) ps

-- the proposal is refused
abbrev pub is_refusal : Previewed → Bool
is_refusal (Committed after book searched) = false
is_refusal (Refused place fault) = true

-- the answers to the proposals on the scene, and whether one of them is refused
pub record Answers (s : Scene) (asked : List Proposal) (text : List ℕ) (is_any_refused : Bool) : Type 0 where
  pub answers : List Answer
  pub right : AreAnswers s answers
  pub previews : List Previewed
  pub are_previews : ArePreviews s answers asked previews
  pub is_text : text ≡ lines_from 1 previews
  pub refusal : is_any_refused ≡ list_any is_refusal previews

-- the output for these blocks, and whether something is refused; a refused line, or a block without `commit`, is the whole output
abbrev pub ProposesBlocks : Scene → Blocks → List ℕ → Bool → Type 0
ProposesBlocks s (proposals asked) text is_any_refused = Answers s asked text is_any_refused
ProposesBlocks s (refused_at line why) text is_any_refused = (text ≡ reply_text false line (replies.Refused why)) × (is_any_refused ≡ true)
ProposesBlocks s unfinished text is_any_refused = (text ≡ end_line true) × (is_any_refused ≡ true)

-- the output for the proposals of a script on the scene, and whether a proposal, a line or the end of the script is refused
abbrev pub Proposes : Scene → List (ℕ × Command) → List ℕ → Bool → Type 0
Proposes s commands text is_any_refused = ProposesBlocks s (blocks_of commands) text is_any_refused

-- how many connectors are searched for the scene itself, which is opened only where something is proposed
abbrev pub opening_searches : Scene → Blocks → ℕ
opening_searches s (proposals asked) = length (connectors s)
opening_searches s (refused_at line why) = 0
opening_searches s unfinished = 0

-- the output for these blocks is the outcome
pub record PreviewsBlocks (s : Scene) (blocks : Blocks) (o : Outcome) : Type 0 where
  pub text : List ℕ
  pub refused : Bool
  pub proposes : ProposesBlocks s blocks text refused
  pub outcome : o ≡ counted (script_status refused) text (opening_searches s blocks)

-- what each proposal of the commands would give on the scene is the outcome
abbrev pub Previews : Scene → List (ℕ × Command) → Outcome → Type 0
Previews s commands = PreviewsBlocks s (blocks_of commands)

-- the law: the proposals of a script have at most one output, and one verdict
pub record IsSameOutput (text other : List ℕ) (refused other_refused : Bool) : Type 0 where
  pub same_text : text ≡ other
  pub same_verdict : refused ≡ other_refused

abbrev pub ComeToOne : Type 0
ComeToOne =
    (s : Scene) (commands : List (ℕ × Command)) (text other : List ℕ) (refused other_refused : Bool) →
    Proposes s commands text refused → Proposes s commands other other_refused → IsSameOutput text other refused other_refused
