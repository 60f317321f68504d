-- The proposals of a script, said of its commands as a whole.
use Rattle.std.specs.Prelude.{◌≡◌, ◌⊎◌, ℕ, ◌≤◌, List, [], ◌∷◌, ◌++◌, length, map}
use Rattle.std.specs.List.{flat_map}
use Rattle.scene_model.specs.declared.edit.Command.{Command}
use Rattle.scene_model.specs.declared.edit.Command.TheVariants.{Begin, Edit, Commit}
use Rattle.report_text.specs.declared.refusal.Refusal.{Refusal}
use Rattle.report_text.specs.declared.refusal.Refusal.TheVariants.{Syntax}
use Rattle.preview.specs.declared.proposals.Proposal.{Proposal}
use Rattle.form_preview.specs.Blocks.{Blocks, proposals, refused_at, unfinished, blocks_of, too_many}

-- the commands that make a proposal: `begin`, its edits, and `commit`
abbrev pub commands_for : Proposal → List Command
commands_for p = Begin ∷ map Edit p.edits ++ Commit ∷ []

-- those of several proposals, one after another
abbrev pub commands_of : List Proposal → List Command
commands_of asked = flat_map commands_for asked

-- without the numbers of their lines
abbrev pub unnumbered : List (ℕ × Command) → List Command
unnumbered commands = map (λ c. c.1) commands

-- some list of proposals, at most 64, begins with these commands
abbrev pub MayBegin : List Command → Type 0
MayBegin front = (asked : List Proposal) × (rest : List Command) × (length asked ≤ 64) × (front ++ rest ≡ commands_of asked)

-- one more proposal begins after whole ones
abbrev pub IsNextBegin : List Command → Command → Type 0
IsNextBegin front command = (command ≡ Begin) × ((asked : List Proposal) × (front ≡ commands_of asked))

-- why the command may not come after these: it is one proposal too many, or out of place
abbrev pub IsReason : List Command → Command → Refusal → Type 0
IsReason front command why = (IsNextBegin front command × (why ≡ too_many)) ⊎ ((IsNextBegin front command → ⊥) × (why ≡ Syntax))

-- the command on this line is the first with which no list of proposals begins
pub record IsRefusedAt (commands : List (ℕ × Command)) (line : ℕ) (why : Refusal) : Type 0 where
  pub front : List (ℕ × Command)
  pub command : Command
  pub later : List (ℕ × Command)
  pub parts : commands ≡ front ++ (line, command) ∷ later
  pub may_begin : MayBegin (unnumbered front)
  pub goes_wrong : MayBegin (unnumbered front ++ command ∷ []) → ⊥
  pub reason : IsReason (unnumbered front) command why

-- the script is proposals, or has a first command that is refused, or only begins proposals
abbrev pub Says : List (ℕ × Command) → Blocks → Type 0
Says commands (proposals asked) = (unnumbered commands ≡ commands_of asked) × (length asked ≤ 64)
Says commands (refused_at line why) = IsRefusedAt commands line why
Says commands unfinished = MayBegin (unnumbered commands) × ((asked : List Proposal) → unnumbered commands ≡ commands_of asked → ⊥)

-- the law: a script says what is read of it, and nothing else
pub record ScriptsHaveProposals : Type 0 where
  pub said : (commands : List (ℕ × Command)) → Says commands (blocks_of commands)
  pub only : (commands : List (ℕ × Command)) (blocks : Blocks) → Says commands blocks → blocks ≡ blocks_of commands
