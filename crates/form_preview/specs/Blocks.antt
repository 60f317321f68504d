-- The proposals of a script: blocks of `begin`, edits and `commit`.
use Rattle.std.specs.Prelude.{ℕ, nat_lt, if◌then◌else◌, List, [], ◌∷◌, ◌++◌, length, Option, None, Some, Result, Ok, Err}
use Rattle.scene_model.specs.declared.edit.Edit.{Edit as SceneEdit}
use Rattle.scene_model.specs.declared.edit.Command.{Command}
use Rattle.scene_model.specs.declared.edit.Command.TheVariants.{Begin, Edit, Commit}
use Rattle.scene_model.specs.declared.fault.SceneFault.TheVariants.{TooMany}
use Rattle.scene_model.specs.declared.fault.SessionFault.TheVariants as faults
use Rattle.report_text.specs.declared.refusal.Refusal.{Refusal}
use Rattle.report_text.specs.declared.refusal.Refusal.TheVariants as refusals
use Rattle.preview.specs.declared.proposals.Proposal.{Proposal}

-- what was read: the blocks that are closed, and the edits of the open one
pub record Read : Type 0 where
  pub closed : List Proposal
  pub current : Option (List SceneEdit)

-- a script has blocks alone, each a proposal; or the command on a line is refused; or the last block has no `commit`
pub data Blocks : Type 0 where
  proposals : List Proposal → Blocks
  refused_at : ℕ → Refusal → Blocks
  unfinished : Blocks

-- the refusal of a 65th block
abbrev pub too_many : Refusal
too_many = refusals.Command (faults.Edit (TooMany 64))

-- a block begins, if there are not 64 blocks yet
abbrev pub begun : List Proposal → Result Read Refusal
begun closed = if nat_lt (length closed) 64 then Ok (record { closed = closed; current = Some [] }) else Err too_many

-- what is read after the command, or why it is refused: blocks do not nest, and nothing stands outside them
abbrev pub read_on : Command → List Proposal → Option (List SceneEdit) → Result Read Refusal
read_on Begin closed None = begun closed
read_on (Edit e) closed (Some edits) = Ok (record { closed = closed; current = Some (edits ++ e ∷ []) })
read_on Commit closed (Some edits) = Ok (record { closed = closed ++ record { edits = edits } ∷ []; current = None })
read_on command closed current = Err refusals.Syntax

-- the script ends here
abbrev pub ended : List Proposal → Option (List SceneEdit) → Blocks
ended closed None = proposals closed
ended closed (Some edits) = unfinished

-- the script goes on where the command on this line is not refused
abbrev pub unless_refused : ℕ → (Read → Blocks) → Result Read Refusal → Blocks
unless_refused line rest (Ok read) = rest read
unless_refused line rest (Err why) = refused_at line why

-- the blocks of the commands, each with its line, where this was read before them
abbrev pub blocks_from : List (ℕ × Command) → Read → Blocks
blocks_from [] read = ended read.closed read.current
blocks_from (c ∷ commands) read = unless_refused c.0 (blocks_from commands) (read_on c.1 read.closed read.current)

-- the blocks of a script
abbrev pub blocks_of : List (ℕ × Command) → Blocks
blocks_of commands = blocks_from commands (record { closed = []; current = None })
