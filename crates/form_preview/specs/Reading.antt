-- What the code makes of a script. No public clause cites this module.
use Rattle.std.specs.Prelude.{◌≡◌, ℕ, List, Option, None, Some, option_map, Ok, Err}
use Rattle.scene_model.specs.declared.edit.Command.{Command}
use Rattle.report_text.specs.declared.refusal.Refusal.{Refusal}
use Rattle.form_preview.specs.declared.blocks.Reader.{Reader}
use Rattle.form_preview.specs.declared.blocks.Script.{Script}
use Rattle.form_preview.specs.declared.blocks.Script.TheVariants.{Proposals, Refused, Unfinished}
use Rattle.form_preview.specs.Blocks.{Blocks, Read, blocks_from, ended, proposals, read_on, refused_at, unfinished}

-- what a reader has read
abbrev pub read_by : Reader → Read
read_by r = record { closed = r.closed.items; current = option_map (λ edits. edits.items) r.current }

-- the reader has read the command, or it is refused
abbrev pub ReadsOn : Command → Reader → Reader → Option Refusal → Type 0
ReadsOn command old new None = read_on command (read_by old).closed (read_by old).current ≡ Ok (read_by new)
ReadsOn command old new (Some why) = read_on command (read_by old).closed (read_by old).current ≡ Err why

-- the reader has read all commands, or the one on this line is refused
abbrev pub ReadsAll : List (ℕ × Command) → Reader → Reader → Option (ℕ × Refusal) → Type 0
ReadsAll commands old new None = blocks_from commands (read_by old) ≡ ended (read_by new).closed (read_by new).current
ReadsAll commands old new (Some stop) = blocks_from commands (read_by old) ≡ refused_at stop.0 stop.1

-- the blocks that a script has
abbrev pub blocks_in : Script → Blocks
blocks_in (Proposals asked) = proposals asked.items
blocks_in (Refused line why) = refused_at line why
blocks_in Unfinished = unfinished
