-- Proposed transactions compared with the calls of a session.
use Rattle.std.specs.Prelude.{◌≡◌, ℕ, ◌+◌, List, [], ◌∷◌, ◌++◌, length, map, Ok, Err}
use Rattle.scene_model.specs.declared.edit.Edit.{Edit}
use Rattle.scene_model.specs.declared.edit.Command.TheVariants as commands
use Rattle.scene_model.specs.declared.fault.SceneFault.{SceneFault}
use Rattle.scene_model.specs.declared.fault.SessionFault.TheVariants as faults
use Rattle.scene_model.specs.Answers.{AreAnswers}
use Rattle.line_arena.specs.Count.{counted_by}
use Rattle.route_book.specs.Exchange.{CountsStale}
use Rattle.session_model.specs.State.{State}
use Rattle.session_model.specs.Calls.{AreCalls, CommandResult}
use Rattle.preview.specs.declared.answer.Previewed.TheVariants.{Committed, Refused}
use Rattle.preview.specs.Previews.{IsPreview}

-- the call of an edit that is done
abbrev pub edit_done : Edit → CommandResult
edit_done e = record { command = commands.Edit e; answer = Ok tt }

-- the calls of a transaction that is committed
abbrev pub committed : List Edit → List CommandResult
committed edits =
    record { command = commands.Begin; answer = Ok tt } ∷ (map edit_done edits ++ record { command = commands.Commit; answer = Ok tt } ∷ [])

-- the calls of a transaction up to the edit that is refused
abbrev pub stopped_at : List Edit → Edit → SceneFault → List CommandResult
stopped_at edits e fault =
    record { command = commands.Begin; answer = Ok tt } ∷ (map edit_done edits ++ record { command = commands.Edit e; answer = Err (faults.Edit fault) } ∷ [])

-- the law: where a session commits the edits, their answer is the scene, the book and the number of searches that the session gets
abbrev pub CommitsArePreviewed : Type 0
CommitsArePreviewed =
    (edits : List Edit) (old new : State) → AreAnswers old.world.present old.book → AreCalls (committed edits) old new →
    CountsStale old.world.present old.book new.world.present old.searched new.searched →
    (searched : ℕ) × IsPreview old.world.present old.book edits (Committed new.world.present new.book searched)
    × (new.searched ≡ counted_by searched old.searched)

-- the law: where a session refuses an edit, the answer is the place and the fault of this edit, whatever edits follow
abbrev pub RefusalsArePreviewed : Type 0
RefusalsArePreviewed =
    (edits more : List Edit) (e : Edit) (fault : SceneFault) (old new : State) → AreCalls (stopped_at edits e fault) old new →
    IsPreview old.world.present old.book (edits ++ e ∷ more) (Refused (length edits + 1) fault)
