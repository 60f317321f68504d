-- A step that is lent while it moves.
use Rattle.std.specs.Prelude.{◌∷◌, drop, Option}
use Rattle.std.specs.Borrow.{LendsIf, MutBor, Fml, RattleType}
use Rattle.undo_log.specs.Log.{Log}
use Rattle.undo_log.specs.declared.step.Step.{Step}
use Rattle.undo_log.specs.contracts.log.UndoLog.{the_row}
use Rattle.undo_log.specs.contracts.step.Step.{the_row as step_row}

-- the log after its latest past step moved to the future, and after its next future step moved to the past, each replaced by this step
abbrev pub gone_back : {C : Type 0} → Log C → Step C → Log C
gone_back l step = record { past = drop 1 l.past; future = step ∷ l.future }

abbrev pub gone_forth : {C : Type 0} → Log C → Step C → Log C
gone_forth l step = record { past = step ∷ l.past; future = drop 1 l.future }

module _ (C : RattleType) where
  -- the step that moved is lent, and the log keeps what is written to it
  abbrev pub LendsBack : MutBor (Log C.Denot) → Option (MutBor (Step C.Denot)) → Fml
  LendsBack l r = LendsIf (the_row C) (step_row C) l r (gone_back l.now) l.now

  abbrev pub LendsForth : MutBor (Log C.Denot) → Option (MutBor (Step C.Denot)) → Fml
  LendsForth l r = LendsIf (the_row C) (step_row C) l r (gone_forth l.now) l.now
