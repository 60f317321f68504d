-- The outcome of a subcommand: how it ends, and what it writes.
use Rattle.std.specs.Prelude.{ℕ, List, Option, Some, None}
use Rattle.report_text.specs.declared.hint.Hint.{Hint}
use Rattle.report_text.specs.declared.hint.Hint.TheVariants.{Nothing}
use Rattle.report_text.specs.declared.status.Status.{Status}

-- the status, the whole output, the number of connectors that were searched, if that is defined, and what people are told
pub record Outcome : Type 0 where
  pub status : Status
  pub text : List ℕ
  pub searched : Option ℕ
  pub hint : Hint

-- an outcome with this number of searches
abbrev pub counted : Status → List ℕ → ℕ → Outcome
counted status text searched = record { status = status; text = text; searched = Some searched; hint = Nothing }

-- an outcome without a search
abbrev pub unsearched : Status → List ℕ → Outcome
unsearched status text = counted status text 0

-- an outcome of whose searches nothing is said
abbrev pub uncounted : Status → List ℕ → Outcome
uncounted status text = record { status = status; text = text; searched = None; hint = Nothing }

-- an outcome with this hint
abbrev pub hinted : Outcome → Hint → Outcome
hinted outcome hint = record outcome { hint = hint }
