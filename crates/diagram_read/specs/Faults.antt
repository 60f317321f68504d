-- Reading step by step: the first step that has a fault ends it.
use Rattle.std.specs.Prelude.{◌≡◌, Bool, true, false, List, [], ◌∷◌, Option, Some, None, Result, Ok, Err}
use Rattle.diagram_read.specs.declared.fault.DiagramFault.{DiagramFault}
use Rattle.diagram_read.specs.declared.fault.DiagramFault.TheVariants.{Memory}

-- one step after the other
infixl 10 ◌>>=◌
abbrev pub ◌>>=◌ : {A B : Type 0} → Result A DiagramFault → (A → Result B DiagramFault) → Result B DiagramFault
(Ok x) >>= next = next x
(Err fault) >>= next = Err fault

-- what has to be present
abbrev pub need : {A : Type 0} → DiagramFault → Option A → Result A DiagramFault
need fault (Some x) = Ok x
need fault None = Err fault

-- what must not hold
abbrev pub refuse : DiagramFault → Bool → Result Unit DiagramFault
refuse fault true = Err fault
refuse fault false = Ok tt

-- the same step for each of a list, from the first to the last
abbrev pub each : {S X : Type 0} → (S → X → Result S DiagramFault) → S → List X → Result S DiagramFault
each step s [] = Ok s
each step s (x ∷ xs) = step s x >>= (λ next. each step next xs)

-- the fault of the reading, or out of memory, on which the reading has no influence
abbrev pub IsFault : {A : Type 0} → Result A DiagramFault → DiagramFault → Type 0
IsFault outcome Memory = Unit {0}
IsFault outcome fault = outcome ≡ Err fault

-- the result of a call that computes the reading
abbrev pub IsRead : {A : Type 0} → Result A DiagramFault → Result A DiagramFault → Type 0
IsRead outcome (Ok x) = outcome ≡ Ok x
IsRead outcome (Err fault) = IsFault outcome fault

-- the same for a call that leaves what it reads in a reference
abbrev pub IsReadInto : {A : Type 0} → Result A DiagramFault → A → Result Unit DiagramFault → Type 0
IsReadInto outcome x (Ok done) = outcome ≡ Ok x
IsReadInto outcome x (Err fault) = IsFault outcome fault
