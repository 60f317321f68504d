-- Reading a list step by step.
use Rattle.std.proofs.Common.{◌≡◌, Bool, true, false, List, [], ◌∷◌, Option, Some, None, Result, Ok, Err, refl, sym, ap, subst, ◌∙◌}
use Rattle.std.specs.Prelude.{IfOk, IsErrAnd, if◌then◌else◌}
use Rattle.diagram_read.specs.declared.fault.DiagramFault.{DiagramFault}
use Rattle.diagram_read.specs.declared.fault.DiagramFault.TheVariants.{NoGraph, BadId, SameId, NoPlace, BadNumber, BadEnd, OutOfRange, TooMany, BadPin, BadVia, BadWeight, Memory}
use Rattle.diagram_read.specs.Faults.{◌>>=◌, need, refuse, each, IsFault, IsRead}

-- a fault of the first is that of the second, if each fault of the first is one of the second
pub fault_moves : {A B : Type 0} (f : DiagramFault) (a : Result A DiagramFault) (b : Result B DiagramFault) → ((g : DiagramFault) → a ≡ Err g → b ≡ Err g) → IsFault a f → IsFault b f
fault_moves NoGraph a b moves is = moves NoGraph is
fault_moves (BadId place) a b moves is = moves (BadId place) is
fault_moves (SameId place) a b moves is = moves (SameId place) is
fault_moves (NoPlace place) a b moves is = moves (NoPlace place) is
fault_moves (BadNumber part place) a b moves is = moves (BadNumber part place) is
fault_moves (BadEnd place) a b moves is = moves (BadEnd place) is
fault_moves (OutOfRange part place) a b moves is = moves (OutOfRange part place) is
fault_moves (TooMany part) a b moves is = moves (TooMany part) is
fault_moves (BadPin place) a b moves is = moves (BadPin place) is
fault_moves (BadVia place) a b moves is = moves (BadVia place) is
fault_moves (BadWeight place) a b moves is = moves (BadWeight place) is
fault_moves Memory a b moves is = tt

-- a step that is read leads to the rest of the list
pub one_more : {S X : Type 0} (step : S → X → Result S DiagramFault) (outcome : Result S DiagramFault) (s next : S) (x : X) (xs : List X)
    → outcome ≡ each step s (x ∷ xs) → step s x ≡ Ok next → outcome ≡ each step next xs
one_more step outcome s next x xs is read = is ∙ ap (λ r. r >>= (λ t. each step t xs)) read

-- a step that has a fault ends the list
pub stops : {S X : Type 0} (step : S → X → Result S DiagramFault) (outcome : Result S DiagramFault) (s : S) (x : X) (xs : List X) (f : DiagramFault)
    → outcome ≡ each step s (x ∷ xs) → IsFault (step s x) f → IsFault outcome f
stops step outcome s x xs f is bad = fault_moves f (step s x) outcome (λ g e. is ∙ ap (λ r. r >>= (λ t. each step t xs)) e) bad

-- what holds of what a step leads to holds of what both lead to
pub bound : {A B : Type 0} (P : B → Type 0) (r : Result A DiagramFault) (next : A → Result B DiagramFault) → ((x : A) → r ≡ Ok x → IfOk (next x) P) → IfOk (r >>= next) P
bound P (Ok x) next holds = holds x refl
bound P (Err fault) next holds = tt

-- a fact of what is read, where it is known
pub ok_holds : {A : Type 0} (r : Result A DiagramFault) (x : A) (P : A → Type 0) → r ≡ Ok x → IfOk r P → P x
ok_holds r x P is holds = subst (λ q. IfOk q P) is holds

-- a choice of two readings
pub chosen : {A : Type 0} (P : A → Type 0) (b : Bool) (x y : Result A DiagramFault) → (b ≡ true → IfOk x P) → (b ≡ false → IfOk y P) → IfOk (if b then x else y) P
chosen P true x y one other = one refl
chosen P false x y one other = other refl

-- what each step keeps, all of them keep
pub kept : {S X : Type 0} (P : S → Type 0) (step : S → X → Result S DiagramFault) → ((s : S) (x : X) → P s → IfOk (step s x) P) → (s : S) (xs : List X) → P s → IfOk (each step s xs) P
kept P step keeps s [] holds = holds
kept P step keeps s (x ∷ xs) holds = bound P (step s x) _ (λ next is. kept P step keeps next xs (ok_holds (step s x) next P is (keeps s x holds)))

-- what was not refused does not hold
pub not_refused : (fault : DiagramFault) (b : Bool) (done : Unit) → refuse fault b ≡ Ok done → b ≡ false
not_refused fault true done is = cc
not_refused fault false done is = refl

-- what was needed was there
pub there : {A : Type 0} (fault : DiagramFault) (o : Option A) (x : A) → need fault o ≡ Ok x → o ≡ Some x
there fault (Some y) x is = cc
there fault None x is = cc

-- a fault of the reading is one of its faults
pub fault_is : {A : Type 0} (f : DiagramFault) (outcome : Result A DiagramFault) → outcome ≡ Err f → IsFault outcome f
fault_is NoGraph outcome is = is
fault_is (BadId place) outcome is = is
fault_is (SameId place) outcome is = is
fault_is (NoPlace place) outcome is = is
fault_is (BadNumber part place) outcome is = is
fault_is (BadEnd place) outcome is = is
fault_is (OutOfRange part place) outcome is = is
fault_is (TooMany part) outcome is = is
fault_is (BadPin place) outcome is = is
fault_is (BadVia place) outcome is = is
fault_is (BadWeight place) outcome is = is
fault_is Memory outcome is = tt

-- a result that passes a fault
pub passed_on : {A : Type 0} (outcome : Result A DiagramFault) (f : DiagramFault) (answer : Result A DiagramFault) → IsFault outcome f → IsErrAnd answer (λ e. e ≡ f) → IsRead outcome answer
passed_on outcome f (Ok x) is passed = absurd passed
passed_on outcome f (Err e) is passed = subst (IsFault outcome) (sym passed) is
