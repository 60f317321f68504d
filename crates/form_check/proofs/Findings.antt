-- What is found of edges, one after the other.
use Rattle.std.proofs.Common.{◌≡◌, ℕ, zero, suc, ◌+◌, ◌<◌, ◌==◌, Bool, true, false, cond, List, [], ◌∷◌, ◌++◌, length, take, drop, get_or, Option, Some, None, Result, Ok, Err, refl, sym, ap, subst, ◌∙◌, arith, add-one, drop-cons, eq-eqb}
use Rattle.std.specs.Prelude.{IfErr, IsErrAnd, slice_get, find, if◌then◌else◌}
use Rattle.std.specs.Result.{result_err}
use Rattle.std.specs.List.{AllByRecursion as Each, AllZip, list_any}
use Rattle.std.proofs.lemmas.Bool.{false≢true}
use Rattle.std.proofs.lemmas.Bool.Decides.{nat_tests}
use Rattle.std.proofs.lemmas.List.{take_more}
use Rattle.std.proofs.lemmas.Option.{none-some, same_Some}
use Rattle.plane_geom.specs.declared.point.Point.{Point}
use Rattle.gml_text.specs.Tree.{Pairs}
use Rattle.scene_model.specs.declared.edge.Edge.{Edge}
use Rattle.scene_model.specs.Scene.{Scene, edge_with, is_loop}
use Rattle.scene_model.specs.Valid.{IsValid}
use Rattle.scene_model.proofs.Editing.Entries.{Pairs as InPairs, pairs_from}
use Rattle.diagram_read.specs.declared.fault.DiagramFault.{DiagramFault}
use Rattle.diagram_read.specs.declared.fault.DiagramFault.TheVariants as faults
use Rattle.diagram_read.specs.Lines.{line_of}
use Rattle.report_text.specs.declared.finding.Finding.{Finding}
use Rattle.report_text.specs.declared.finding.EdgeFinding.{EdgeFinding}
use Rattle.report_text.specs.Findings.{finding_lines}
use Rattle.report_text.specs.Outcome.{Outcome, unsearched}
use Rattle.form_check.specs.Checks.{Checks, ChecksUnless, IsFinding, IsFindingOf, IsLineFault, IsLineFinding, check_status, first_line_fault, is_breach, line_fault}

-- what stands at a place
pub record IsAt {X : Type 0} (xs : List X) (k : ℕ) (x : X) : Type 0 where
  pub within : k < length xs
  pub here : x ≡ get_or xs k x

pub at_place : {X : Type 0} (xs : List X) (k : ℕ) (x : X) → slice_get xs k ≡ Some x → IsAt xs k x
at_place [] k x is = absurd (none-some x is)
at_place (y ∷ ys) zero x is = record { within = omega arith; here = sym (same_Some y x is) }
at_place (y ∷ ys) (suc k) x is = (let later = at_place ys k x is in let within = later.within in record { within = omega (arith, within); here = later.here })

-- ---- the edge at a place is the one with its number

each_at : {X : Type 0} (P : X → Type 0) (xs : List X) (k : ℕ) (x : X) → Each P xs → slice_get xs k ≡ Some x → P x
each_at P [] k x each is = absurd (none-some x is)
each_at P (y ∷ ys) zero x each is = subst P (same_Some y x is) each.0
each_at P (y ∷ ys) (suc k) x each is = each_at P ys k x each.1 is

found_here : (b : Bool) (d e : Edge) (o : Option Edge) → (d.number == e.number) ≡ b → d ≡ e → cond b (Some d) o ≡ Some e
found_here true d e o test same = ap Some same
found_here false d e o test same = absurd (false≢true (sym test ∙ eq-eqb d.number e.number (ap (λ (x : Edge). x.number) same)))

found_later : (b : Bool) (d e : Edge) (o : Option Edge) → (d.number == e.number) ≡ b → d.number < e.number → o ≡ Some e → cond b (Some d) o ≡ Some e
found_later true d e o test below is = absurd (grind (arith, nat_tests, test, below))
found_later false d e o test below is = is

found_at : (es : List Edge) (k : ℕ) (e : Edge) → InPairs (λ d e. d.number < e.number) es → slice_get es k ≡ Some e
    → find (λ d. d.number == e.number) es ≡ Some e
found_at [] k e rise is = absurd (none-some e is)
found_at (d ∷ ds) zero e rise is = found_here (d.number == e.number) d e (find (λ d. d.number == e.number) ds) refl (same_Some d e is)
found_at (d ∷ ds) (suc k) e rise is =
    found_later (d.number == e.number) d e (find (λ d. d.number == e.number) ds) refl (each_at (λ x. d.number < x.number) ds k e rise.0 is) (found_at ds k e rise.1 is)

pub edge_found : (s : Scene) (k : ℕ) (e : Edge) → IsValid s → slice_get s.edges k ≡ Some e → edge_with s e.number ≡ Some e
edge_found s k e valid is = found_at s.edges k e (pairs_from (λ d e. d.number < e.number) s.edges valid.numbers_rise) is

-- ---- faults of lines

line_has_none : (s : Scene) (e : Edge) (r : Result (Option (List Point)) DiagramFault) (f : Finding) → IsLineFinding s e r f → result_err r ≡ None
line_has_none s e (Ok o) f is = refl
line_has_none s e (Err fault) f is = absurd is

pub no_fault : (tree : Pairs) (s : Scene) (e : Edge) (f : EdgeFinding) → IsFinding tree s e f → line_fault tree e ≡ None
no_fault tree s e f is = by (is_loop e) is.finding
  where
    by : (b : Bool) → IsFindingOf b s e (line_of tree e) f.finding → (if b then None else result_err (line_of tree e)) ≡ None
    by true is_loop = refl
    by false found = line_has_none s e (line_of tree e) f.finding found

pub no_faults : (tree : Pairs) (s : Scene) (es : List Edge) (fs : List EdgeFinding) → AllZip (IsFinding tree s) es fs → first_line_fault tree es ≡ None
no_faults tree s [] fs zipped = refl
no_faults tree s (e ∷ es) [] zipped = absurd zipped
no_faults tree s (e ∷ es) (f ∷ fs) zipped = rw (no_fault tree s e f zipped.0) (no_faults tree s es fs zipped.1)

-- so what is said of them is the outcome
pub outcome_found : (tree : Pairs) (s : Scene) (fs : List EdgeFinding) (o : Outcome) → AllZip (IsFinding tree s) s.edges fs
    → o ≡ unsearched (check_status (list_any (λ f. is_breach f.finding) fs)) (finding_lines fs) → Checks tree s o
outcome_found tree s fs o found is = subst (λ (first : Option DiagramFault). ChecksUnless tree s first o) (sym (no_faults tree s s.edges fs found)) (record {
  text = finding_lines fs;
  breach = list_any (λ f. is_breach f.finding) fs;
  checks = record { findings = fs; found = found; is_text = refl; verdict = refl };
  outcome = is;
})

-- the faults from a place on, where the edge there has one, and where it has none
pub fault_here : (tree : Pairs) (es : List Edge) (k : ℕ) (e : Edge) (fault : DiagramFault) → IsAt es k e → line_fault tree e ≡ Some fault → first_line_fault tree (drop k es) ≡ Some fault
fault_here tree es k e fault at is =
    let within = at.within in
    let split = drop-cons es k e within ∙ ap (λ x. x ∷ drop (suc k) es) (sym at.here) in
    ap (first_line_fault tree) split ∙ (rw is refl)

pub fault_later : (tree : Pairs) (es : List Edge) (k : ℕ) (e : Edge) → IsAt es k e → line_fault tree e ≡ None → first_line_fault tree (drop k es) ≡ first_line_fault tree (drop (k + 1) es)
fault_later tree es k e at is =
    let within = at.within in
    let split = drop-cons es k e within ∙ ap (λ x. x ∷ drop (suc k) es) (sym at.here) in
    ap (first_line_fault tree) split ∙ (rw (is, add-one k) refl)

-- ---- one more finding

AllZip-more : {X Y : Type 0} (R : X → Y → Type 0) (xs : List X) (ys : List Y) (x : X) (y : Y) → AllZip R xs ys → R x y → AllZip R (xs ++ x ∷ []) (ys ++ y ∷ [])
AllZip-more R [] [] x y zipped here = (here, tt)
AllZip-more R [] (b ∷ bs) x y zipped here = absurd zipped
AllZip-more R (a ∷ xs) [] x y zipped here = absurd zipped
AllZip-more R (a ∷ xs) (b ∷ bs) x y zipped here = (zipped.0, AllZip-more R xs bs x y zipped.1 here)

pub zipped_more : {X Y : Type 0} (R : X → Y → Type 0) (xs : List X) (ys : List Y) (k : ℕ) (x : X) (y : Y) → IsAt xs k x → AllZip R (take k xs) ys → R x y
    → AllZip R (take (k + 1) xs) (ys ++ y ∷ [])
zipped_more R xs ys k x y at so_far here =
    let lt = at.within in
    rw (take_more xs k x lt, ← at.here) (AllZip-more R (take k xs) ys x y so_far here)

-- ---- faults that are passed

fault_moves : (f : DiagramFault) (a b : Option DiagramFault) → ((g : DiagramFault) → a ≡ Some g → b ≡ Some g) → IsLineFault a f → IsLineFault b f
fault_moves faults.NoGraph a b moves is = moves faults.NoGraph is
fault_moves (faults.BadId place) a b moves is = moves (faults.BadId place) is
fault_moves (faults.SameId place) a b moves is = moves (faults.SameId place) is
fault_moves (faults.NoPlace place) a b moves is = moves (faults.NoPlace place) is
fault_moves (faults.BadNumber part place) a b moves is = moves (faults.BadNumber part place) is
fault_moves (faults.BadEnd place) a b moves is = moves (faults.BadEnd place) is
fault_moves (faults.OutOfRange part place) a b moves is = moves (faults.OutOfRange part place) is
fault_moves (faults.TooMany part) a b moves is = moves (faults.TooMany part) is
fault_moves (faults.BadPin place) a b moves is = moves (faults.BadPin place) is
fault_moves (faults.BadVia place) a b moves is = moves (faults.BadVia place) is
fault_moves (faults.BadWeight place) a b moves is = moves (faults.BadWeight place) is
fault_moves faults.Memory a b moves is = tt

-- the fault of an edge's line is the first one from there on
pub fault_on : {T : Type 0} (tree : Pairs) (es : List Edge) (k : ℕ) (e : Edge) (f : DiagramFault) (r : Result T DiagramFault) → IsAt es k e → first_line_fault tree es ≡ first_line_fault tree (drop k es)
    → IsLineFault (line_fault tree e) f → IsErrAnd r (λ g. g ≡ f) → IfErr r (IsLineFault (first_line_fault tree es))
fault_on tree es k e f (Ok x) at later is passed = tt
fault_on tree es k e f (Err g) at later is passed =
    subst (IsLineFault (first_line_fault tree es)) (sym passed) (fault_moves f (line_fault tree e) (first_line_fault tree es) (λ h here. later ∙ fault_here tree es k e h at here) is)
