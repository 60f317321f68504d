-- From the states of a reader to what the bytes are read as.
use Rattle.std.proofs.Common.{◌≡◌, ℕ, zero, suc, ◌+◌, ◌≤◌, ◌<◌, List, [], ◌∷◌, ◌++◌, length, take, Option, Some, None, Result, Ok, Err, inl, inr, refl, sym, ap, ◌∙◌, subst, arith, append_assoc}
use Rattle.std.specs.Option.{option_and_then}
use Rattle.std.proofs.lemmas.Bool.{cases_lt, cases_order}
use Rattle.std.proofs.lemmas.Option.{none-some, same_Some}
use Rattle.std.proofs.lemmas.List.{append-nil}
use Rattle.std.proofs.Math.Seq.{take-length}
use Rattle.gml_text.specs.Tree.{Pairs, depth}
use Rattle.gml_text.specs.Grammar.{SpellsDocument}
use Rattle.gml_text.specs.Parse.{most_open, Begins, BeginsWithinLimit, IsTooDeepAt, IsSyntaxAt, IsDocument, ParsesAs}
use Rattle.gml_text.specs.Standing.{height, Leads, LeadsWithinLimit, IsFaultOf}
use Rattle.gml_text.specs.View.{Answers}
use Rattle.gml_text.specs.declared.fault.GmlFault.{GmlFault}
use Rattle.gml_text.specs.declared.fault.GmlFault.TheVariants as faults
use Rattle.gml_text.specs.declared.tree.Doc.{Doc}
use Rattle.gml_text.specs.Reading.{State, start, stepped, accepted, finished}
use Rattle.gml_text.proofs.Accepting.{spelled_is_accepted}
use Rattle.gml_text.proofs.Spelling.{accepted_is_spelled}
use Rattle.gml_text.proofs.Depths.{lists_below, Keeps, step_keeps, accepted_height, completion, finished_depth}

pub leads_on : (front : List ℕ) (b : ℕ) (s t : State) → Leads front s → stepped s b ≡ Some t → Leads (front ++ b ∷ []) t
leads_on front b s t leads e more =
    ap (λ x. accepted x start) (append_assoc front (b ∷ []) more) ∙ (leads (b ∷ more) ∙ ap (option_and_then (accepted more)) e)

keeps_at : (h : ℕ) (o : Option State) (t : State) → o ≡ Some t → Keeps h o → Keeps h (Some t)
keeps_at h o t e k = subst (Keeps h) e k

pub leads_on_within : (front : List ℕ) (b : ℕ) (s t : State) → LeadsWithinLimit front s → stepped s b ≡ Some t → length t.lists ≤ most_open
    → LeadsWithinLimit (front ++ b ∷ []) t
leads_on_within front b s t r e few =
    let k = keeps_at (height s) (stepped s b) t e (step_keeps s b) in
    record { leads = leads_on front b s t r.leads e; within = omega (arith, r.within, few, k.1) }

pub begins_at : (front : List ℕ) (s : State) → Leads front s → Begins front
begins_at front s leads =
    let c = completion s in (c.more, c.tree, accepted_is_spelled (front ++ c.more) c.tree (leads c.more ∙ c.is_accepted))

pub begins_within : (front : List ℕ) (s : State) → LeadsWithinLimit front s → BeginsWithinLimit front
begins_within front s r =
    let c = completion s in
    (c.more, c.tree, accepted_is_spelled (front ++ c.more) c.tree (r.leads c.more ∙ c.is_accepted), omega (arith, c.no_deeper, r.within))

-- a byte that is refused completes to nothing
pub refused : (front : List ℕ) (b : ℕ) (s : State) → Leads front s → stepped s b ≡ None → Begins (front ++ b ∷ []) → ⊥
refused front b s leads e h =
    none-some h.1
    (sym (ap (option_and_then (accepted h.0)) e)
    ∙ (sym (leads (b ∷ h.0)) ∙ (ap (λ x. accepted x start) (sym (append_assoc front (b ∷ []) h.0)) ∙ spelled_is_accepted h.1 ((front ++ b ∷ []) ++ h.0) h.2)))

-- whatever begins in this way is at least as deep
pub as_deep : (front : List ℕ) (s : State) → Leads front s → (more : List ℕ) (tree : Pairs) → SpellsDocument tree (front ++ more) → height s ≤ depth tree
as_deep front s leads more tree h = accepted_height more s tree (sym (leads more) ∙ spelled_is_accepted tree (front ++ more) h)

-- a longer front begins with a shorter one
longer_front : (m n : ℕ) (bytes : List ℕ) → m ≤ n → (rest : List ℕ) × (take n bytes ≡ take m bytes ++ rest)
longer_front zero n bytes h = (take n bytes, refl)
longer_front (suc m) zero bytes h = absurd (omega arith)
longer_front (suc m) (suc n) [] h = ([], refl)
longer_front (suc m) (suc n) (b ∷ bytes) h = let r = longer_front m n bytes (omega arith) in (r.0, ap (λ x. b ∷ x) r.1)

shorter_begins : (m n : ℕ) (bytes : List ℕ) → m ≤ n → Begins (take n bytes) → Begins (take m bytes)
shorter_begins m n bytes h b =
    let r = longer_front m n bytes h in
    (r.0 ++ b.0, b.1, subst (SpellsDocument b.1) (ap (λ x. x ++ b.0) r.1 ∙ append_assoc (take m bytes) r.0 b.0) b.2)

-- no list is too deep in a front that begins a document within the limit
shallow_front : (deep n : ℕ) (bytes : List ℕ) → deep < n → BeginsWithinLimit (take n bytes) → IsTooDeepAt bytes deep → ⊥
shallow_front deep n bytes h b t =
    let r = longer_front (deep + 1) n bytes (omega arith) in
    let over = t.deeper (r.0 ++ b.0) b.1 (subst (SpellsDocument b.1) (ap (λ x. x ++ b.0) r.1 ∙ append_assoc (take (deep + 1) bytes) r.0 b.0) b.2) in
    omega (arith, over, b.3)

-- where a byte is refused, the bytes before it are all that begin a document
pub syntax_at_byte : (bytes : List ℕ) (at : ℕ) (b : ℕ) (s : State) → at < length bytes → take (at + 1) bytes ≡ take at bytes ++ b ∷ []
    → LeadsWithinLimit (take at bytes) s → stepped s b ≡ None → IsSyntaxAt bytes at
syntax_at_byte bytes at b s h more r e =
    let none : (n : ℕ) → at < n → Begins (take n bytes) → ⊥ = λ n above begun.
    refused (take at bytes) b s r.leads e (subst Begins more (shorter_begins (at + 1) n bytes (omega arith) begun)) in
    record {
      no_document = λ tree spelled. none (length bytes) h ([], tree, subst (SpellsDocument tree) (sym (take-length bytes) ∙ sym (append-nil (take (length bytes) bytes))) spelled);
      not_too_deep = λ deep t. elim (cases_lt deep at) [
        | inl before ↦ shallow_front deep at bytes before (begins_within (take at bytes) s r) t
        | inr from ↦ none (deep + 1) (omega arith) t.begins
      ];
      within = omega arith;
      begins = begins_at (take at bytes) s r.leads;
      longest = λ n above _ begun. none n above begun;
    }

-- where no document may end at the end of the bytes
pub syntax_at_end : (bytes : List ℕ) (s : State) → LeadsWithinLimit bytes s → accepted [] s ≡ None → IsSyntaxAt bytes (length bytes)
syntax_at_end bytes s r e =
    let all = take-length bytes in
    record {
      no_document = λ tree spelled.
          none-some tree (sym e ∙ (sym (r.leads []) ∙ (ap (λ x. accepted x start) (append-nil bytes) ∙ spelled_is_accepted tree bytes spelled)));
      not_too_deep = λ deep t. shallow_front deep (length bytes) bytes t.within (subst BeginsWithinLimit (sym all) (begins_within bytes s r)) t;
      within = omega arith;
      begins = subst Begins (sym all) (begins_at bytes s r.leads);
      longest = λ n above below _. absurd (omega arith);
    }

-- where a list too many is opened
pub too_deep_at : (bytes : List ℕ) (at : ℕ) (b : ℕ) (s t : State) → at < length bytes → take (at + 1) bytes ≡ take at bytes ++ b ∷ []
    → LeadsWithinLimit (take at bytes) s → stepped s b ≡ Some t → most_open < length t.lists → IsTooDeepAt bytes at
too_deep_at bytes at b s t h more r e many =
    let leads = leads_on (take at bytes) b s t r.leads e in
    record {
      within = h;
      before = begins_within (take at bytes) s r;
      begins = subst Begins (sym more) (begins_at (take at bytes ++ b ∷ []) t leads);
      deeper = λ rest tree spelled.
          let over = as_deep (take at bytes ++ b ∷ []) t leads rest tree (subst (λ x. SpellsDocument tree (x ++ rest)) more spelled) in
          omega (arith, many, over, lists_below t);
    }

-- at the end of a document
pub document_at_end : (bytes : List ℕ) (s : State) (tree : Pairs) → LeadsWithinLimit bytes s → accepted [] s ≡ Some tree → SpellsDocument tree bytes
document_at_end bytes s tree r e =
    accepted_is_spelled bytes tree (ap (λ x. accepted x start) (sym (append-nil bytes)) ∙ (r.leads [] ∙ e))

spelled_one : (tree other : Pairs) (bytes : List ℕ) → SpellsDocument tree bytes → SpellsDocument other bytes → tree ≡ other
spelled_one tree other bytes s t = same_Some tree other (sym (spelled_is_accepted tree bytes s) ∙ spelled_is_accepted other bytes t)

document_not_deep : (bytes : List ℕ) (tree : Pairs) (deep : ℕ) → IsDocument tree bytes → IsTooDeepAt bytes deep → ⊥
document_not_deep bytes tree deep d t =
    shallow_front deep (length bytes) bytes t.within
    ([], tree, subst (SpellsDocument tree) (sym (take-length bytes) ∙ sym (append-nil (take (length bytes) bytes))) d.spelled, d.within_limit) t

one_syntax : (bytes : List ℕ) (a b : ℕ) → IsSyntaxAt bytes a → IsSyntaxAt bytes b → a ≡ b
one_syntax bytes a b s t =
    elim (cases_order a b) [
      | inl same ↦ same
      | inr apart ↦ elim apart [
        | inl below ↦ absurd (s.longest b below t.within t.begins)
        | inr above ↦ absurd (t.longest a above s.within s.begins)
      ]
    ]

one_too_deep : (bytes : List ℕ) (a b : ℕ) → IsTooDeepAt bytes a → IsTooDeepAt bytes b → a ≡ b
one_too_deep bytes a b s t =
    elim (cases_order a b) [
      | inl same ↦ same
      | inr apart ↦ elim apart [
        | inl below ↦ absurd (shallow_front a b bytes below t.before s)
        | inr above ↦ absurd (shallow_front b a bytes above s.before t)
      ]
    ]

-- bytes are read in one way
pub reads_once : (bytes : List ℕ) (r s : Result Pairs GmlFault) → ParsesAs bytes r → ParsesAs bytes s → r ≡ s
reads_once bytes (Ok tree) (Ok other) x y = ap Ok (spelled_one tree other bytes x.spelled y.spelled)
reads_once bytes (Ok tree) (Err (faults.Syntax at)) x y = absurd (y.no_document tree x.spelled)
reads_once bytes (Ok tree) (Err (faults.TooDeep at)) x y = absurd (document_not_deep bytes tree at x y)
reads_once bytes (Ok tree) (Err faults.Memory) x y = absurd y
reads_once bytes (Err (faults.Syntax at)) (Ok other) x y = absurd (x.no_document other y.spelled)
reads_once bytes (Err (faults.Syntax at)) (Err (faults.Syntax to)) x y = ap (λ n. Err (faults.Syntax n)) (one_syntax bytes at to x y)
reads_once bytes (Err (faults.Syntax at)) (Err (faults.TooDeep to)) x y = absurd (x.not_too_deep to y)
reads_once bytes (Err (faults.Syntax at)) (Err faults.Memory) x y = absurd y
reads_once bytes (Err (faults.TooDeep at)) (Ok other) x y = absurd (document_not_deep bytes other at y x)
reads_once bytes (Err (faults.TooDeep at)) (Err (faults.Syntax to)) x y = absurd (y.not_too_deep at x)
reads_once bytes (Err (faults.TooDeep at)) (Err (faults.TooDeep to)) x y = ap (λ n. Err (faults.TooDeep n)) (one_too_deep bytes at to x y)
reads_once bytes (Err (faults.TooDeep at)) (Err faults.Memory) x y = absurd y
reads_once bytes (Err faults.Memory) s x y = absurd x

-- the consequences of a fault of the bytes for each result
pub fault_answers : (bytes : List ℕ) (fault : GmlFault) → IsFaultOf bytes fault → (answer : Result Pairs GmlFault) → ParsesAs bytes answer → Answers (Err fault) answer
fault_answers bytes (faults.Syntax at) f answer r = reads_once bytes answer (Err (faults.Syntax at)) r f
fault_answers bytes (faults.TooDeep at) f answer r = reads_once bytes answer (Err (faults.TooDeep at)) r f
fault_answers bytes faults.Memory f answer r = tt

same_fault : (bytes : List ℕ) (fault other : GmlFault) → ◌≡◌ {A = Result Doc GmlFault} (Err fault) (Err other) → IsFaultOf bytes fault → IsFaultOf bytes other
same_fault bytes fault other e f = let same : fault ≡ other = cc in subst (IsFaultOf bytes) same f

-- a fault as each clause states it
pub is_syntax : (bytes : List ℕ) (fault : GmlFault) → IsFaultOf bytes fault → (at : ℕ)
    → ◌≡◌ {A = Result Doc GmlFault} (Err fault) (Err (faults.Syntax at)) → IsSyntaxAt bytes at
is_syntax bytes fault f at e = same_fault bytes fault (faults.Syntax at) e f

pub is_too_deep : (bytes : List ℕ) (fault : GmlFault) → IsFaultOf bytes fault → (at : ℕ)
    → ◌≡◌ {A = Result Doc GmlFault} (Err fault) (Err (faults.TooDeep at)) → IsTooDeepAt bytes at
is_too_deep bytes fault f at e = same_fault bytes fault (faults.TooDeep at) e f

-- at the end of a document within the limit
pub document_within : (bytes : List ℕ) (s : State) (tree : Pairs) → LeadsWithinLimit bytes s → finished s.mode s.lists s.pairs ≡ Some tree → IsDocument tree bytes
document_within bytes s tree r e =
    record { spelled = document_at_end bytes s tree r e; within_limit = omega (arith, r.within, finished_depth s.mode s.lists s.pairs tree e) }

-- the front that is all of the bytes
pub whole_front : (bytes : List ℕ) (at : ℕ) (s : State) → length bytes ≤ at → at ≤ length bytes → LeadsWithinLimit (take at bytes) s → LeadsWithinLimit bytes s
whole_front bytes at s above below r =
    let same : at ≡ length bytes = omega arith in
    subst (λ x. LeadsWithinLimit x s) (ap (λ n. take n bytes) same ∙ take-length bytes) r

-- before the first byte
pub leads_at_start : (s : State) → s ≡ start → LeadsWithinLimit [] s
leads_at_start s e = subst (LeadsWithinLimit []) (sym e) (record { leads = λ more. refl; within = omega arith })
