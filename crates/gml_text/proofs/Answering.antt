-- The consequences of a document and of a fault of the bytes for each result.
use Rattle.std.proofs.Common.{◌≡◌, ℕ, List, IfOk, IsErrAnd, Result, Ok, Err, sym, subst}
use Rattle.gml_text.specs.Tree.{Pairs}
use Rattle.gml_text.specs.Parse.{IsDocument, IsSyntaxAt, IsTooDeepAt, ParsesAs}
use Rattle.gml_text.specs.Printed.{IsPrintable}
use Rattle.gml_text.specs.Standing.{IsAnswer, IsFaultOf}
use Rattle.gml_text.specs.View.{Answers, tree}
use Rattle.gml_text.specs.declared.fault.GmlFault.{GmlFault}
use Rattle.gml_text.specs.declared.fault.GmlFault.TheVariants as faults
use Rattle.gml_text.specs.declared.tree.Doc.{Doc}
use Rattle.gml_text.proofs.Parsing.{reads_once, fault_answers, is_syntax, is_too_deep}
use Rattle.gml_text.proofs.Printing.{document_is_printable}

-- a fault that is passed
pub answer_passed : (bytes : List ℕ) (fault : GmlFault) (r : Result Doc GmlFault) → IsErrAnd r (λ e. e ≡ fault) → IsFaultOf bytes fault → IsAnswer bytes r
answer_passed bytes fault (Ok doc) h f = absurd h
answer_passed bytes fault (Err e) h f = subst (IsFaultOf bytes) (sym h) f

pub answer_document : (bytes : List ℕ) (r : Result Doc GmlFault) → IsAnswer bytes r → IfOk r (λ doc. IsDocument (tree doc) bytes)
answer_document bytes (Ok doc) a = a
answer_document bytes (Err fault) a = tt

pub answer_syntax : (bytes : List ℕ) (r : Result Doc GmlFault) → IsAnswer bytes r → (at : ℕ) → r ≡ Err (faults.Syntax at) → IsSyntaxAt bytes at
answer_syntax bytes (Ok doc) a at e = absurd cc
answer_syntax bytes (Err fault) a at e = is_syntax bytes fault a at e

pub answer_too_deep : (bytes : List ℕ) (r : Result Doc GmlFault) → IsAnswer bytes r → (at : ℕ) → r ≡ Err (faults.TooDeep at) → IsTooDeepAt bytes at
answer_too_deep bytes (Ok doc) a at e = absurd cc
answer_too_deep bytes (Err fault) a at e = is_too_deep bytes fault a at e

pub answer_printable : (bytes : List ℕ) (r : Result Doc GmlFault) → IsAnswer bytes r → IfOk r (λ doc. IsPrintable (tree doc))
answer_printable bytes (Ok doc) a = document_is_printable (tree doc) bytes a
answer_printable bytes (Err fault) a = tt

pub answer_exact : (bytes : List ℕ) (r : Result Doc GmlFault) → IsAnswer bytes r → (answer : Result Pairs GmlFault) → ParsesAs bytes answer → Answers r answer
answer_exact bytes (Ok doc) a answer reads = reads_once bytes answer (Ok (tree doc)) reads a
answer_exact bytes (Err fault) a answer reads = fault_answers bytes fault a answer reads
