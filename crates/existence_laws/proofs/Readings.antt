-- Bytes are read as a tree, or as proofs, or they have a fault there.
use Rattle.std.proofs.Common.{◌≡◌, ◌⊎◌, inl, inr, ℕ, zero, suc, ◌+◌, ◌<◌, ◌≤◌, List, [], ◌∷◌, length, get_or, Option, Some, None, Result, Ok, Err, refl, ap, subst, arith}
use Rattle.std.proofs.Math.Decide.{ℕ_discrete}
use Rattle.std.proofs.lemmas.Bool.{cases_lt}
use Rattle.gml_text.specs.Tree.{Pairs}
use Rattle.gml_text.specs.Parse.{ParsesAs, most_open}
use Rattle.gml_text.specs.declared.fault.GmlFault.{GmlFault}
use Rattle.gml_text.specs.declared.fault.GmlFault.TheVariants.{Syntax, TooDeep}
use Rattle.gml_text.specs.Reading.{State, start, stepped, finished}
use Rattle.gml_text.specs.Standing.{Stands}
use Rattle.gml_text.proofs.Standing.{finished_there, goes, refused_there, stands_at_start, too_deep_there, unfinished_there}
use Rattle.proof_text.specs.Lines.{IsOneLine, newline}
use Rattle.proof_text.specs.Reading.{BeginsWith, GoesOn, IsStuck, State as Lines, after_line, bad_line, no_line, proofs_of}
use Rattle.proof_text.proofs.Parting as parting
use Rattle.existence_laws.specs.Readings.{HaveProofReadings, HaveReadings, IsRead}

-- ---- trees

module _ (bytes : List ℕ) where
  Reading : Type 0
  Reading = (read : Result Pairs GmlFault) × ParsesAs bytes read

  by_end : (at : ℕ) (s : State) → at ≡ length bytes → Stands bytes at s → (o : Option Pairs) → finished s.mode s.lists s.pairs ≡ o → Reading
  unfolding Reading
  by_end at s end stands None e = (Err (Syntax at), unfinished_there bytes at s end stands e)
  by_end at s end stands (Some tree) e = (Ok tree, finished_there bytes s tree (subst (λ n. Stands bytes n s) end stands) e)

  by_depth : (at : ℕ) (s t : State) → at < length bytes → Stands bytes at s → stepped s (get_or bytes at 0) ≡ Some t → (Stands bytes (at + 1) t → Reading) → (most_open < length t.lists) ⊎ (length t.lists ≤ most_open) → Reading
  unfolding Reading
  by_depth at s t within stands e on (inl many) = (Err (TooDeep at), too_deep_there bytes at s t within stands e many)
  by_depth at s t within stands e on (inr few) = on (goes bytes at s t within stands e few)

  by_step : (at : ℕ) (s : State) → at < length bytes → Stands bytes at s → ((t : State) → Stands bytes (at + 1) t → Reading) → (o : Option State) → stepped s (get_or bytes at 0) ≡ o → Reading
  unfolding Reading
  by_step at s within stands on None e = (Err (Syntax at), refused_there bytes at s within stands e)
  by_step at s within stands on (Some t) e = by_depth at s t within stands e (on t) (cases_lt most_open (length t.lists))

  -- with this number of bytes ahead
  read_on : (ahead at : ℕ) (s : State) → at + ahead ≡ length bytes → Stands bytes at s → Reading
  read_on zero at s end stands = by_end at s (omega (arith, end)) stands (finished s.mode s.lists s.pairs) refl
  read_on (suc ahead) at s end stands =
      by_step at s (omega (arith, end)) stands (λ t there. read_on ahead (at + 1) t (omega (arith, end)) there) (stepped s (get_or bytes at 0)) refl

  whole : Reading
  whole = read_on (length bytes) 0 start (omega arith) (stands_at_start bytes)

pub some_reading : HaveReadings
unfolding Reading
some_reading bytes = whole bytes

-- ---- proofs

-- the first line of the bytes, if it ends
data Split (bytes : List ℕ) : Type 0 where
  no_end : IsOneLine bytes → Split bytes
  ends : (line after : List ℕ) → BeginsWith bytes line after → Split bytes

split_on : (b : ℕ) (bytes : List ℕ) → Dec (b ≡ newline) → Split bytes → Split (b ∷ bytes)
split_on b bytes (yes end) rest = ends [] bytes (record { spelled = ap (λ c. c ∷ bytes) end; one = tt })
split_on b bytes (no other) (no_end one) = no_end (other, one)
split_on b bytes (no other) (ends line after begins) = ends (b ∷ line) after (record { spelled = ap (λ bs. b ∷ bs) begins.spelled; one = (other, begins.one) })

split : (bytes : List ℕ) → Split bytes
split [] = no_end tt
split (b ∷ bytes) = split_on b bytes (ℕ_discrete b newline) (split bytes)

module _ (bytes : List ℕ) where
  stuck : (b : ℕ) (rest : List ℕ) (count : ℕ) (s : Lines) → parting.HaveRead bytes (b ∷ rest) count s → IsStuck (b ∷ rest) s → IsRead bytes
  stuck b rest count s read at = inr (count + 1, parting.stuck bytes (b ∷ rest) count s read (λ e. cc) at)

  by_line : (b : ℕ) (rest line after : List ℕ) (count : ℕ) (s : Lines) → parting.HaveRead bytes (b ∷ rest) count s → BeginsWith (b ∷ rest) line after
      → ((t : Lines) → GoesOn (b ∷ rest) after s t → IsRead bytes) → (o : Option Lines) → after_line s line ≡ o → IsRead bytes
  by_line b rest line after count s read begins on None e = stuck b rest count s read (bad_line line after begins e)
  by_line b rest line after count s read begins on (Some t) e = on t (record { line = line; begins = begins; reads = e })

  by_split : (b : ℕ) (rest : List ℕ) (count : ℕ) (s : Lines) → parting.HaveRead bytes (b ∷ rest) count s → ((after : List ℕ) (t : Lines) → GoesOn (b ∷ rest) after s t → IsRead bytes) → Split (b ∷ rest) → IsRead bytes
  by_split b rest count s read on (no_end one) = stuck b rest count s read (no_line one)
  by_split b rest count s read on (ends line after begins) = by_line b rest line after count s read begins (on after) (after_line s line) refl

  -- with at most this number of bytes ahead
  lines_on : (most : ℕ) (rest : List ℕ) (count : ℕ) (s : Lines) → length rest ≤ most → parting.HaveRead bytes rest count s → IsRead bytes
  lines_on most [] count s few read = inl (proofs_of s, parting.all_read bytes count s read)
  lines_on zero (b ∷ rest) count s few read = absurd (omega (arith, few))
  lines_on (suc most) (b ∷ rest) count s few read =
      by_split b rest count s read
      (λ after t on. let less = parting.fewer (b ∷ rest) after s t on in lines_on most after (count + 1) t (omega (arith, few, less)) (parting.goes_on bytes (b ∷ rest) after count s t read on))
      (split (b ∷ rest))

pub some_proof_reading : HaveProofReadings
some_proof_reading bytes = lines_on bytes (length bytes) bytes 0 parting.start (omega arith) (record { lines = []; spelled = refl; each = tt; counted = refl; read = refl })
