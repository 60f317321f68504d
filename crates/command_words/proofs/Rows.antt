-- The rows that clap keeps, by id.
use Rattle.std.proofs.Common.{◌≡◌, inl, inr, true, false, cond, List, [], ◌∷◌, ◌++◌, Option, Some, None, is_some, codes, refl, sym, ap, ◌∙◌}
use Rattle.std.specs.Prelude.{find, bytes_eq, unwrap_or, if◌then◌else◌}
use Rattle.std.proofs.lemmas.Bool.{cases_Bool}
use Rattle.std.proofs.lemmas.Slice.Eq.{bytes_eq-Decides}
use Rattle.clap.specs.declared.builder.value_parser.Reading.TheVariants.{AsWritten}
use Rattle.clap.specs.declared.parser.matches.ValueSource.{ValueSource}
use Rattle.clap.specs.declared.parser.matches.ValueSource.TheVariants.{CommandLine}
use Rattle.clap.specs.Walk.{Row, Text, all_of, has_row, stronger, with_values, without}
use Rattle.command_words.specs.Words.{Said}
use Rattle.command_words.proofs.Looks.{some_none}

-- the row of an id
abbrev pub row_in : Text → List Row → Option Row
row_in id rows = find (λ r. bytes_eq r.id id) rows

-- the row of these values, of which there is none where there is no value
abbrev pub row_with : Text → List Text → Option Row
row_with id [] = None
row_with id (v ∷ values) = Some (record { id = id; values = v ∷ values; count = None; source = Some CommandLine; reading = AsWritten })

-- the rows with one more value of an id, by default or from the arguments
abbrev pub added : ValueSource → Text → Text → List Row → List Row
added source id value rows = with_values id AsWritten source (value ∷ []) rows

abbrev pub with_value : Text → Text → List Row → List Row
with_value id value rows = added CommandLine id value rows

other_row : (r : Row) (id other : Text) → bytes_eq id other ≡ false → bytes_eq r.id id ≡ true → bytes_eq r.id other ≡ false
other_row r id other apart same =
    let e : r.id ≡ id = (bytes_eq-Decides r.id id).0 same in
    ap (λ x. bytes_eq x other) e ∙ apart

-- a change of one row leaves the others
pub other_added : (source : ValueSource) (id other value : Text) (rows : List Row) → bytes_eq id other ≡ false → row_in other (added source id value rows) ≡ row_in other rows
other_added source id other value [] apart = rw apart refl
other_added source id other value (r ∷ rows) apart = elim (cases_Bool (bytes_eq r.id id)) [
  | inl same ↦ let differs = other_row r id other apart same in rw (same, differs) refl
  | inr differs ↦ rw differs (ap (λ rest. cond (bytes_eq r.id other) (Some r) rest) (other_added source id other value rows apart))
]

pub other_kept : (id other value : Text) (rows : List Row) → bytes_eq id other ≡ false → row_in other (with_value id value rows) ≡ row_in other rows
other_kept id other value rows apart = other_added CommandLine id other value rows apart

bytes_eq_refl : (id : Text) → bytes_eq id id ≡ true
bytes_eq_refl id = (bytes_eq-Decides id id).1 refl

more_with : (id value : Text) (old : List Text) (r : Row) → Some r ≡ row_with id old → Some (record r { values = r.values ++ value ∷ []; source = Some CommandLine }) ≡ row_with id (old ++ value ∷ [])
more_with id value [] r e = absurd (some_none r e)
more_with id value (v ∷ old) r e =
    let is : r ≡ record { id = id; values = v ∷ old; count = None; source = Some CommandLine; reading = AsWritten } = cc in
    rw is refl

stronger_is : (id : Text) (old : List Text) (r : Row) → Some r ≡ row_with id old → stronger r.source CommandLine ≡ CommandLine
stronger_is id [] r e = absurd (some_none r e)
stronger_is id (v ∷ old) r e =
    let is : r ≡ record { id = id; values = v ∷ old; count = None; source = Some CommandLine; reading = AsWritten } = cc in
    rw is refl

-- the values of the id are one more
pub own_more : (id value : Text) (old : List Text) (rows : List Row) → row_in id rows ≡ row_with id old → row_in id (with_value id value rows) ≡ row_with id (old ++ value ∷ [])
own_more id value [] [] e = rw (bytes_eq_refl id) refl
own_more id value (v ∷ old) [] e = absurd (some_none _ (sym e))
own_more id value old (r ∷ rows) e = elim (cases_Bool (bytes_eq r.id id)) [
  | inl same ↦
      let is : Some r ≡ row_with id old = rw same at e in
      let strong = stronger_is id old r is in
      rw (same, same, strong) (more_with id value old r is)
  | inr differs ↦
      let rest : row_in id rows ≡ row_with id old = rw differs at e in
      rw (differs, differs) (own_more id value old rows rest)
]

-- the first value of the id
pub first_added : (source : ValueSource) (id value : Text) (rows : List Row) → row_in id rows ≡ None
    → row_in id (added source id value rows) ≡ Some (record { id = id; values = value ∷ []; count = None; source = Some source; reading = AsWritten })
first_added source id value [] e = rw (bytes_eq_refl id) refl
first_added source id value (r ∷ rows) e = elim (cases_Bool (bytes_eq r.id id)) [
  | inl same ↦ absurd (some_none r (rw same at e))
  | inr differs ↦ let rest : row_in id rows ≡ None = rw differs at e in rw (differs, differs) (first_added source id value rows rest)
]

-- where there is no row of the id, none is removed
pub none_without : (id : Text) (rows : List Row) → row_in id rows ≡ None → without id rows ≡ rows
none_without id [] e = refl
none_without id (r ∷ rows) e = elim (cases_Bool (bytes_eq r.id id)) [
  | inl same ↦ absurd (some_none r (rw same at e))
  | inr differs ↦ rw differs (ap (λ rest. r ∷ rest) (none_without id rows (rw differs at e)))
]

-- there is a row of the id where one is found
pub has_row_is : (id : Text) (rows : List Row) → has_row id rows ≡ is_some (row_in id rows)
has_row_is id [] = refl
has_row_is id (r ∷ rows) = elim (cases_Bool (bytes_eq r.id id)) [
  | inl same ↦ rw same refl
  | inr differs ↦ rw differs (has_row_is id rows)
]

-- the values in the rows for the arguments so far
pub record Holds (s : Said) (rows : List Row) : Type 0 where
  pub plain : row_in (codes "plain") rows ≡ row_with (codes "plain") s.plain
  pub workers : row_in (codes "workers") rows ≡ row_with (codes "workers") s.workers
  pub count : row_in (codes "count") rows ≡ row_with (codes "count") (if s.count then codes "true" ∷ [] else [])

-- the values of the row
pub values_with : (id : Text) (values : List Text) (rows : List Row) → row_in id rows ≡ row_with id values → unwrap_or (all_of id rows) [] ≡ values
values_with id [] rows e = rw e refl
values_with id (v ∷ values) rows e = rw e refl
