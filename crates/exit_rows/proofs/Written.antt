-- One row is written, and all others stay as they were.
use Rattle.std.proofs.Common.{◌≡◌, ◌⊎◌, ℕ, ◌+◌, ◌*◌, ◌/◌, ◌<◌, ◌≤◌, Bool, true, false, nat_lt, if◌then◌else◌, List, [], ◌∷◌, ◌++◌, Some, length, get_or, refl, sym, ap, subst, ◌∙◌, inl, inr, arith}
use Rattle.std.specs.Prelude.{All, Contains, Option, Vec, slice_get}
use Rattle.std.specs.Vec.{with_item}
use Rattle.std.specs.declared.alloc.Global.{Global}
use Rattle.std.proofs.Math.ListN.{set, length-set}
use Rattle.std.proofs.Math.Nat.{mul-le-mul_right}
use Rattle.std.proofs.lemmas.Bool.{cases_eq, cases_lt, lt-ltb, ltb-true}
use Rattle.std.proofs.lemmas.List.{get_or-set_other, get_or-set_same}
use Rattle.std.proofs.lemmas.Nat.{div-mul-add}
use Rattle.std.proofs.lemmas.Option.{slice_get-get_or, slice_get_past}
use Rattle.plane_geom.specs.declared.point.Dir.{Dir}
use Rattle.plane_geom.specs.declared.point.Dir.TheVariants.{East, South, West, North}
use Rattle.exit_rows.specs.declared.exit.Kept.{Kept}
use Rattle.exit_rows.specs.declared.rows.Rows.{Rows}
use Rattle.exit_rows.specs.Rows.{HasRow, IsMarked, IsRow, exits_in, kept_in, row_of, side}

-- a row of exits
abbrev pub Row : Type 0
Row = Vec Kept Global

-- ---- reading what was written

module _ (rows : List Row) (at : ℕ) (row : Row) where
  pub read_set : (n : ℕ) → at < length rows → n ≡ at → slice_get (set rows at row) n ≡ Some row
  read_set n lt same =
      slice_get-get_or (set rows at row) n row (omega (arith, lt, same, length-set rows at row))
      ∙ ap Some (ap (λ k. get_or (set rows at row) k row) same ∙ get_or-set_same rows at row row lt)

  pub read_other : (n : ℕ) → (n ≡ at → ⊥) → slice_get (set rows at row) n ≡ slice_get rows n
  read_other n apart = by_length (cases_lt n (length rows))
    where
      by_length : (n < length rows) ⊎ (length rows ≤ n) → slice_get (set rows at row) n ≡ slice_get rows n
      by_length (inl lt) =
          slice_get-get_or (set rows at row) n row (omega (arith, lt, length-set rows at row))
          ∙ ap Some (get_or-set_other rows at n row row apart)
          ∙ sym (slice_get-get_or rows n row lt)
      by_length (inr past) = slice_get_past (set rows at row) n (omega (arith, past, length-set rows at row)) ∙ sym (slice_get_past rows n past)

-- ---- the rows of lines

few_sides : (d : Dir) → side d < 2
few_sides East = omega arith
few_sides South = omega arith
few_sides West = omega arith
few_sides North = omega arith

-- the rows of two lines, stages or sides differ
one_row : (lines k l j m : ℕ) (d h : Dir) → l < lines → m < lines → (j * lines + m) * 2 + side h ≡ (k * lines + l) * 2 + side d → IsRow k l d j m h
one_row lines k l j m d h fits fits_m e =
    let a = few_sides d in
    let b = few_sides h in
    let pair : j * lines + m ≡ k * lines + l = omega (arith, e, a, b) in
    let stage : j ≡ k = sym (div-mul-add j lines m fits_m) ∙ ap (λ n. n / lines) pair ∙ div-mul-add k lines l fits in
    let scaled : j * lines ≡ k * lines = ap (λ n. n * lines) stage in
    record { stage = stage; line = omega (arith, pair, scaled); heading = omega (arith, e, a, b) }

-- the exits of the line with the number m, where its row has the index n
abbrev pub kept_at : ℕ → List Row → ℕ → ℕ → List Kept
kept_at lines rows m n = if nat_lt m lines then exits_in (slice_get rows n) else []

if_true : (b : Bool) (xs : List Kept) → b ≡ true → (if b then xs else []) ≡ xs
if_true b xs e = ap (λ (c : Bool). if c then xs else []) e

-- what is read of the rows are the exits of the line
pub row_is : (lines : ℕ) (rows : List Row) (m n : ℕ) (row : Row) → m < lines → n < length rows → row ≡ get_or rows n row → kept_at lines rows m n ≡ row.items
row_is lines rows m n row fits lt is =
    if_true (nat_lt m lines) (exits_in (slice_get rows n)) (lt-ltb m lines fits)
    ∙ ap exits_in (slice_get-get_or rows n row lt ∙ ap Some (sym is))

pub row_read : (t : Rows) (k l : ℕ) (d : Dir) (n : ℕ) (row : Row) → HasRow t k l → n ≡ row_of t k l d → n < length t.rows.items → row ≡ get_or t.rows.items n row → kept_in t k l d ≡ row.items
row_read t k l d n row has at lt is = ap (kept_at t.lines t.rows.items l) (sym at) ∙ row_is t.lines t.rows.items l n row has.line lt is

-- both sides of one line
pub same_row : (lines : ℕ) (rows : List Row) (k l j m : ℕ) (d h : Dir) → IsRow k l d j m h →
    kept_at lines rows m ((j * lines + m) * 2 + side h) ≡ kept_at lines rows l ((k * lines + l) * 2 + side d)
same_row lines rows k l j m d h is = λ i. kept_at lines rows (is.line i) ((is.stage i * lines + is.line i) * 2 + is.heading i)

module _ (lines : ℕ) (rows : List Row) (k l : ℕ) (d : Dir) (row : Row) (fits : l < lines) (lt : (k * lines + l) * 2 + side d < length rows) where
  -- what lines keep before the row is written, and after
  abbrev before : ℕ → ℕ → Dir → List Kept
  before j m h = kept_at lines rows m ((j * lines + m) * 2 + side h)

  abbrev after : ℕ → ℕ → Dir → List Kept
  after j m h = kept_at lines (set rows ((k * lines + l) * 2 + side d) row) m ((j * lines + m) * 2 + side h)

  written_here : after k l d ≡ row.items
  written_here =
      if_true (nat_lt l lines) _ (lt-ltb l lines fits)
      ∙ ap exits_in (read_set rows ((k * lines + l) * 2 + side d) row ((k * lines + l) * 2 + side d) lt refl)

  none : (m : ℕ) (xs : List Kept) → nat_lt m lines ≡ false → (if nat_lt m lines then xs else []) ≡ []
  none m xs e = ap (λ (c : Bool). if c then xs else []) e

  -- each row is this one or stays as it was
  written_each : (j m : ℕ) (h : Dir) → (after j m h ≡ before j m h) ⊎ IsRow k l d j m h
  written_each j m h = by_line (nat_lt m lines) refl
    where
      by_index : m < lines → ((j * lines + m) * 2 + side h ≡ (k * lines + l) * 2 + side d) ⊎ ((j * lines + m) * 2 + side h ≡ (k * lines + l) * 2 + side d → ⊥)
          → (after j m h ≡ before j m h) ⊎ IsRow k l d j m h
      by_index fits_m (inl same) = inr (one_row lines k l j m d h fits fits_m same)
      by_index fits_m (inr apart) =
          inl (ap (λ (o : Option Row). if nat_lt m lines then exits_in o else []) (read_other rows ((k * lines + l) * 2 + side d) row ((j * lines + m) * 2 + side h) apart))

      by_line : (b : Bool) → nat_lt m lines ≡ b → (after j m h ≡ before j m h) ⊎ IsRow k l d j m h
      by_line true test = by_index (ltb-true m lines test) (cases_eq ((j * lines + m) * 2 + side h) ((k * lines + l) * 2 + side d))
      by_line false test = inl (none m _ test ∙ sym (none m _ test))

  -- one row has one exit more
  more_each : (e : Kept) → row.items ≡ before k l d ++ e ∷ [] → (j m : ℕ) (h : Dir) →
      (after j m h ≡ before j m h) ⊎ (IsRow k l d j m h × (after j m h ≡ before j m h ++ e ∷ []))
  more_each e more j m h = by_case (written_each j m h)
    where
      by_case : (after j m h ≡ before j m h) ⊎ IsRow k l d j m h → (after j m h ≡ before j m h) ⊎ (IsRow k l d j m h × (after j m h ≡ before j m h ++ e ∷ []))
      by_case (inl same) = inl same
      by_case (inr is) = inr (
        is,
        same_row lines (set rows ((k * lines + l) * 2 + side d) row) k l j m d h is
            ∙ (written_here ∙ more)
            ∙ ap (λ xs. xs ++ e ∷ []) (sym (same_row lines rows k l j m d h is)),
      )

  -- or as many
  as_many : row.items ≡ before k l d → (j m : ℕ) (h : Dir) → after j m h ≡ before j m h
  as_many same j m h = by_case (written_each j m h)
    where
      by_case : (after j m h ≡ before j m h) ⊎ IsRow k l d j m h → after j m h ≡ before j m h
      by_case (inl done) = done
      by_case (inr is) =
          same_row lines (set rows ((k * lines + l) * 2 + side d) row) k l j m d h is
          ∙ (written_here ∙ same)
          ∙ sym (same_row lines rows k l j m d h is)

-- what is written to the row of a line, which was read there
module _ (old new : Rows) (k l : ℕ) (d : Dir) (at : ℕ) (was row : Row) (has : HasRow old k l) (lines : new.lines ≡ old.lines) (rows : new.rows.items ≡ old.rows.items)
    (stands : at ≡ row_of old k l d) (lt : at < length old.rows.items) (read : was ≡ get_or new.rows.items at was) where
  abbrev now : ℕ → ℕ → Dir → List Kept
  now j m h = kept_at new.lines (set new.rows.items at row) m ((j * new.lines + m) * 2 + side h)

  as_written : (j m : ℕ) (h : Dir) → now j m h ≡ kept_at old.lines (set old.rows.items (row_of old k l d) row) m (row_of old j m h)
  as_written j m h = λ i. kept_at (lines i) (set (rows i) (stands i) row) m ((j * lines i + m) * 2 + side h)

  within : row_of old k l d < length old.rows.items
  within = omega (arith, stands, lt)

  pub was_kept : was.items ≡ kept_in old k l d
  was_kept = sym (row_read old k l d at was has stands lt (read ∙ (λ i. get_or (rows i) at was)))

  pub kept_more : (e : Kept) → row.items ≡ was.items ++ e ∷ [] → (j m : ℕ) (h : Dir) →
      (now j m h ≡ kept_in old j m h) ⊎ (IsRow k l d j m h × (now j m h ≡ kept_in old j m h ++ e ∷ []))
  kept_more e more j m h =
      subst (λ xs. (xs ≡ kept_in old j m h) ⊎ (IsRow k l d j m h × (xs ≡ kept_in old j m h ++ e ∷ []))) (sym (as_written j m h))
      (more_each old.lines old.rows.items k l d row has.line within e (more ∙ ap (λ xs. xs ++ e ∷ []) was_kept) j m h)

  pub kept_here : (e : Kept) → row.items ≡ was.items ++ e ∷ [] → now k l d ≡ kept_in old k l d ++ e ∷ []
  kept_here e more = as_written k l d ∙ written_here old.lines old.rows.items k l d row has.line within ∙ more ∙ ap (λ xs. xs ++ e ∷ []) was_kept

  pub kept_same : row.items ≡ was.items → (j m : ℕ) (h : Dir) → now j m h ≡ kept_in old j m h
  kept_same same j m h = as_written j m h ∙ as_many old.lines old.rows.items k l d row has.line within (same ∙ was_kept) j m h

-- ---- marks

-- one row is written, which is marked
pub marked_with : (t : Rows) (at : ℕ) (row : Row) → Contains t.marked.items at → IsMarked t → IsMarked (record t { rows = with_item t.rows at row })
marked_with t at row has are = record {
  rows = λ k d reads. by_place k d reads (cases_eq k at);
  marks = subst (λ (n : ℕ). All (λ k. k < n) t.marked.items) (sym (length-set t.rows.items at row)) are.marks;
}
  where
    by_place : (k : ℕ) (d : Row) → slice_get (set t.rows.items at row) k ≡ Some d → (k ≡ at) ⊎ (k ≡ at → ⊥) → (d.items ≡ []) ⊎ Contains t.marked.items k
    by_place k d reads (inl same) = inr (subst (Contains t.marked.items) (sym same) has)
    by_place k d reads (inr other) = are.rows k d (sym (read_other t.rows.items at row k other) ∙ reads)

-- rows with an exit are among the marks from this one on
abbrev pub AreMarkedFrom : List Row → List ℕ → ℕ → Type 0
AreMarkedFrom rows marks i = (k : ℕ) (d : Row) → slice_get rows k ≡ Some d → (d.items ≡ []) ⊎ ((j : ℕ) × (i ≤ j) × (j < length marks) × (get_or marks j 0 ≡ k))

-- ---- rooms

-- where there are rows for all lines in all stages, each line has its rows in each stage
pub has_row : (t : Rows) (lines stages k l : ℕ) → t.lines ≡ lines → stages * lines * 2 ≤ length t.rows.items → k < stages → l < lines → HasRow t k l
has_row t lines stages k l same rows stage line =
    let fits : (k + 1) * lines ≤ stages * lines = mul-le-mul_right lines (omega (arith, stage)) in
    let scaled : k * t.lines ≡ k * lines = ap (λ n. k * n) same in
    record { line = omega (arith, line, same); row = omega (arith, fits, scaled, rows, line) }
