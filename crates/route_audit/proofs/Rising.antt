-- Rows that rise, one by one.
use Rattle.std.proofs.Common.{◌≡◌, ◌⊎◌, ◌-◌, take, ℕ, suc, ◌+◌, ◌≤◌, ◌<◌, true, false, None, List, [], ◌∷◌, length, get_or, refl, sym, ap, subst, ◌∙◌}
use Rattle.std.proofs.Common.{arith, inl, inr, AllPairs, cond}
use Rattle.std.specs.Prelude.{IsTrue}
use Rattle.std.proofs.lemmas.Bool.{cases_lt}
use Rattle.std.proofs.lemmas.List.{get_or-take, length-take-le}
use Rattle.proof_model.specs.declared.proof.LabelRow.{LabelRow}
use Rattle.proof_model.specs.Labels.{is_before, is_row_of, label_in, label_of}
use Rattle.proof_model.specs.Places.{Place}
use Rattle.proof_model.proofs.Lex.{lex_trans}

abbrev pub Rises : List LabelRow → Type 0
Rises rows = AllPairs (λ a b. IsTrue (is_before a b)) rows

-- no row is of the place
pub no_label : (rows : List LabelRow) (x : Place) → ((k : ℕ) (d : LabelRow) → k < length rows → is_row_of (get_or rows k d) x ≡ false) → label_of rows x ≡ None
no_label [] x none = refl
no_label (r ∷ rs) x none =
    ap (λ b. cond b (label_in r x.heading) (label_of rs x)) (none 0 r (omega arith))
    ∙ no_label rs x (λ k d within. none (suc k) d (omega (arith, within)))

-- a row after the last one is after all, and they rise with it
pub rises_on : (rows : List LabelRow) (n : ℕ) → n < length rows → Rises (take n rows) → ((d : LabelRow) → 0 < n →
    is_before (get_or rows (n - 1) d) (get_or rows n d) ≡ true) → Rises (take (n + 1) rows)
rises_on rows n within rise last i j d h l = by_cut (cases_lt j n)
  where
    long : length (take (n + 1) rows) ≡ n + 1
    long = length-take-le (n + 1) rows (omega (arith, within))

    long_front : length (take n rows) ≡ n
    long_front = length-take-le n rows (omega (arith, within))

    at : (m : ℕ) → m < n + 1 → get_or (take (n + 1) rows) m d ≡ get_or rows m d
    at m less = get_or-take (n + 1) rows m d less

    front : (m k : ℕ) → m < k → k < n → is_before (get_or rows m d) (get_or rows k d) ≡ true
    front m k less below = rw (sym (get_or-take n rows m d (omega (arith, less, below))), sym (get_or-take n rows k d below)) (rise m k d less (omega
        (arith, long_front, below)))

    before_last : (m : ℕ) → m < n → is_before (get_or rows m d) (get_or rows n d) ≡ true
    before_last m less = elim (cases_lt m (n - 1)) as (λ _. is_before (get_or rows m d) (get_or rows n d) ≡ true) [
      | inl below ↦ (
          let p = get_or rows m d in
          let q = get_or rows (n - 1) d in
          let r = get_or rows n d in
          lex_trans p.stage p.at.y p.at.x q.stage q.at.y q.at.x r.stage r.at.y r.at.x (front m (n - 1) below (omega (arith, less))) (last d (omega
          (arith, less))))
      | inr none ↦ (let same : n - 1 ≡ m = omega (arith, less, none) in
          subst (λ k. is_before (get_or rows k d) (get_or rows n d) ≡ true) same (last d (omega (arith, less))))
    ]

    by_cut : (j < n) ⊎ (n ≤ j) → IsTrue (is_before (get_or (take (n + 1) rows) i d) (get_or (take (n + 1) rows) j d))
    by_cut (inl below) = rw (at i (omega (arith, h, below)), at j (omega (arith, below))) (front i j h below)
    by_cut (inr behind) =
        let here : n ≡ j = omega (arith, behind, l, long) in
        rw (at i (omega (arith, h, l, long)), at j (omega (arith, l, long))) (subst (λ k. is_before (get_or rows i d) (get_or rows k d) ≡ true) here
        (before_last i (omega (arith, h, here))))
