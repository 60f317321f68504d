-- The lesser of two numbers is one of them.
use Rattle.std.proofs.Common.{◌≡◌, ◌⊎◌, ℕ, ◌+◌, ◌<◌, List, length, get_or, sym, ◌∙◌, inl, inr, arith}
use Rattle.std.specs.Prelude.{Any, min}
use Rattle.std.proofs.lemmas.Bool.{cases_lt}
use Rattle.move_model.specs.declared.place.Place.{Place}
use Rattle.search_problem.specs.Bounds.{most_cost}
use Rattle.search_problem.specs.declared.ends.Entry.{Entry}

pub one_of_both : (m n : ℕ) → (min m n ≡ m) ⊎ (min m n ≡ n)
one_of_both m n = elim (cases_lt m n) as (λ _. (min m n ≡ m) ⊎ (min m n ≡ n)) [ inl l ↦ inl (omega (arith, l)) | inr g ↦ inr (omega (arith, g)) ]

module _ (es : List Entry) (place : Place) (cost : ℕ) where
  -- the number is `most_cost`, or the cost of a walk that enters there
  abbrev pub IsWhole : ℕ → Type 0
  IsWhole least = (least ≡ most_cost) ⊎ Any (λ (e : Entry). (e.place ≡ place) × (least ≡ e.lead + cost)) es

  same_whole : (m n : ℕ) → m ≡ n → IsWhole n → IsWhole m
  same_whole m n same (inl h) = inl (same ∙ h)
  same_whole m n same (inr h) = inr (h.0, h.1, h.2, h.3, (h.4.0, same ∙ h.4.1))

  -- so is the lesser of it and the value of one entry
  pub least_step : (least through : ℕ) (i : ℕ) (e : Entry) → i < length es → e ≡ get_or es i e → (through ≡ most_cost) ⊎ ((e.place ≡ place) × (through ≡ e.lead + cost))
      → IsWhole least → IsWhole (min least through)
  least_step least through i e lt is gives was = by_min (one_of_both least through)
    where
      whole : (through ≡ most_cost) ⊎ ((e.place ≡ place) × (through ≡ e.lead + cost)) → IsWhole through
      whole (inl most) = inl most
      whole (inr here) = inr (i, e, lt, sym is, here)

      by_min : (min least through ≡ least) ⊎ (min least through ≡ through) → IsWhole (min least through)
      by_min (inl same) = same_whole (min least through) least same was
      by_min (inr same) = same_whole (min least through) through same (whole gives)
