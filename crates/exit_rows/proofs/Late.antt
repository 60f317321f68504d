-- When one exit stands for another.
use Rattle.std.proofs.Common.{◌≡◌, ◌≢◌, ◌⊎◌, ◌≤ℤ◌, List, refl, sym, ◌∙◌, subst, inl, inr, arith}
use Rattle.std.specs.Prelude.{Contains}
use Rattle.std.specs.declared.cmp.Ordering.TheVariants.{Less, Equal, Greater}
use Rattle.std.proofs.lemmas.Int.{ints}
use Rattle.move_model.specs.Ahead.{ahead_cmp}
use Rattle.exit_rows.specs.declared.exit.Kept.{Kept}
use Rattle.exit_rows.specs.Exits.{IsLate, StandsFor, ahead_at}
use Rattle.exit_rows.proofs.Orders.{ahead_here, less_no_greater, more_than, not_greater}

-- the order of two decides, and where there is none, whether they go on alike
pub stands_less : (o e : Kept) → e.at ≤ℤ o.at → o.from ≤ℤ e.from → ahead_cmp (ahead_at o e.at) e.ahead ≡ Less → StandsFor o e
stands_less o e at from less = record { at = at; from = from; no_more = less_no_greater (ahead_at o e.at) e.ahead less; alike = inl less }

pub stands_equal : (o e : Kept) → e.at ≤ℤ o.at → o.from ≤ℤ e.from → ahead_cmp (ahead_at o e.at) e.ahead ≡ Equal → o.next ≡ e.next → StandsFor o e
stands_equal o e at from equal next = record {
  at = at;
  from = from;
  no_more = λ (f : ahead_cmp (ahead_at o e.at) e.ahead ≡ Greater). let wrong : Equal ≡ Greater = sym equal ∙ f in cc;
  alike = inr next;
}

pub equal_alike : (o e : Kept) → ahead_cmp (ahead_at o e.at) e.ahead ≡ Equal → StandsFor o e → o.next ≡ e.next
equal_alike o e equal h = by_case h.alike
  where
    by_case : (ahead_cmp (ahead_at o e.at) e.ahead ≡ Less) ⊎ (o.next ≡ e.next) → o.next ≡ e.next
    by_case (inl less) = absurd (let wrong : Equal ≡ Less = sym equal ∙ less in cc)
    by_case (inr next) = next

-- each exit stands for itself
pub stands_for_itself : (e : Kept) → StandsFor e e
stands_for_itself e = record {
  at = omega (arith, ints);
  from = omega (arith, ints);
  no_more = subst (λ v. ahead_cmp v e.ahead ≢ Greater) (sym (ahead_here e e.at refl)) (not_greater e.ahead);
  alike = inr refl;
}

-- one that is not late has less ahead than each at its place that goes on alike
pub less_than_kept : (row : List Kept) (e o : Kept) → (IsLate row e → ⊥) → Contains row o → o.at ≡ e.at → o.from ≡ e.from → o.next ≡ e.next → ahead_cmp e.ahead o.ahead ≡ Less
less_than_kept row e o late (j, lt, is) at from next = more_than o.ahead e.ahead (λ no_more.
    late (
      j,
      o,
      lt,
      is,
      record {
        at = omega (arith, ints, at);
        from = omega (arith, ints, from);
        no_more = subst (λ v. ahead_cmp v e.ahead ≢ Greater) (sym (ahead_here o e.at (sym at))) no_more;
        alike = inr next;
      },
    ))
