-- The map from keys to spans, beside the list.
use Rattle.std.proofs.Common.{◌≡◌, ℕ, false, cond, None, Some, List, sym, ◌∙◌, arith}
use Rattle.std.specs.Prelude.{◌==◌}
use Rattle.std.specs.Ordering.{nat_cmp, is_eq}
use Rattle.std.specs.BTreeMap.{BTreeMap}
use Rattle.std.specs.BTreeMap as tree
use Rattle.std.proofs.lemmas.Bool.Decides.{nat_tests}
use Rattle.interval_index.specs.declared.span.Span.{Span}
use Rattle.interval_index.specs.Order.{inserted}
use Rattle.interval_index.specs.Index.{IsIndex, IsSpan, has_key, without_key}
use Rattle.interval_index.proofs.Listed.{listed_inserted, listed_without, found_inserted, found_rest}

at_key : (k q : ℕ) → is_eq (nat_cmp k q) ≡ (k == q)
at_key k q = grind (arith, nat_tests)

pub index_inserted : (s : Span) (l : List Span) (m n : BTreeMap ℕ Span) → has_key s.key l ≡ false → IsSpan s → IsIndex l m → ((q : ℕ) → tree.get nat_cmp n q ≡ cond (is_eq (nat_cmp s.key q)) (Some s) (tree.get nat_cmp m q)) → IsIndex (inserted s l) n
index_inserted s l m n new span h updates = record {
  listed = listed_inserted s l new span h.listed;
  found = λ q. updates q ∙ rw (at_key s.key q, h.found q) (sym (found_inserted q s l new));
}

pub index_without : (k : ℕ) (l : List Span) (m n : BTreeMap ℕ Span) → IsIndex l m → ((q : ℕ) → tree.get nat_cmp n q ≡ cond (is_eq (nat_cmp k q)) None (tree.get nat_cmp m q)) → IsIndex (without_key k l) n
index_without k l m n h updates = record {
  listed = listed_without k l h.listed;
  found = λ q. updates q ∙ rw (at_key k q, h.found q) (sym (found_rest k q l));
}
