-- Pairs of the code beside what they stand for: what stands under a key, one pair after another.
use Rattle.std.proofs.Common.{◌≡◌, ◌≢◌, ℕ, zero, suc, ◌<◌, ◌≤◌, ◌+◌, true, false, List, [], ◌∷◌, length, get_or, drop, None, Some, refl, sym, ap, ◌∙◌, arith, rules, add-one, drop-cons}
use Rattle.std.specs.Prelude.{bytes_eq, slice_get}
use Rattle.std.proofs.lemmas.Option.{none-some, same_Some}
use Rattle.std.proofs.lemmas.Slice.Eq.{bytes_eq-Decides}
use Rattle.gml_text.specs.Tree.{Pairs, pair, keys}
use Rattle.gml_text.specs.View.{content, entry, pairs}
use Rattle.gml_text.specs.declared.tree.Value.{the_lemmas}
use Rattle.gml_text.specs.declared.tree.Pair.{Pair}
use Rattle.gml_text.proofs.Views.{entry_key}
use Rattle.scene_model.proofs.Directions.{tested}
use Rattle.scene_model.proofs.Directions.Tested.{yes, no}
use Rattle.diagram_read.specs.Values.{as_list, value_at, values_at, lists_at, values, entries_from}

-- the value of a pair
entry_value : (p : Pair) → (entry p).1 ≡ content p.value
entry_value p = search (rules, the_lemmas)

-- the pairs from a place on, where one stands there
turn : (ps : List Pair) (i : ℕ) (p : Pair) → i < length ps → p ≡ get_or ps i p → pairs (drop i ps) ≡ pair p.key (content p.value) (pairs (drop (i + 1) ps))
turn ps i p within is =
    ap pairs (drop-cons ps i p within ∙ ap (λ q. q ∷ drop (suc i) ps) (sym is))
    ∙ ap (λ k. pair k (entry p).1 (pairs (drop (suc i) ps))) (entry_key p)
    ∙ ap (λ v. pair p.key v (pairs (drop (suc i) ps))) (entry_value p)
    ∙ ap (λ n. pair p.key (content p.value) (pairs (drop n ps))) (sym (add-one i))

-- the values under a key, where the next pair has it and where it has not
pub values_here : (key : List ℕ) (ps : List Pair) (i : ℕ) (p : Pair) → i < length ps → p ≡ get_or ps i p → bytes_eq p.key key ≡ true
    → values_at key (pairs (drop i ps)) ≡ content p.value ∷ values_at key (pairs (drop (i + 1) ps))
values_here key ps i p within is same = ap (values_at key) (turn ps i p within is) ∙ (rw same refl)

pub values_past : (key : List ℕ) (ps : List Pair) (i : ℕ) (p : Pair) → i < length ps → p ≡ get_or ps i p → bytes_eq p.key key ≡ false
    → values_at key (pairs (drop i ps)) ≡ values_at key (pairs (drop (i + 1) ps))
values_past key ps i p within is other = ap (values_at key) (turn ps i p within is) ∙ (rw other refl)

-- the lists under a key, in the same way
pub lists_here : (key : List ℕ) (ps : List Pair) (i : ℕ) (p : Pair) (inner : Pairs) → i < length ps → p ≡ get_or ps i p → bytes_eq p.key key ≡ true → as_list (content p.value) ≡ Some inner
    → lists_at key (pairs (drop i ps)) ≡ inner ∷ lists_at key (pairs (drop (i + 1) ps))
lists_here key ps i p inner within is same listed = ap (lists_at key) (turn ps i p within is) ∙ (rw (same, listed) refl)

pub lists_no : (key : List ℕ) (ps : List Pair) (i : ℕ) (p : Pair) → i < length ps → p ≡ get_or ps i p → as_list (content p.value) ≡ None
    → lists_at key (pairs (drop i ps)) ≡ lists_at key (pairs (drop (i + 1) ps))
lists_no key ps i p within is bare = elim (tested (bytes_eq p.key key)) as (λ _. lists_at key (pairs (drop i ps)) ≡ lists_at key (pairs (drop (i + 1) ps))) [
  | yes same ↦ ap (lists_at key) (turn ps i p within is) ∙ (rw (same, bare) refl)
  | no other ↦ ap (lists_at key) (turn ps i p within is) ∙ (rw other refl)
]

pub lists_past : (key : List ℕ) (ps : List Pair) (i : ℕ) (p : Pair) → i < length ps → p ≡ get_or ps i p → bytes_eq p.key key ≡ false
    → lists_at key (pairs (drop i ps)) ≡ lists_at key (pairs (drop (i + 1) ps))
lists_past key ps i p within is other = ap (lists_at key) (turn ps i p within is) ∙ (rw other refl)

-- and the same with their places
pub entries_here : (key : List ℕ) (ps : List Pair) (i : ℕ) (p : Pair) (inner : Pairs) → i < length ps → p ≡ get_or ps i p → bytes_eq p.key key ≡ true → as_list (content p.value) ≡ Some inner
    → entries_from i key (pairs (drop i ps)) ≡ (i, inner) ∷ entries_from (i + 1) key (pairs (drop (i + 1) ps))
entries_here key ps i p inner within is same listed =
    ap (entries_from i key) (turn ps i p within is) ∙ (rw (same, listed) (ap (λ n. (i, inner) ∷ entries_from n key (pairs (drop (i + 1) ps))) (sym (add-one i))))

pub entries_no : (key : List ℕ) (ps : List Pair) (i : ℕ) (p : Pair) → i < length ps → p ≡ get_or ps i p → as_list (content p.value) ≡ None
    → entries_from i key (pairs (drop i ps)) ≡ entries_from (i + 1) key (pairs (drop (i + 1) ps))
entries_no key ps i p within is bare = elim (tested (bytes_eq p.key key)) as (λ _. entries_from i key (pairs (drop i ps)) ≡ entries_from (i + 1) key (pairs (drop (i + 1) ps))) [
  | yes same ↦ ap (entries_from i key) (turn ps i p within is) ∙ (rw (same, bare) (ap (λ n. entries_from n key (pairs (drop (i + 1) ps))) (sym (add-one i))))
  | no other ↦ ap (entries_from i key) (turn ps i p within is) ∙ (rw other (ap (λ n. entries_from n key (pairs (drop (i + 1) ps))) (sym (add-one i))))
]

pub entries_past : (key : List ℕ) (ps : List Pair) (i : ℕ) (p : Pair) → i < length ps → p ≡ get_or ps i p → bytes_eq p.key key ≡ false
    → entries_from i key (pairs (drop i ps)) ≡ entries_from (i + 1) key (pairs (drop (i + 1) ps))
entries_past key ps i p within is other =
    ap (entries_from i key) (turn ps i p within is) ∙ (rw other (ap (λ n. entries_from n key (pairs (drop (i + 1) ps))) (sym (add-one i))))

-- a place at which a key stands is one of a pair
pub key_within : (ps : List Pair) (i : ℕ) (key : List ℕ) → slice_get (keys (pairs ps)) i ≡ Some key → i < length ps
key_within [] i key is = absurd (none-some key is)
key_within (p ∷ ps) zero key is = omega arith
key_within (p ∷ ps) (suc i) key is = (let deeper = key_within ps i key is in omega arith)

differ : (xs ys : List ℕ) → xs ≢ ys → bytes_eq xs ys ≡ false
differ xs ys other = elim (tested (bytes_eq xs ys)) as (λ _. bytes_eq xs ys ≡ false) [
  | yes same ↦ absurd (other ((bytes_eq-Decides xs ys).0 same))
  | no h ↦ h
]

-- the first pair with the key has the value under it
pub value_found : (ps : List Pair) (key : List ℕ) (i : ℕ) (d : Pair) → slice_get (keys (pairs ps)) i ≡ Some key → ((k : ℕ) → k < i → slice_get (keys (pairs ps)) k ≢ Some key)
    → Some (content (get_or ps i d).value) ≡ value_at key (pairs ps)
value_found [] key i d is first = absurd (none-some key is)
value_found (p ∷ ps) key zero d is first =
    let same = (bytes_eq-Decides (entry p).0 key).1 (same_Some (entry p).0 key is) in
    rw same (ap Some (sym (entry_value p)))
value_found (p ∷ ps) key (suc i) d is first =
    let other = differ (entry p).0 key (λ e. first 0 (omega arith) (ap Some e)) in
    rw other (value_found ps key i d is (λ k below. first (suc k) (omega arith)))

-- and where no pair has it, there is none
pub value_missing : (ps : List Pair) (key : List ℕ) → ((k : ℕ) → slice_get (keys (pairs ps)) k ≢ Some key) → value_at key (pairs ps) ≡ None
value_missing [] key none = refl
value_missing (p ∷ ps) key none =
    let other = differ (entry p).0 key (λ e. none 0 (ap Some e)) in
    rw other (value_missing ps key (λ k. none (suc k)))

-- the value at a place, and beyond the last one
pub value_here : (ps : List Pair) (i : ℕ) (p : Pair) → i < length ps → p ≡ get_or ps i p → Some (content p.value) ≡ slice_get (values (pairs ps)) i
value_here [] i p within is = absurd (omega arith)
value_here (q ∷ ps) zero p within is = ap (λ x. Some (content x.value)) is ∙ ap Some (sym (entry_value q))
value_here (q ∷ ps) (suc i) p within is = value_here ps i p (omega arith) is

pub value_beyond : (ps : List Pair) (i : ℕ) → length ps ≤ i → None ≡ slice_get (values (pairs ps)) i
value_beyond [] i beyond = refl
value_beyond (q ∷ ps) zero beyond = absurd (omega arith)
value_beyond (q ∷ ps) (suc i) beyond = value_beyond ps i (omega arith)
