-- Pairs of the code beside what they stand for, and the changes of a list of them.
use Rattle.std.proofs.Common.{◌≡◌, ◌≢◌, ℕ, zero, suc, ◌<◌, ◌≤◌, Bool, true, false, not, List, [], ◌∷◌, ◌++◌, length, get_or, take, drop, Option, Some, None, refl, sym, ap, subst, ◌∙◌, ◌⊎◌, inl, inr, arith, rules}
use Rattle.std.specs.Prelude.{◌&&◌, bytes_eq, slice_get, slice_set, filter, insert, option_map, is_some, if◌then◌else◌}
use Rattle.std.proofs.lemmas.Bool.{and_parts}
use Rattle.std.proofs.lemmas.Option.{none-some, same_Some}
use Rattle.std.proofs.lemmas.Slice.Eq.{bytes_eq-Decides}
use Rattle.gml_text.specs.Tree.{Content, number, text, list, Pairs, no_pairs, pair, keys, ◌then◌}
use Rattle.gml_text.specs.View.{content, entry, pairs}
use Rattle.std.specs.Prelude.{Vec}
use Rattle.std.specs.declared.alloc.Global.{Global}
use Rattle.gml_text.specs.declared.tree.Value.{Value, the_lemmas}
use Rattle.gml_text.specs.declared.tree.Value as list-value
use Rattle.gml_text.specs.declared.tree.Pair.{Pair, roll-Pair}
use Rattle.gml_text.proofs.Views.{entry_key}
use Rattle.scene_model.proofs.Directions.{tested}
use Rattle.scene_model.proofs.Directions.Tested.{yes, no}
use Rattle.diagram_read.specs.Values.{list_at}
use Rattle.gml_scene.proofs.Places.{refuted}
use Rattle.gml_scene.specs.Changes.{one, put, without, put_only, is_list, change_inside, list_place, change_list}

-- the value of a pair
pub entry_value : (p : Pair) → (entry p).1 ≡ content p.value
entry_value p = search (rules, the_lemmas)

-- the model of a pair is its key and the model of its value
pub shown : (p : Pair) (ps : List Pair) → pairs (p ∷ ps) ≡ pair p.key (content p.value) (pairs ps)
shown p ps = ap (λ k. pair k (entry p).1 (pairs ps)) (entry_key p) ∙ ap (λ v. pair p.key v (pairs ps)) (entry_value p)

-- pairs after others
pub pairs-append : (ps qs : List Pair) → pairs (ps ++ qs) ≡ pairs ps then pairs qs
pairs-append [] qs = refl
pairs-append (p ∷ ps) qs = ap (pair (entry p).0 (entry p).1) (pairs-append ps qs)

-- a pair that is made of a key and a value
abbrev pub made : List ℕ → Value → Pair
made key value = roll-Pair (record { key = key; value = value })

-- it goes last
pub pushed : (ps : List Pair) (key : List ℕ) (value : Value) → pairs (ps ++ made key value ∷ []) ≡ pairs ps then one key (content value)
pushed ps key value = pairs-append ps (made key value ∷ []) ∙ ap (λ qs. pairs ps then qs) (shown (made key value) [])

-- no key is there before the place
abbrev pub IsFirst : List ℕ → List Pair → ℕ → Type 0
IsFirst key ps i = (k : ℕ) → k < i → slice_get (keys (pairs ps)) k ≢ Some key

differ : (xs ys : List ℕ) → (xs ≡ ys → ⊥) → bytes_eq xs ys ≡ false
differ xs ys = refuted (bytes_eq xs ys) (bytes_eq-Decides xs ys)

alike : (xs ys : List ℕ) → xs ≡ ys → bytes_eq xs ys ≡ true
alike xs ys = (bytes_eq-Decides xs ys).1

-- the first pair with the key gets another value
pub put_here : (ps : List Pair) (key : List ℕ) (i : ℕ) (q : Pair) → q.key ≡ key → slice_get (keys (pairs ps)) i ≡ Some key → IsFirst key ps i
    → pairs (slice_set ps i q) ≡ put key (content q.value) (pairs ps)
put_here [] key i q same is first = absurd (none-some key is)
put_here (p ∷ ps) key zero q same is first =
    let here = same_Some (entry p).0 key is in
    rw (alike (entry p).0 key here) (shown q ps ∙ ap (λ k. pair k (content q.value) (pairs ps)) (same ∙ sym here))
put_here (p ∷ ps) key (suc i) q same is first =
    rw (differ (entry p).0 key (λ e. first 0 (omega arith) (ap Some e)))
    (ap (pair (entry p).0 (entry p).1) (put_here ps key i q same is (λ k below. first (suc k) (omega arith))))

-- and where no pair has it, one goes last
pub put_missing : (ps : List Pair) (key : List ℕ) (value : Content) → ((k : ℕ) → slice_get (keys (pairs ps)) k ≢ Some key) → put key value (pairs ps) ≡ pairs ps then one key value
put_missing [] key value none = refl
put_missing (p ∷ ps) key value none =
    rw (differ (entry p).0 key (λ e. none 0 (ap Some e))) (ap (pair (entry p).0 (entry p).1) (put_missing ps key value (λ k. none (suc k))))

-- the pairs of other keys
abbrev pub others : List ℕ → List Pair → List Pair
others key ps = filter (λ p. not (bytes_eq p.key key)) ps

pub without_others : (key : List ℕ) (ps : List Pair) → pairs (others key ps) ≡ without key (pairs ps)
without_others key [] = refl
without_others key (p ∷ ps) = elim (tested (bytes_eq p.key key)) as (λ _. pairs (others key (p ∷ ps)) ≡ without key (pairs (p ∷ ps))) [
  | yes same ↦ (let seen = ap (λ k. bytes_eq k key) (entry_key p) ∙ same in rw (same, seen) (without_others key ps))
  | no other ↦ (let seen = ap (λ k. bytes_eq k key) (entry_key p) ∙ other in rw (other, seen) (ap (pair (entry p).0 (entry p).1) (without_others key ps)))
]

-- before the place of the first pair with the key all are others
pub room : (ps : List Pair) (key : List ℕ) (i : ℕ) → slice_get (keys (pairs ps)) i ≡ Some key → IsFirst key ps i → i ≤ length (others key ps)
room [] key i is first = absurd (none-some key is)
room (p ∷ ps) key zero is first = omega arith
room (p ∷ ps) key (suc i) is first =
    let other = ap (λ k. bytes_eq k key) (sym (entry_key p)) ∙ differ (entry p).0 key (λ e. first 0 (omega arith) (ap Some e)) in
    let rest = room ps key i is (λ k below. first (suc k) (omega arith)) in
    rw other (omega arith)

-- the first pair with the key gets another value, and no further one is left
pub put_only_here : (ps : List Pair) (key : List ℕ) (i : ℕ) (q : Pair) → q.key ≡ key → slice_get (keys (pairs ps)) i ≡ Some key → IsFirst key ps i
    → pairs (insert (others key ps) i q) ≡ put_only key (content q.value) (pairs ps)
put_only_here [] key i q same is first = absurd (none-some key is)
put_only_here (p ∷ ps) key zero q same is first =
    let here = same_Some (entry p).0 key is in
    let gone = ap (λ k. bytes_eq k key) (sym (entry_key p)) ∙ alike (entry p).0 key here in
    rw (alike (entry p).0 key here, gone)
    (shown q (others key ps) ∙ ap (λ k. pair k (content q.value) (pairs (others key ps))) (same ∙ sym here) ∙ ap (pair (entry p).0 (content q.value)) (without_others key ps))
put_only_here (p ∷ ps) key (suc i) q same is first =
    let far = differ (entry p).0 key (λ e. first 0 (omega arith) (ap Some e)) in
    let other = ap (λ k. bytes_eq k key) (sym (entry_key p)) ∙ far in
    rw (far, other)
    (ap (pair (entry p).0 (entry p).1) (put_only_here ps key i q same is (λ k below. first (suc k) (omega arith))))

pub put_only_missing : (ps : List Pair) (key : List ℕ) (value : Content) → ((k : ℕ) → slice_get (keys (pairs ps)) k ≢ Some key) → put_only key value (pairs ps) ≡ pairs ps then one key value
put_only_missing [] key value none = refl
put_only_missing (p ∷ ps) key value none =
    rw (differ (entry p).0 key (λ e. none 0 (ap Some e))) (ap (pair (entry p).0 (entry p).1) (put_only_missing ps key value (λ k. none (suc k))))

-- a place past the first is one more than that in the rest
abbrev IsOneMore : Option ℕ → ℕ → Type 0
IsOneMore o i = (j : ℕ) × (o ≡ Some j) × (i ≡ suc j)

one_more : (o : Option ℕ) (i : ℕ) → option_map suc o ≡ Some i → IsOneMore o i
one_more None i is = absurd (none-some i is)
one_more (Some j) i is = (j, refl, sym (same_Some (suc j) i is))

-- the pair has the key and a list
abbrev has_list : List ℕ → Pair → Bool
has_list key p = bytes_eq (entry p).0 key && is_list (entry p).1

-- the place is that of the first pair, or one more than that in the rest
pub placed : (b : Bool) (o : Option ℕ) (i : ℕ) → (if b then Some 0 else option_map suc o) ≡ Some i → ((b ≡ true) × (i ≡ 0)) ⊎ ((b ≡ false) × IsOneMore o i)
placed true o i is = inl (refl, sym (same_Some 0 i is))
placed false o i is = inr (refl, one_more o i is)

-- the place is one of a pair
pub place_within : (key : List ℕ) (ps : List Pair) (i : ℕ) → list_place key (pairs ps) ≡ Some i → i < length ps
place_within key [] i is = absurd (none-some i is)
place_within key (p ∷ ps) i is = elim (placed (has_list key p) (list_place key (pairs ps)) i is) [
  | inl c ↦ omega (arith, c.1)
  | inr c ↦ (let deeper = place_within key ps c.1.0 c.1.1 in omega (arith, deeper, c.1.2))
]

-- the list at the place is changed, and what stands around it stays
abbrev Around : List ℕ → (Pairs → Pairs) → List Pair → ℕ → Pair → Type 0
Around key f ps i d = change_list key f (pairs ps) ≡ pairs (take i ps) then pair key (change_inside f (content (get_or ps i d).value)) (pairs (drop (suc i) ps))

around_first : (key : List ℕ) (f : Pairs → Pairs) (p : Pair) (ps : List Pair) (d : Pair) → has_list key p ≡ true → Around key f (p ∷ ps) 0 d
around_first key f p ps d h =
    let same = (bytes_eq-Decides (entry p).0 key).0 (and_parts (bytes_eq (entry p).0 key) (is_list (entry p).1) h).0 in
    rw h (ap (λ k. pair k (change_inside f (entry p).1) (pairs ps)) same ∙ ap (λ v. pair key (change_inside f v) (pairs ps)) (entry_value p))

around_later : (key : List ℕ) (f : Pairs → Pairs) (p : Pair) (ps : List Pair) (j : ℕ) (d : Pair) → has_list key p ≡ false → Around key f ps j d → Around key f (p ∷ ps) (suc j) d
around_later key f p ps j d h rest = rw h (ap (pair (entry p).0 (entry p).1) rest)

pub around_place : (key : List ℕ) (f : Pairs → Pairs) (ps : List Pair) (i : ℕ) (d : Pair) → list_place key (pairs ps) ≡ Some i → Around key f ps i d
around_place key f [] i d is = absurd (none-some i is)
around_place key f (p ∷ ps) i d is = elim (placed (has_list key p) (list_place key (pairs ps)) i is) [
  | inl c ↦ subst (λ n. Around key f (p ∷ ps) n d) (sym c.1) (around_first key f p ps d c.0)
  | inr c ↦ subst (λ n. Around key f (p ∷ ps) n d) (sym c.1.2) (around_later key f p ps c.1.0 d c.0 (around_place key f ps c.1.0 d c.1.1))
]

-- a pair that is put at a place keeps the key of the one there and has its value changed
abbrev pub IsChanged : (Pairs → Pairs) → Pair → Pair → Type 0
IsChanged f p q = (q.key ≡ p.key) × (content q.value ≡ change_inside f (content p.value))

changed_first : (key : List ℕ) (f : Pairs → Pairs) (p : Pair) (ps : List Pair) (q : Pair) → has_list key p ≡ true → IsChanged f p q → pairs (q ∷ ps) ≡ change_list key f (pairs (p ∷ ps))
changed_first key f p ps q h changed =
    rw h
    (shown q ps
    ∙ ap (λ k. pair k (content q.value) (pairs ps)) (changed.0 ∙ sym (entry_key p))
    ∙ ap (λ v. pair (entry p).0 v (pairs ps)) (changed.1 ∙ ap (change_inside f) (sym (entry_value p))))

changed_later : (key : List ℕ) (f : Pairs → Pairs) (p : Pair) (ps qs : List Pair) → has_list key p ≡ false → pairs qs ≡ change_list key f (pairs ps) → pairs (p ∷ qs) ≡ change_list key f (pairs (p ∷ ps))
changed_later key f p ps qs h rest = rw h (ap (pair (entry p).0 (entry p).1) rest)

-- the pairs with a changed pair at the place
pub changed_place : (key : List ℕ) (f : Pairs → Pairs) (ps : List Pair) (i : ℕ) (d q : Pair) → list_place key (pairs ps) ≡ Some i → IsChanged f (get_or ps i d) q
    → pairs (slice_set ps i q) ≡ change_list key f (pairs ps)
changed_place key f [] i d q is changed = absurd (none-some i is)
changed_place key f (p ∷ ps) i d q is changed = elim (placed (has_list key p) (list_place key (pairs ps)) i is) [
  | inl c ↦
      subst (λ n. pairs (slice_set (p ∷ ps) n q) ≡ change_list key f (pairs (p ∷ ps))) (sym c.1)
      (changed_first key f p ps q c.0 (subst (λ n. IsChanged f (get_or (p ∷ ps) n d) q) c.1 changed))
  | inr c ↦
      subst (λ n. pairs (slice_set (p ∷ ps) n q) ≡ change_list key f (pairs (p ∷ ps))) (sym c.1.2)
      (changed_later key f p ps (slice_set ps c.1.0 q) c.0 (changed_place key f ps c.1.0 d q c.1.1 (subst (λ n. IsChanged f (get_or (p ∷ ps) n d) q) c.1.2 changed)))
]

-- the same for a pair that is made anew at the place
pub changed_here : (key : List ℕ) (f : Pairs → Pairs) (ps : List Pair) (i : ℕ) (p : Pair) (value : Value) → list_place key (pairs ps) ≡ Some i → p ≡ get_or ps i p
    → content value ≡ change_inside f (content p.value) → pairs (slice_set ps i (made p.key value)) ≡ change_list key f (pairs ps)
changed_here key f ps i p value place is changed = changed_place key f ps i p (made p.key value) place (ap (λ q. q.key) is, changed ∙ ap (λ q. change_inside f (content q.value)) is)

-- a value that is a list of pairs
pub content_list : (v : Vec Pair Global) → content (list-value.List v) ≡ list (pairs v.items)
content_list v = search (rules, the_lemmas)

nothing : (o : Option ℕ) → option_map suc o ≡ None → o ≡ None
nothing None is = refl
nothing (Some j) is = absurd (none-some (suc j) (sym is))

-- where there is no such place nothing is changed
pub no_place : (key : List ℕ) (f : Pairs → Pairs) (ps : Pairs) → list_place key ps ≡ None → change_list key f ps ≡ ps
no_place key f no_pairs none = refl
no_place key f (pair k v rest) none = elim (tested (bytes_eq k key && is_list v)) as (λ _. change_list key f (pair k v rest) ≡ pair k v rest) [
  | yes h ↦ absurd (none-some 0 (sym none ∙ rw h refl))
  | no h ↦ rw h (ap (pair k v) (no_place key f rest (nothing (list_place key rest) (sym (rw h refl) ∙ none))))
]

mapped : (o : Option ℕ) → is_some (option_map suc o) ≡ is_some o
mapped None = refl
mapped (Some j) = refl

-- there is a place exactly where there is a list under the key
pub place_listed : (key : List ℕ) (ps : Pairs) → is_some (list_place key ps) ≡ is_some (list_at key ps)
place_listed key no_pairs = refl
place_listed key (pair k (list inner) rest) = elim (tested (bytes_eq k key)) as (λ _. is_some (list_place key (pair k (list inner) rest)) ≡ is_some (list_at key (pair k (list inner) rest))) [
  | yes h ↦ rw h refl
  | no h ↦ rw h (mapped (list_place key rest) ∙ place_listed key rest)
]
place_listed key (pair k (number bytes) rest) = elim (tested (bytes_eq k key)) as (λ _. is_some (list_place key (pair k (number bytes) rest)) ≡ is_some (list_at key (pair k (number bytes) rest))) [
  | yes h ↦ rw h (mapped (list_place key rest) ∙ place_listed key rest)
  | no h ↦ rw h (mapped (list_place key rest) ∙ place_listed key rest)
]
place_listed key (pair k (text bytes) rest) = elim (tested (bytes_eq k key)) as (λ _. is_some (list_place key (pair k (text bytes) rest)) ≡ is_some (list_at key (pair k (text bytes) rest))) [
  | yes h ↦ rw h (mapped (list_place key rest) ∙ place_listed key rest)
  | no h ↦ rw h (mapped (list_place key rest) ∙ place_listed key rest)
]
