-- A document has no more pairs than bytes, and a list in it no more than the document.
use Rattle.std.proofs.Common.{◌≡◌, ℕ, zero, suc, ◌+◌, ◌<◌, ◌≤◌, Bool, true, false, List, [], ◌∷◌, length, Option, Some, None, refl, ap, arith, length-append}
use Rattle.std.specs.Prelude.{bytes_eq, codes, slice_get, option_and_then, if◌then◌else◌}
use Rattle.std.specs.List.{filter_map}
use Rattle.std.proofs.lemmas.Option.{none-some, same_Some}
use Rattle.gml_text.specs.Tree.{Content, number, text, list, Pairs, no_pairs, pair}
use Rattle.gml_text.specs.Grammar.{IsKey, SpellsPairs, SpellsValue}
use Rattle.gml_text.specs.Parse.{IsDocument}
use Rattle.diagram_read.specs.Values.{as_list, value_at, values_at, lists_at, list_at, values}
use Rattle.diagram_read.specs.Lines.{list_with, line_in}
use Rattle.form_check.specs.Sizes.{pair_count, value_count, HasFewPairs}

some_key : (key : List ℕ) → IsKey key → 0 < length key
some_key [] is = absurd is
some_key (b ∷ bs) is = omega arith

mutual
  pairs_short : (tree : Pairs) (bytes : List ℕ) → SpellsPairs tree bytes → pair_count tree ≤ length bytes
  pairs_short no_pairs bytes s = omega arith
  pairs_short (pair key value rest) bytes s =
      let here = value_short value s.2 s.8 in
      let later = pairs_short rest s.3 s.10 in
      let some = some_key key s.6 in
      let long = simp length-append at (ap length s.4) in
      omega (arith, here, later, some, long)

  value_short : (value : Content) (bytes : List ℕ) → SpellsValue value bytes → value_count value ≤ length bytes
  value_short (number digits) bytes s = omega arith
  value_short (text inner) bytes s = omega arith
  value_short (list inner) bytes s =
      let within = pairs_short inner s.0 s.2 in
      let long = simp length-append at (ap length s.1) in
      omega (arith, within, long)

-- a document of few bytes has few pairs
pub document_few : (tree : Pairs) (bytes : List ℕ) → IsDocument tree bytes → length bytes ≤ 40000000 → HasFewPairs tree
document_few tree bytes is short =
    let within = pairs_short tree is.spelled.body is.spelled.pairs in
    let long = simp length-append at (ap length is.spelled.spelled) in
    omega (arith, within, long, short)

-- what follows a value that is there
pub parted : {A B : Type 0} (f : A → Option B) (o : Option A) (y : B) → option_and_then f o ≡ Some y → (x : A) × (o ≡ Some x) × (f x ≡ Some y)
parted f None y is = absurd (none-some y is)
parted f (Some x) y is = (x, refl, is)

listed_few : (value : Content) (inner : Pairs) → as_list value ≡ Some inner → pair_count inner ≤ value_count value
listed_few (number bytes) inner is = absurd (none-some inner is)
listed_few (text bytes) inner is = absurd (none-some inner is)
listed_few (list pairs) inner is = (let same = ap pair_count (same_Some pairs inner is) in omega (arith, same))

first_few : (n : ℕ) (value : Content) (vs : List Content) (l : Pairs) → value_count value ≤ n
    → (slice_get (filter_map as_list vs) 0 ≡ Some l → pair_count l ≤ n) → slice_get (filter_map as_list (value ∷ vs)) 0 ≡ Some l → pair_count l ≤ n
first_few n (number bytes) vs l here later is = later is
first_few n (text bytes) vs l here later is = later is
first_few n (list inner) vs l here later is = (let same = ap pair_count (same_Some inner l is) in omega (arith, same, here))

list_chosen : (b : Bool) (n : ℕ) (value : Content) (vs : List Content) (l : Pairs) → value_count value ≤ n → (slice_get (filter_map as_list vs) 0 ≡ Some l → pair_count l ≤ n)
    → slice_get (filter_map as_list (if b then value ∷ vs else vs)) 0 ≡ Some l → pair_count l ≤ n
list_chosen true n value vs l here later is = first_few n value vs l here later is
list_chosen false n value vs l here later is = later is

list_few : (key : List ℕ) (tree l : Pairs) → list_at key tree ≡ Some l → pair_count l ≤ pair_count tree
list_few key no_pairs l is = absurd (none-some l is)
list_few key (pair k value rest) l is =
    list_chosen (bytes_eq k key) (suc (value_count value + pair_count rest)) value (values_at key rest) l (omega arith)
    (λ e. let deeper = list_few key rest l e in omega (arith, deeper)) is

value_chosen : (b : Bool) (n : ℕ) (value v : Content) (o : Option Content) → value_count value ≤ n → (o ≡ Some v → value_count v ≤ n) → (if b then Some value else o) ≡ Some v → value_count v ≤ n
value_chosen true n value v o here later is = (let same = ap value_count (same_Some value v is) in omega (arith, same, here))
value_chosen false n value v o here later is = later is

value_few : (key : List ℕ) (tree : Pairs) (v : Content) → value_at key tree ≡ Some v → value_count v ≤ pair_count tree
value_few key no_pairs v is = absurd (none-some v is)
value_few key (pair k value rest) v is =
    value_chosen (bytes_eq k key) (suc (value_count value + pair_count rest)) value v (value_at key rest) (omega arith)
    (λ e. let deeper = value_few key rest v e in omega (arith, deeper)) is

place_few : (tree : Pairs) (place : ℕ) (v : Content) → slice_get (values tree) place ≡ Some v → value_count v ≤ pair_count tree
place_few no_pairs place v is = absurd (none-some v is)
place_few (pair k value rest) zero v is = (let same = ap value_count (same_Some value v is) in omega (arith, same))
place_few (pair k value rest) (suc place) v is = (let deeper = place_few rest place v is in omega (arith, deeper))

entry_few : (tree : Pairs) (origin : ℕ) (entry : Pairs) → list_with tree origin ≡ Some entry → pair_count entry ≤ pair_count tree
entry_few tree origin entry is =
    let graph = parted (λ graph. option_and_then as_list (slice_get (values graph) origin)) (list_at (codes "graph") tree) entry is in
    let value = parted as_list (slice_get (values graph.0) origin) entry graph.2 in
    let one = list_few (codes "graph") tree graph.0 graph.1 in
    let two = place_few graph.0 origin value.0 value.1 in
    let three = listed_few value.0 entry value.2 in
    omega (arith, one, two, three)

drawn_few : (entry l : Pairs) → line_in entry ≡ Some l → pair_count l ≤ pair_count entry
drawn_few entry l is =
    let graphics = parted (λ graphics. option_and_then as_list (value_at (codes "Line") graphics)) (list_at (codes "graphics") entry) l is in
    let value = parted as_list (value_at (codes "Line") graphics.0) l graphics.2 in
    let one = list_few (codes "graphics") entry graphics.0 graphics.1 in
    let two = value_few (codes "Line") graphics.0 value.0 value.1 in
    let three = listed_few value.0 l value.2 in
    omega (arith, one, two, three)

-- a `Line` of an edge has no more pairs than the document
pub line_few : (tree : Pairs) (origin : Option ℕ) (l : Pairs) → option_and_then line_in (option_and_then (list_with tree) origin) ≡ Some l
    → pair_count l ≤ pair_count tree
line_few tree origin l is =
    let entry = parted line_in (option_and_then (list_with tree) origin) l is in
    let place = parted (list_with tree) origin entry.0 entry.1 in
    let one = entry_few tree place.0 entry.0 place.2 in
    let two = drawn_few entry.0 l entry.2 in
    omega (arith, one, two)

list_counts : (value : Content) (vs : List Content) → length (filter_map as_list (value ∷ vs)) ≤ suc (length (filter_map as_list vs))
list_counts (number bytes) vs = omega arith
list_counts (text bytes) vs = omega arith
list_counts (list inner) vs = omega arith

chosen_counts : (b : Bool) (n : ℕ) (value : Content) (vs : List Content) → suc (length (filter_map as_list vs)) ≤ n → length (filter_map as_list (if b then value ∷ vs else vs)) ≤ n
chosen_counts true n value vs few = (let here = list_counts value vs in omega (arith, here, few))
chosen_counts false n value vs few = omega (arith, few)

-- a list has no more lists under a key than pairs
pub lists_few : (key : List ℕ) (tree : Pairs) → length (lists_at key tree) ≤ pair_count tree
lists_few key no_pairs = omega arith
lists_few key (pair k value rest) =
    let later = lists_few key rest in
    chosen_counts (bytes_eq k key) (suc (value_count value + pair_count rest)) value (values_at key rest) (omega (arith, later))
