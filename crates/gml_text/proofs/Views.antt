-- Values and pairs of the code beside what they stand for.
use Rattle.std.proofs.Common.{◌≡◌, ℕ, zero, suc, ◌≤◌, ◌<◌, get_or, slice_get, Some, None, sym, List, [], ◌∷◌, ◌++◌, length, map, reverse, Vec, refl, ap, ◌∙◌, arith, rules}
use Rattle.std.proofs.lemmas.List.{length-map, length-reverse, map-append, reverse-append}
use Rattle.std.specs.declared.alloc.Global.{Global}
use Rattle.gml_text.specs.Reader.{frame_of, frames}
use Rattle.gml_text.specs.Reading.{between, Frame, opened, closed}
use Rattle.gml_text.specs.Standing.{gap_state}
use Rattle.gml_text.specs.declared.reader.OpenList.{OpenList}
use Rattle.gml_text.specs.declared.reader.Reader.{Reader}
use Rattle.gml_text.specs.Tree.{number, text, list, Pairs, no_pairs, pair, keys, ◌then◌}
use Rattle.gml_text.specs.View.{content, entry, pairs}
use Rattle.gml_text.specs.declared.tree.Value.{the_lemmas}
use Rattle.gml_text.specs.declared.tree.Value.TheVariants as values
use Rattle.gml_text.specs.declared.tree.Pair.{Pair}

-- one more pair goes last
pub pairs-push : (ps : List Pair) (p : Pair) → pairs (ps ++ p ∷ []) ≡ pairs ps then pair (entry p).0 (entry p).1 no_pairs
pairs-push [] p = refl
pairs-push (q ∷ ps) p = ap (pair (entry q).0 (entry q).1) (pairs-push ps p)

-- each open list has its frame
pub length-frames : (lists : List OpenList) → length (frames lists) ≡ length lists
length-frames lists = length-reverse (map frame_of lists) ∙ length-map lists frame_of

-- a reader has no more lists open than the limit
pub few_lists : (r : Reader) → length (frames r.lists.items) ≤ 64
few_lists r = let e = length-frames r.lists.items in omega (arith, e, r.within_limit, r.lists.ok.0)

-- one more open list stands innermost
pub frames-push : (lists : List OpenList) (o : OpenList) → frames (lists ++ o ∷ []) ≡ frame_of o ∷ frames lists
frames-push lists o = ap reverse (map-append frame_of lists (o ∷ [])) ∙ reverse-append (map frame_of lists) (frame_of o ∷ [])

-- a list is opened
pub opened-frames : (lists more : List OpenList) (o : OpenList) (ps : Pairs) (inner : List Pair) → more ≡ lists ++ o ∷ [] → pairs o.before.items ≡ ps → inner ≡ []
    → opened (frames lists) ps o.key ≡ gap_state between (frames more) (pairs inner)
opened-frames lists more o ps inner e b i =
    ap (λ p. gap_state between (record { key = o.key; before = p } ∷ frames lists) no_pairs) (sym b)
    ∙ (ap (λ fs. gap_state between fs no_pairs) (sym (frames-push lists o))
    ∙ (ap (λ l. gap_state between (frames l) no_pairs) (sym e) ∙ ap (λ ps. gap_state between (frames more) (pairs ps)) (sym i)))

-- the innermost list is closed
pub closed-frames : (lists fewer : List OpenList) (o : OpenList) (ps : Pairs) → lists ≡ fewer ++ o ∷ []
    → closed (frames lists) ps ≡ Some (gap_state between (frames fewer) (pairs o.before.items then pair o.key (list ps) no_pairs))
closed-frames lists fewer o ps e = ap (λ l. closed (frames l) ps) e ∙ ap (λ fs. closed fs ps) (frames-push fewer o)

-- what stands for each kind of value
pub content-list : (inner : Vec Pair Global) → content (values.List inner) ≡ list (pairs inner.items)
content-list inner = search (rules, the_lemmas)

pub content-text : (inner : List ℕ) → content (values.Text inner) ≡ text inner
content-text inner = search (rules, the_lemmas)

pub content-number : (digits : List ℕ) → content (values.Number digits) ≡ number digits
content-number digits = search (rules, the_lemmas)

-- pairs with one more, by the kind of its value
pub put_list : (new old : List Pair) (key : List ℕ) (inner : Vec Pair Global) (before ps : Pairs)
    → pairs new ≡ pairs old then pair key (content (values.List inner)) no_pairs → pairs old ≡ before → pairs inner.items ≡ ps
    → pairs new ≡ before then pair key (list ps) no_pairs
put_list new old key inner before ps e b i =
    e ∙ (ap (λ v. pairs old then pair key v no_pairs) (content-list inner ∙ ap list i) ∙ ap (λ x. x then pair key (list ps) no_pairs) b)

pub put_text : (new old : List Pair) (key written inner : List ℕ) → pairs new ≡ pairs old then pair key (content (values.Text written)) no_pairs → written ≡ inner
    → pairs new ≡ pairs old then pair key (text inner) no_pairs
put_text new old key written inner e i = e ∙ ap (λ v. pairs old then pair key v no_pairs) (content-text written ∙ ap text i)

pub put_number : (new old : List Pair) (key written digits : List ℕ) → pairs new ≡ pairs old then pair key (content (values.Number written)) no_pairs → written ≡ digits
    → pairs new ≡ pairs old then pair key (number digits) no_pairs
put_number new old key written digits e i = e ∙ ap (λ v. pairs old then pair key v no_pairs) (content-number written ∙ ap number i)

-- the same lists and pairs
pub same_gap : (fs gs : List Frame) (ps qs : Pairs) → fs ≡ gs → ps ≡ qs → gap_state between fs ps ≡ gap_state between gs qs
same_gap fs gs ps qs e f = cc

-- the key of a pair
pub entry_key : (p : Pair) → (entry p).0 ≡ p.key
entry_key p = search (rules, the_lemmas)

-- the key at a place
pub keys_at : (ps : List Pair) (i : ℕ) (p : Pair) → i < length ps → p ≡ get_or ps i p → slice_get (keys (pairs ps)) i ≡ Some p.key
keys_at [] i p h e = absurd (omega arith)
keys_at (q ∷ ps) zero p h e = ap Some (ap (λ x. (entry x).0) (sym e) ∙ entry_key p)
keys_at (q ∷ ps) (suc i) p h e = keys_at ps i p (omega arith) e

-- no key stands past the last pair
pub keys_past : (ps : List Pair) (i : ℕ) → length ps ≤ i → slice_get (keys (pairs ps)) i ≡ None
keys_past [] i h = refl
keys_past (q ∷ ps) zero h = absurd (omega arith)
keys_past (q ∷ ps) (suc i) h = keys_past ps i (omega arith)
