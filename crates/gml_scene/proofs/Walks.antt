-- What is written while a list is gone through: one element more.
use Rattle.std.proofs.Common.{◌≡◌, ℕ, zero, suc, ◌+◌, ◌-◌, ◌<◌, ◌≤◌, Bool, true, false, Some, Result, Ok, Err, List, [], ◌∷◌, ◌++◌, length, get_or, take, drop, refl, sym, ap, subst, ◌∙◌, arith, add-one, length-drop}
use Rattle.std.specs.Prelude.{OnOk, cond, filter, slice_get}
use Rattle.std.proofs.lemmas.List.{drop_all, take_more, length-take}
use Rattle.gml_text.specs.Tree.{Content, Pairs, no_pairs, ◌then◌}
use Rattle.gml_text.specs.View.{content, entry, pairs}
use Rattle.gml_text.specs.declared.tree.Pair.{Pair}
use Rattle.gml_text.proofs.Accepting.{then_assoc, then-none}
use Rattle.gml_text.proofs.Views.{entry_key}
use Rattle.walk_model.specs.declared.route.WrittenRoute.{WrittenRoute}
use Rattle.scene_model.specs.Scene.{Scene}
use Rattle.gml_scene.specs.Changes.{one, all_of, change_inside, list_place, change_list}
use Rattle.gml_scene.specs.Tree.{kept, kept_from}
use Rattle.gml_scene.proofs.Places.{left_here}
use Rattle.gml_scene.proofs.PairLists.{entry_value, pairs-append, around_place}

all_of-push : {X : Type 0} (f : X → Pairs) (xs : List X) (x : X) → all_of f (xs ++ x ∷ []) ≡ all_of f xs then f x
all_of-push f [] x = then-none (f x)
all_of-push f (y ∷ xs) x = ap (λ ps. f y then ps) (all_of-push f xs x) ∙ sym (then_assoc (f y) (all_of f xs) (f x))

-- one element more
pub all_more : {X : Type 0} (f : X → Pairs) (xs : List X) (i : ℕ) (d : X) → i < length xs → all_of f (take (i + 1) xs) ≡ all_of f (take i xs) then f (get_or xs i d)
all_more f xs i d within = ap (all_of f) (take_more xs i d within) ∙ all_of-push f (take i xs) (get_or xs i d)

-- one pair more
pub pairs_more : (ps : List Pair) (i : ℕ) (p : Pair) → i < length ps → p ≡ get_or ps i p → pairs (take (i + 1) ps) ≡ pairs (take i ps) then pairs (p ∷ [])
pairs_more ps i p within is =
    ap pairs (take_more ps i p within)
    ∙ pairs-append (take i ps) (get_or ps i p ∷ [])
    ∙ ap (λ q. pairs (take i ps) then pairs (q ∷ [])) (sym is)

kept_from-push : (was s : Scene) (routes : List WrittenRoute) (place : ℕ) (ps : List Pair) (p : Pair)
    → kept_from was s routes place (pairs (ps ++ p ∷ [])) ≡ kept_from was s routes place (pairs ps) then kept was s routes (place + length ps) p.key (content p.value)
kept_from-push was s routes place [] p =
    then-none (kept was s routes place (entry p).0 (entry p).1)
    ∙ ap (λ k. kept was s routes place k (entry p).1) (entry_key p)
    ∙ ap (kept was s routes place p.key) (entry_value p)
    ∙ ap (λ n. kept was s routes n p.key (content p.value)) (omega arith)
kept_from-push was s routes place (q ∷ ps) p =
    ap (λ more. kept was s routes place (entry q).0 (entry q).1 then more) (kept_from-push was s routes (suc place) ps p)
    ∙ sym (then_assoc (kept was s routes place (entry q).0 (entry q).1) (kept_from was s routes (suc place) (pairs ps)) (kept was s routes (suc place + length ps) p.key (content p.value)))
    ∙ ap (λ n. kept_from was s routes place (pairs (q ∷ ps)) then kept was s routes n p.key (content p.value)) (omega arith)

taken : (ps : List Pair) (i : ℕ) → i < length ps → 0 + length (take i ps) ≡ i
taken ps i within = let e = length-take i ps in omega (arith, e)

-- one pair more of the graph list
pub kept_more : (was s : Scene) (routes : List WrittenRoute) (ps : List Pair) (i : ℕ) (p : Pair) → i < length ps → p ≡ get_or ps i p
    → kept_from was s routes 0 (pairs (take (i + 1) ps)) ≡ kept_from was s routes 0 (pairs (take i ps)) then kept was s routes i p.key (content p.value)
kept_more was s routes ps i p within is =
    ap (λ qs. kept_from was s routes 0 (pairs qs)) (take_more ps i p within)
    ∙ kept_from-push was s routes 0 (take i ps) (get_or ps i p)
    ∙ ap (λ n. kept_from was s routes 0 (pairs (take i ps)) then kept was s routes n (get_or ps i p).key (content (get_or ps i p).value)) (taken ps i within)
    ∙ ap (λ q. kept_from was s routes 0 (pairs (take i ps)) then kept was s routes i q.key (content q.value)) (sym is)

-- what follows from what is so at Ok
pub on_ok : {A E P Q : Type 0} (r : Result A E) → (P → Q) → OnOk r P → OnOk r Q
on_ok (Ok x) leads holds = leads holds
on_ok (Err e) leads holds = tt

-- a pair after others, whose value is known
pub one_after : (new old front : Pairs) (key : List ℕ) (v w : Content) → new ≡ old then one key v → v ≡ w → old ≡ front → new ≡ front then one key w
one_after new old front key v w is value begun = is ∙ ap (λ x. old then one key x) value ∙ ap (λ ps. ps then one key w) begun

-- pairs after others
pub more_after : (new old front more : Pairs) → new ≡ old then more → old ≡ front → new ≡ front then more
more_after new old front more is begun = is ∙ ap (λ ps. ps then more) begun

-- nothing is appended
pub nothing_after : (ps more : Pairs) → more ≡ no_pairs → ps ≡ ps then more
nothing_after ps more none = sym (ap (λ qs. ps then qs) none ∙ then-none ps)

-- a loop over a list has written the element too
pub written_more : {X : Type 0} (f : X → Pairs) (xs : List X) (i : ℕ) (d : X) (out done new here : Pairs) → i < length xs
    → done ≡ out then all_of f (take i xs) → new ≡ done then here → here ≡ f (get_or xs i d) → new ≡ out then all_of f (take (i + 1) xs)
written_more f xs i d out done new here within so one same =
    one
    ∙ ap (λ ps. done then ps) same
    ∙ ap (λ ps. ps then f (get_or xs i d)) so
    ∙ then_assoc out (all_of f (take i xs)) (f (get_or xs i d))
    ∙ ap (λ ps. out then ps) (sym (all_more f xs i d within))

-- pairs after pairs after pairs
pub put_together : (a b c d r n e : Pairs) → b ≡ a then r → c ≡ b then n → d ≡ c then e → d ≡ a then (r then (n then e))
put_together a b c d r n e first second third =
    third
    ∙ ap (λ ps. ps then e) (second ∙ ap (λ ps. ps then n) first ∙ then_assoc a r n)
    ∙ then_assoc a (r then n) e
    ∙ ap (λ ps. a then ps) (then_assoc r n e)

-- those that pass a test, one element more
filtered_by : {X : Type 0} (f : X → Pairs) (b : Bool) (x : X) (xs : List X) → all_of f (cond b (x ∷ xs) xs) ≡ all_of f (cond b (x ∷ []) []) then all_of f xs
filtered_by f true x xs = ap (λ ps. ps then all_of f xs) (sym (then-none (f x)))
filtered_by f false x xs = refl

-- a loop over those that pass a test has written the element too, and what is left follows
pub passed_more : {X : Type 0} (f : X → Pairs) (test : X → Bool) (xs : List X) (i : ℕ) (x : X) (start out new : Pairs)
    → start ≡ out then all_of f (filter test (drop i xs)) → slice_get xs i ≡ Some x → new ≡ out then all_of f (filter test (x ∷ []))
    → start ≡ new then all_of f (filter test (drop (i + 1) xs))
passed_more f test xs i x start out new so is one =
    let rest = all_of f (filter test (drop (i + 1) xs)) in
    so
    ∙ ap (λ ys. out then all_of f (filter test ys)) (left_here xs i x is)
    ∙ ap (λ ps. out then ps) (filtered_by f (test x) x (filter test (drop (i + 1) xs)))
    ∙ sym (then_assoc out (all_of f (filter test (x ∷ []))) rest)
    ∙ ap (λ ps. ps then rest) (sym one)

-- at the end nothing is left
pub passed_all : {X : Type 0} (f : X → Pairs) (test : X → Bool) (items xs : List X) (i : ℕ) (start out : Pairs)
    → start ≡ out then all_of f (filter test (drop i xs)) → items ≡ xs → length items ≤ i → out ≡ start
passed_all f test items xs i start out so is past =
    let none = subst (λ ys. drop i ys ≡ []) is (drop_all i items past) in
    sym (so ∙ ap (λ ys. out then all_of f (filter test ys)) none ∙ then-none out)

-- all are taken
pub all_taken : {X : Type 0} (xs : List X) (i : ℕ) → length xs ≤ i → take i xs ≡ xs
all_taken [] zero few = refl
all_taken [] (suc i) few = refl
all_taken (x ∷ xs) zero few = absurd (omega arith)
all_taken (x ∷ xs) (suc i) few = ap (λ ys. x ∷ ys) (all_taken xs i (omega arith))

-- a list of pairs that was written around the place of its changed list
pub written_around : (key : List ℕ) (f : Pairs → Pairs) (ps : List Pair) (i : ℕ) (d : Pair) (first second third : Pairs) → list_place key (pairs ps) ≡ Some i
    → first ≡ pairs (take i ps) → second ≡ first then one key (change_inside f (content (get_or ps i d).value))
    → third ≡ second then pairs (take (length ps - (i + 1)) (drop (i + 1) ps)) → third ≡ change_list key f (pairs ps)
written_around key f ps i d first second third place a b c =
    let here = one key (change_inside f (content (get_or ps i d).value)) in
    let left = length-drop (i + 1) ps in
    c
    ∙ ap (λ qs. second then pairs qs) (all_taken (drop (i + 1) ps) (length ps - (i + 1)) (omega (arith, left)))
    ∙ ap (λ qs. qs then pairs (drop (i + 1) ps)) (b ∙ ap (λ qs. qs then here) a)
    ∙ then_assoc (pairs (take i ps)) here (pairs (drop (i + 1) ps))
    ∙ ap (λ n. pairs (take i ps) then (here then pairs (drop n ps))) (add-one i)
    ∙ sym (around_place key f ps i d place)
