-- Pairs that may stand inside some open lists, and the changes that keep them so.
use Rattle.std.proofs.Common.{ℕ, suc, ◌≤◌, Bool, true, false, List, [], ◌∷◌, arith}
use Rattle.std.specs.Prelude.{◌&&◌, bytes_eq, if◌then◌else◌}
use Rattle.fixed_milli.specs.Number.{IsNumber}
use Rattle.gml_text.specs.Bytes.{quote}
use Rattle.gml_text.specs.Grammar.{IsKey, Lacks}
use Rattle.gml_text.specs.Tree.{Content, number, text, list, Pairs, no_pairs, pair, depth, value_depth, ◌then◌}
use Rattle.gml_text.specs.Printed.{IsGrammatical, IsGrammaticalValue}
use Rattle.gml_scene.specs.Changes.{one, all_of, put, without, put_only, is_list, change_inside, change_list}

-- the pairs follow the grammar, and at most d lists are open in them
pub record Fits (d : ℕ) (ps : Pairs) : Type 0 where
  pub grammatical : IsGrammatical ps
  pub within : depth ps ≤ d

pub record FitsValue (d : ℕ) (v : Content) : Type 0 where
  pub grammatical : IsGrammaticalValue v
  pub within : value_depth v ≤ d

pub none_fit : (d : ℕ) → Fits d no_pairs
none_fit d = record { grammatical = tt; within = omega arith }

pub pair_fits : (d : ℕ) (key : List ℕ) (v : Content) (rest : Pairs) → IsKey key → FitsValue d v → Fits d rest → Fits d (pair key v rest)
pair_fits d key v rest is_key value more = record {
  grammatical = (is_key, value.grammatical, more.grammatical);
  within = (let a = value.within in let b = more.within in omega (arith, a, b));
}

pub one_fits : (d : ℕ) (key : List ℕ) (v : Content) → IsKey key → FitsValue d v → Fits d (one key v)
one_fits d key v is_key value = pair_fits d key v no_pairs is_key value (none_fit d)

pub number_fits : (d : ℕ) (bytes : List ℕ) → IsNumber bytes → FitsValue d (number bytes)
number_fits d bytes is = record { grammatical = is; within = omega arith }

pub text_fits : (d : ℕ) (bytes : List ℕ) → Lacks quote bytes → FitsValue d (text bytes)
text_fits d bytes lacks = record { grammatical = lacks; within = omega arith }

pub list_fits : (d : ℕ) (ps : Pairs) → Fits d ps → FitsValue (suc d) (list ps)
list_fits d ps fits = record { grammatical = fits.grammatical; within = (let a = fits.within in omega (arith, a)) }

-- the parts of pairs that fit
head_fits : (d : ℕ) (key : List ℕ) (v : Content) (rest : Pairs) → Fits d (pair key v rest) → FitsValue d v
head_fits d key v rest fits = record { grammatical = fits.grammatical.1; within = (let a = fits.within in omega (arith, a)) }

rest_fits : (d : ℕ) (key : List ℕ) (v : Content) (rest : Pairs) → Fits d (pair key v rest) → Fits d rest
rest_fits d key v rest fits = record { grammatical = fits.grammatical.2; within = (let a = fits.within in omega (arith, a)) }

pub then_fits : (d : ℕ) (a b : Pairs) → Fits d a → Fits d b → Fits d (a then b)
then_fits d no_pairs b first second = second
then_fits d (pair key v rest) b first second =
    pair_fits d key v (rest then b) first.grammatical.0 (head_fits d key v rest first) (then_fits d rest b (rest_fits d key v rest first) second)

pub all_fit : {X : Type 0} (d : ℕ) (f : X → Pairs) (xs : List X) → ((x : X) → Fits d (f x)) → Fits d (all_of f xs)
all_fit d f [] each = none_fit d
all_fit d f (x ∷ xs) each = then_fits d (f x) (all_of f xs) (each x) (all_fit d f xs each)

-- a choice of two
pub choice_fits : (d : ℕ) (b : Bool) (x y : Pairs) → Fits d x → Fits d y → Fits d (if b then x else y)
choice_fits d true x y one other = one
choice_fits d false x y one other = other

pub put_fits : (d : ℕ) (key : List ℕ) (v : Content) (ps : Pairs) → IsKey key → FitsValue d v → Fits d ps → Fits d (put key v ps)
put_fits d key v no_pairs is_key value fits = one_fits d key v is_key value
put_fits d key v (pair k w rest) is_key value fits =
    let more = rest_fits d k w rest fits in
    choice_fits d (bytes_eq k key) (pair k v rest) (pair k w (put key v rest))
    (pair_fits d k v rest fits.grammatical.0 value more)
    (pair_fits d k w (put key v rest) fits.grammatical.0 (head_fits d k w rest fits) (put_fits d key v rest is_key value more))

pub without_fits : (d : ℕ) (key : List ℕ) (ps : Pairs) → Fits d ps → Fits d (without key ps)
without_fits d key no_pairs fits = fits
without_fits d key (pair k w rest) fits =
    let more = without_fits d key rest (rest_fits d k w rest fits) in
    choice_fits d (bytes_eq k key) (without key rest) (pair k w (without key rest)) more
    (pair_fits d k w (without key rest) fits.grammatical.0 (head_fits d k w rest fits) more)

pub put_only_fits : (d : ℕ) (key : List ℕ) (v : Content) (ps : Pairs) → IsKey key → FitsValue d v → Fits d ps → Fits d (put_only key v ps)
put_only_fits d key v no_pairs is_key value fits = one_fits d key v is_key value
put_only_fits d key v (pair k w rest) is_key value fits =
    let more = rest_fits d k w rest fits in
    choice_fits d (bytes_eq k key) (pair k v (without key rest)) (pair k w (put_only key v rest))
    (pair_fits d k v (without key rest) fits.grammatical.0 value (without_fits d key rest more))
    (pair_fits d k w (put_only key v rest) fits.grammatical.0 (head_fits d k w rest fits) (put_only_fits d key v rest is_key value more))

-- the change of a list keeps that it fits
abbrev pub Keeps : ℕ → (Pairs → Pairs) → Type 0
Keeps d f = (inner : Pairs) → Fits d inner → Fits d (f inner)

inside_fits : (d : ℕ) (f : Pairs → Pairs) (v : Content) → Keeps d f → FitsValue (suc d) v → FitsValue (suc d) (change_inside f v)
inside_fits d f (list inner) keeps fits =
    list_fits d (f inner) (keeps inner (record { grammatical = fits.grammatical; within = (let a = fits.within in omega (arith, a)) }))
inside_fits d f (number bytes) keeps fits = fits
inside_fits d f (text bytes) keeps fits = fits

pub change_fits : (d : ℕ) (key : List ℕ) (f : Pairs → Pairs) (ps : Pairs) → Keeps d f → Fits (suc d) ps → Fits (suc d) (change_list key f ps)
change_fits d key f no_pairs keeps fits = fits
change_fits d key f (pair k v rest) keeps fits =
    let more = rest_fits (suc d) k v rest fits in
    let value = head_fits (suc d) k v rest fits in
    choice_fits (suc d) (bytes_eq k key && is_list v) (pair k (change_inside f v) rest) (pair k v (change_list key f rest))
    (pair_fits (suc d) k (change_inside f v) rest fits.grammatical.0 (inside_fits d f v keeps value) more)
    (pair_fits (suc d) k v (change_list key f rest) fits.grammatical.0 value (change_fits d key f rest keeps more))
