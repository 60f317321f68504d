-- What a change of the near hand does to the order of rays.
use Rattle.std.proofs.Common.{◌≡◌, ◌≢◌, ℤ, pos, ◌-ℤ◌, ◌<ℤ◌, List, [], ◌∷◌, ◌++◌, All, map, refl, sym, ap, ◌∙◌, arith, cond}
use Rattle.std.specs.Prelude.{int_lt}
use Rattle.std.proofs.lemmas.Int.{ints, by_lt_z}
use Rattle.std.specs.declared.cmp.Ordering.{Ordering}
use Rattle.std.specs.declared.cmp.Ordering.TheVariants.{Less, Equal, Greater}
use Rattle.std.specs.Ordering.{ordering_then, ordering_reverse, int_cmp}
use Rattle.std.specs.Cmp.Lexicographic.{slice_cmp}
use Rattle.std.proofs.lemmas.Cmp.{int_cmp_total, int_ranked, by_ranked}
use Rattle.std.proofs.lemmas.List.Elements.{All-head, All-tail}
use Rattle.segment_order.specs.declared.ray.Entry.{Entry}
use Rattle.segment_order.specs.declared.ray.Entry.TheVariants.{Near, Stop, Far}
use Rattle.segment_order.specs.Ray.{entry_cmp, EndsAtOnlyStop}
use Rattle.shared_paths.specs.Pairs.{first_of}

-- the entry where the other hand is near
abbrev pub flip : Entry → Entry
flip (Near p) = Far p
flip Stop = Stop
flip (Far p) = Near p

negated_less : (p q : ℤ) → int_lt (pos 0 -ℤ p) (pos 0 -ℤ q) ≡ int_lt q p
negated_less p q = by_lt_z q p (λ l. grind (arith, ints)) (λ l. grind (arith, ints))

negated : (p q : ℤ) → int_cmp (pos 0 -ℤ p) (pos 0 -ℤ q) ≡ int_cmp q p
negated p q =
    ap (λ b. cond b Less (cond (int_lt (pos 0 -ℤ q) (pos 0 -ℤ p)) Greater Equal)) (negated_less p q)
    ∙ ap (λ b. cond (int_lt q p) Less (cond b Greater Equal)) (negated_less q p)

pub flip_cmp : (x y : Entry) → entry_cmp (flip x) (flip y) ≡ ordering_reverse (entry_cmp x y)
flip_cmp (Near p) (Near q) = negated p q ∙ int_cmp_total.antisymm q p
flip_cmp (Near p) Stop = refl
flip_cmp (Near p) (Far q) = refl
flip_cmp Stop (Near q) = refl
flip_cmp Stop Stop = refl
flip_cmp Stop (Far q) = refl
flip_cmp (Far p) (Near q) = refl
flip_cmp (Far p) Stop = refl
flip_cmp (Far p) (Far q) = int_cmp_total.antisymm p q ∙ ap ordering_reverse (sym (negated p q))

then_reversed : (o p r : Ordering) → r ≡ ordering_reverse p → ordering_then (ordering_reverse o) r ≡ ordering_reverse (ordering_then o p)
then_reversed Less p r e = refl
then_reversed Equal p r e = e
then_reversed Greater p r e = refl

-- a turn against a stop, or a stop against a turn, is decided
decides : (x : Entry) → x ≢ Stop → (rest other : Ordering) → ordering_then (entry_cmp (flip x) Stop) other ≡ ordering_reverse (ordering_then (entry_cmp x Stop) rest)
decides (Near p) h rest other = refl
decides Stop h rest other = absurd (h refl)
decides (Far p) h rest other = refl

decides_back : (x : Entry) → x ≢ Stop → (rest other : Ordering) → ordering_then (entry_cmp Stop (flip x)) other ≡ ordering_reverse (ordering_then (entry_cmp Stop x) rest)
decides_back (Near p) h rest other = refl
decides_back Stop h rest other = absurd (h refl)
decides_back (Far p) h rest other = refl

-- where the other hand is near the order of two rays is the reverse
flipped : (turns others : List Entry) → All (λ (e : Entry). e ≢ Stop) turns → All (λ (e : Entry). e ≢ Stop) others →
    slice_cmp entry_cmp (map flip (turns ++ Stop ∷ [])) (map flip (others ++ Stop ∷ [])) ≡ ordering_reverse (slice_cmp entry_cmp (turns ++ Stop ∷ []) (others ++ Stop ∷ []))
flipped [] [] h k = refl
flipped [] (y ∷ ys) h k = decides_back y (All-head (λ (e : Entry). e ≢ Stop) y ys k) _ _
flipped (x ∷ xs) [] h k = decides x (All-head (λ (e : Entry). e ≢ Stop) x xs h) _ _
flipped (x ∷ xs) (y ∷ ys) h k =
    ap (λ o. ordering_then o (slice_cmp entry_cmp (map flip (xs ++ Stop ∷ [])) (map flip (ys ++ Stop ∷ [])))) (flip_cmp x y)
    ∙ then_reversed (entry_cmp x y) _ _ (flipped xs ys (All-tail (λ (e : Entry). e ≢ Stop) x xs h) (All-tail (λ (e : Entry). e ≢ Stop) y ys k))

pub flipped_rays : (a b : List Entry) → EndsAtOnlyStop a → EndsAtOnlyStop b → slice_cmp entry_cmp (map flip a) (map flip b) ≡ ordering_reverse (slice_cmp entry_cmp a b)
flipped_rays a b one other =
    ap (λ es. slice_cmp entry_cmp (map flip es) (map flip b)) one.last
    ∙ ap (λ es. slice_cmp entry_cmp (map flip (one.turns ++ Stop ∷ [])) (map flip es)) other.last
    ∙ flipped one.turns other.turns one.no_stop other.no_stop
    ∙ sym (ap (λ es. ordering_reverse (slice_cmp entry_cmp es b)) one.last
    ∙ ap (λ es. ordering_reverse (slice_cmp entry_cmp (one.turns ++ Stop ∷ []) es)) other.last)

-- a ray that stops at once has no more entries
stopped : (turns : List Entry) → All (λ (e : Entry). e ≢ Stop) turns → first_of (turns ++ Stop ∷ []) ≡ Stop → turns ++ Stop ∷ [] ≡ Stop ∷ []
stopped [] h e = refl
stopped (x ∷ xs) h e = absurd (All-head (λ (e : Entry). e ≢ Stop) x xs h e)

pub stops_at_once : (a : List Entry) → EndsAtOnlyStop a → first_of a ≡ Stop → a ≡ Stop ∷ []
stops_at_once a ends e = ends.last ∙ stopped ends.turns ends.no_stop (ap first_of (sym ends.last) ∙ e)

same_number : (p q : ℤ) → int_cmp p q ≡ Equal → p ≡ q
same_number p q e = by_ranked (p <ℤ q) (p ≡ q) (q <ℤ p) (int_cmp p q) (int_ranked p q _ refl) (λ o h. cc) (λ o h. h) (λ o h. cc)

-- entries that tie are one
pub tied : (x y : Entry) → entry_cmp x y ≡ Equal → x ≡ y
tied (Near p) (Near q) e = ap Near (same_number p q e)
tied (Near p) Stop e = cc
tied (Near p) (Far q) e = cc
tied Stop (Near q) e = cc
tied Stop Stop e = refl
tied Stop (Far q) e = cc
tied (Far p) (Near q) e = cc
tied (Far p) Stop e = cc
tied (Far p) (Far q) e = ap Far (sym (same_number q p (sym (negated p q) ∙ e)))
