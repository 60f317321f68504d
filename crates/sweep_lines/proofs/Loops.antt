-- One more step of the loops over bars, marks and spans.
use Rattle.std.proofs.Common.{◌≡◌, ◌⊎◌, inl, inr, ℕ, zero, suc, ◌+◌, ◌<◌, ◌≤◌, ℤ, ◌≤ℤ◌, Bool, true, false, not, cond, Some, None, List, [], ◌∷◌, ◌++◌, map, length, get_or, take, drop, w64, to_z, of_z, refl, sym, ap, subst, ◌∙◌, arith, All, Contains}
use Rattle.std.specs.Prelude.{Any, filter, slice_get, count_by, int_lt, ◌&&◌, ◌||◌, ◌==◌}
use Rattle.std.specs.Int.{int_max}
use Rattle.std.specs.List.{AllByRecursion, list_any}
use Rattle.std.proofs.lemmas.Int.{ints, clamps, to_z-of_z, fits_signed_from_abs}
use Rattle.std.proofs.lemmas.Bool.Decides.{Decides-eqb, nat_tests}
use Rattle.std.proofs.lemmas.Bool.{cases_lt}
use Rattle.std.proofs.lemmas.List.{take_more, drop_more, append_assoc, append-nil, length-take-le, length-map, get_or-map, drop_all}
use Rattle.std.proofs.lemmas.List.Elements.{All-from_recursion, Contains-get_or, Contains-append_cases, Contains-append_left, Contains-append_right, filter_agree}
use Rattle.std.proofs.lemmas.List.Folds.{list_any_more}
use Rattle.std.proofs.lemmas.List.Sums.{sum_by-cons, sum_by-take-le, count_by_more_yes}
use Rattle.plane_geom.specs.declared.point.Way.{Way}
use Rattle.plane_geom.specs.declared.floor.Line.{Line}
use Rattle.plane_geom.specs.Point.{IsCoordinate, sheet_start, sheet_end}
use Rattle.interval_index.specs.declared.span.Span.{Span}
use Rattle.interval_index.specs.Index.{has_key, without_key, IsListed, IsSpan, touches, keys_touching}
use Rattle.interval_index.specs.Order.{inserted, is_before}
use Rattle.sweep_lines.specs.declared.bar.Bar.{Bar}
use Rattle.sweep_lines.specs.declared.mark.Mark.{Mark}
use Rattle.sweep_lines.specs.declared.mark.Kind.{Kind}
use Rattle.sweep_lines.specs.declared.mark.Kind.TheVariants.{Begin, End, Anchor}
use Rattle.sweep_lines.specs.Gaps.{Piece, gaps}
use Rattle.sweep_lines.specs.Marks.{begin_mark, end_mark, sides_from, begins, ends, span_begun, begun_span, keeps, line_of, kept_one, kept_pieces}
use Rattle.sweep_lines.specs.Open.{span_of, IsSpanOf, AreSpansOf, AreOpened}
use Rattle.sweep_lines.proofs.Members.{Among, among_of_contains, contains_of_among, any_of_among, among_of_any}

-- what is added
inserted_by : (b : Bool) (s t u : Span) (ts rest : List Span) → Among u (cond b (s ∷ t ∷ ts) (t ∷ rest)) → (Among u rest → (u ≡ s) ⊎ Among u ts) → (u ≡ s) ⊎ Among u (t ∷ ts)
inserted_by true s t u ts rest (inl e) f = inl e
inserted_by true s t u ts rest (inr h) f = inr h
inserted_by false s t u ts rest (inl e) f = inr (inl e)
inserted_by false s t u ts rest (inr h) f = elim (f h) [ inl e ↦ inl e | inr i ↦ inr (inr i) ]

among_inserted : (s u : Span) (ts : List Span) → Among u (inserted s ts) → (u ≡ s) ⊎ Among u ts
among_inserted s u [] h = h
among_inserted s u (t ∷ ts) h = inserted_by (is_before s t) s t u ts (inserted s ts) h (among_inserted s u ts)

has_by : (b : Bool) (s t : Span) (ts rest : List Span) → Among s rest → Among s (cond b (s ∷ t ∷ ts) (t ∷ rest))
has_by true s t ts rest h = inl refl
has_by false s t ts rest h = inr h

inserted_has : (s : Span) (ts : List Span) → Among s (inserted s ts)
inserted_has s [] = inl refl
inserted_has s (t ∷ ts) = has_by (is_before s t) s t ts (inserted s ts) (inserted_has s ts)

keeps_by : (b : Bool) (s t u : Span) (ts rest : List Span) → Among u (t ∷ ts) → (Among u ts → Among u rest) → Among u (cond b (s ∷ t ∷ ts) (t ∷ rest))
keeps_by true s t u ts rest h f = inr h
keeps_by false s t u ts rest (inl e) f = inl e
keeps_by false s t u ts rest (inr h) f = inr (f h)

inserted_keeps : (s u : Span) (ts : List Span) → Among u ts → Among u (inserted s ts)
inserted_keeps s u [] h = absurd h
inserted_keeps s u (t ∷ ts) h = keeps_by (is_before s t) s t u ts (inserted s ts) h (inserted_keeps s u ts)

other : (b : Bool) → (b ≡ true → ⊥) → b ≡ false
other true h = absurd (h refl)
other false h = refl

no_key_by : (b c : Bool) → b ≡ false → c ≡ false → (b || c) ≡ false
no_key_by true c e f = e
no_key_by false c e f = f

no_key : (k : ℕ) (ss : List Span) → ((s : Span) → Among s ss → s.key ≡ k → ⊥) → has_key k ss ≡ false
no_key k [] f = refl
no_key k (s ∷ ss) f =
    let a : (s.key == k) ≡ false = let g = f s (inl refl) in other (s.key == k) (λ e. g ((Decides-eqb s.key k).0 e)) in
    no_key_by (s.key == k) (has_key k ss) a (no_key k ss (λ t i. f t (inr i)))

-- bars by number
got_at : {X : Type 0} (xs : List X) (k : ℕ) (d : X) → k < length xs → slice_get xs k ≡ Some (get_or xs k d)
got_at [] k d h = absurd (omega arith)
got_at (x ∷ xs) zero d h = refl
got_at (x ∷ xs) (suc k) d h = got_at xs k d (omega arith)

pub got_is : {X : Type 0} (xs : List X) (k : ℕ) (x d : X) → slice_get xs k ≡ Some x → (k < length xs) × (get_or xs k d ≡ x)
got_is [] k x d e = absurd (cc)
got_is (y ∷ ys) zero x d e = (omega arith, (cc))
got_is (y ∷ ys) (suc k) x d e = let r = got_is ys k x d e in (omega (arith, r.0), r.1)

got_in_take : {X : Type 0} (n : ℕ) (xs : List X) (k : ℕ) (x : X) → slice_get (take n xs) k ≡ Some x → (k < n) × (slice_get xs k ≡ Some x)
got_in_take zero xs k x e = absurd (cc)
got_in_take (suc n) [] k x e = absurd (cc)
got_in_take (suc n) (y ∷ ys) zero x e = (omega arith, e)
got_in_take (suc n) (y ∷ ys) (suc k) x e = let r = got_in_take n ys k x e in (omega (arith, r.0), r.1)

take_has : {X : Type 0} (n : ℕ) (xs : List X) (k : ℕ) (x : X) → k < n → slice_get xs k ≡ Some x → slice_get (take n xs) k ≡ Some x
take_has zero xs k x h e = absurd (omega arith)
take_has (suc n) [] k x h e = e
take_has (suc n) (y ∷ ys) zero x h e = e
take_has (suc n) (y ∷ ys) (suc k) x h e = take_has n ys k x (omega arith) e

module _ (bars : List Bar) (Is : Bar → Type 0) (n : ℕ) (ss : List Span) (are : AreSpansOf (take n bars) Is ss) where
  pub new_number : has_key n ss ≡ false
  new_number = no_key n ss (λ s i e.
      let o = are.each s (contains_of_among ss s i) in
      let r = got_in_take n bars s.key o.bar o.numbered in
      omega (arith, r.0, e))

  still_span : (s : Span) → Contains ss s → IsSpanOf (take (n + 1) bars) Is s
  still_span s c =
      let o = are.each s c in
      let r = got_in_take n bars s.key o.bar o.numbered in
      record { bar = o.bar; numbered = take_has (n + 1) bars s.key o.bar (omega (arith, r.0)) r.1; span = o.span; is = o.is }

  last_or_before : (d : Bar) (k : ℕ) (b : Bar) → n < length bars → slice_get (take (n + 1) bars) k ≡ Some b → ((k ≡ n) × (b ≡ get_or bars n d)) ⊎ (slice_get (take n bars) k ≡ Some b)
  last_or_before d k b l e =
      let r = got_in_take (n + 1) bars k b e in
      elim (cases_lt k n) [
        | inl h ↦ inr (take_has n bars k b h r.1)
        | inr h ↦ (let z : k ≡ n = omega (arith, r.0) in
            let t : Some (get_or bars n d) ≡ Some b = sym (got_at bars n d l) ∙ subst (λ j. slice_get bars j ≡ Some b) z r.1 in
            inl (z, (cc)))
      ]

  pub one_more_span : (b d : Bar) → n < length bars → b ≡ get_or bars n d → Is b → AreSpansOf (take (n + 1) bars) Is (inserted (span_of n b) ss)
  one_more_span b d l e is = record {
    each = λ s c. elim (among_inserted (span_of n b) s ss (among_of_contains _ s c)) [
      | inl h ↦ (let k : s.key ≡ n = ap (λ (s : Span). s.key) h in
          let g : slice_get bars n ≡ Some b = got_at bars n d l ∙ ap Some (sym e) in
          record {
            bar = b;
            numbered = subst (λ j. slice_get (take (n + 1) bars) j ≡ Some b) (sym k) (take_has (n + 1) bars n b (omega arith) g);
            span = h ∙ ap (λ j. span_of j b) (sym k);
            is = is;
          })
      | inr i ↦ still_span s (contains_of_among ss s i)
    ];
    all = λ k c g ic. elim (last_or_before d k c l g) [
      | inl (z, f) ↦ contains_of_among _ (span_of k c) (subst (λ s. Among s (inserted (span_of n b) ss)) (λ i. span_of (sym z i) ((e ∙ sym f) i)) (inserted_has (span_of n b) ss))
      | inr h ↦ contains_of_among _ (span_of k c) (inserted_keeps (span_of n b) (span_of k c) ss (among_of_contains ss (span_of k c) (are.all k c h ic)))
    ];
  }

  pub no_more_span : (b d : Bar) → n < length bars → b ≡ get_or bars n d → (Is b → ⊥) → AreSpansOf (take (n + 1) bars) Is ss
  no_more_span b d l e never = record {
    each = still_span;
    all = λ k c g ic. elim (last_or_before d k c l g) [
      | inl (z, f) ↦ absurd (never (subst Is (f ∙ sym e) ic))
      | inr h ↦ are.all k c h ic
    ];
  }

-- both sides of one more bar
pub sides_push : (n : ℕ) (bs : List Bar) (b : Bar) → sides_from n (bs ++ b ∷ []) ≡ sides_from n bs ++ begin_mark (n + length bs) b ∷ end_mark (n + length bs) b ∷ []
sides_push n [] b = let z : n ≡ n + 0 = omega arith in ap (λ j. begin_mark j b ∷ end_mark j b ∷ []) z
sides_push n (c ∷ bs) b =
    let z : n + 1 + length bs ≡ n + suc (length bs) = omega arith in
    ap (λ ms. begin_mark n c ∷ end_mark n c ∷ ms) (sides_push (n + 1) bs b ∙ ap (λ j. sides_from (n + 1) bs ++ begin_mark j b ∷ end_mark j b ∷ []) z)

pub sides_more : (bars : List Bar) (n : ℕ) (d : Bar) → n < length bars → sides_from 0 (take (n + 1) bars) ≡ sides_from 0 (take n bars) ++ begin_mark n (get_or bars n d) ∷ end_mark n (get_or bars n d) ∷ []
sides_more bars n d l =
    let b = get_or bars n d in
    let z : 0 + length (take n bars) ≡ n = omega (arith, length-take-le n bars (omega arith)) in
    ap (sides_from 0) (take_more bars n d l) ∙ sides_push 0 (take n bars) b ∙ ap (λ j. sides_from 0 (take n bars) ++ begin_mark j b ∷ end_mark j b ∷ []) z

pub pushed_both : {X : Type 0} (a b c first rest : List X) (x y : X) → b ≡ a ++ x ∷ [] → c ≡ b ++ y ∷ [] → a ≡ first ++ rest → c ≡ first ++ (rest ++ x ∷ y ∷ [])
pushed_both a b c first rest x y e f g =
    f ∙ ap (λ zs. zs ++ y ∷ []) (e ∙ ap (λ zs. zs ++ x ∷ []) g)
    ∙ append_assoc (first ++ rest) (x ∷ []) (y ∷ []) ∙ append_assoc first rest (x ∷ y ∷ [])

-- the spans that end with one more mark go out
filter_by : {X : Type 0} (p : X → Bool) (b c : Bool) (x : X) (xs ys : List X) → p x ≡ c → filter p xs ≡ ys → filter p (cond b (x ∷ xs) xs) ≡ cond (b && c) (x ∷ ys) ys
filter_by p true c x xs ys e f = ap (λ d. cond d (x ∷ filter p xs) (filter p xs)) e ∙ ap (λ zs. cond c (x ∷ zs) zs) f
filter_by p false c x xs ys e f = f

filter_filter : {X : Type 0} (p q : X → Bool) (xs : List X) → filter p (filter q xs) ≡ filter (λ x. q x && p x) xs
filter_filter p q [] = refl
filter_filter p q (x ∷ xs) = filter_by p (q x) (p x) x (filter q xs) (filter (λ x. q x && p x) xs) refl (filter_filter p q xs)

not_or : (a b : Bool) → (not a && not b) ≡ not (a || b)
not_or true b = refl
not_or false b = refl

or_none : (a b : Bool) → b ≡ false → not (a || b) ≡ not a
or_none true b e = refl
or_none false b e = ap not e

same_key : (m n : ℕ) → (m == n) ≡ (n == m)
same_key m n = grind (arith, nat_tests)

-- whether the span ends with none of the first marks
abbrev pub still : List Mark → ℕ → Span → Bool
still here j s = not (list_any (λ m. ends s.key m.kind) (take j here))

pub ends_never : (kind : Kind) → ((n : ℕ) → kind ≡ End n → ⊥) → (k : ℕ) → ends k kind ≡ false
ends_never (Begin n) f k = refl
ends_never (End n) f k = absurd (f n refl)
ends_never Anchor f k = refl

filter_all : {X : Type 0} (xs : List X) → filter (λ x. true) xs ≡ xs
filter_all [] = refl
filter_all (x ∷ xs) = ap (λ ys. x ∷ ys) (filter_all xs)

pub closed_none : (here : List Mark) (ss : List Span) → filter (still here 0) ss ≡ ss
closed_none here ss = filter_all ss

module _ (here : List Mark) (i : ℕ) (d : Mark) (l : i < length here) (ss : List Span) where
  pub closed_more : (n : ℕ) → (get_or here i d).kind ≡ End n → without_key n (filter (still here i) ss) ≡ filter (still here (i + 1)) ss
  closed_more n e = filter_filter (λ s. not (s.key == n)) (still here i) ss ∙ filter_agree (λ s. still here i s && not (s.key == n)) (still here (i + 1)) (λ s.
      let a = list_any (λ (m : Mark). ends s.key m.kind) (take i here) in
      let b : ends s.key (get_or here i d).kind ≡ (s.key == n) = ap (ends s.key) e ∙ same_key n s.key in
      not_or a (s.key == n) ∙ ap not (ap (λ c. a || c) (sym b) ∙ sym (list_any_more (λ (m : Mark). ends s.key m.kind) here i d l))) ss

  pub closed_same : ((k : ℕ) → ends k (get_or here i d).kind ≡ false) → filter (still here i) ss ≡ filter (still here (i + 1)) ss
  closed_same f = filter_agree (still here i) (still here (i + 1)) (λ s.
      let a = list_any (λ (m : Mark). ends s.key m.kind) (take i here) in
      sym (ap not (list_any_more (λ (m : Mark). ends s.key m.kind) here i d l) ∙ or_none a (ends s.key (get_or here i d).kind) (f s.key))) ss

-- the span that begins with one more mark is added
begun_key : (kind : Kind) (lo hi : ℤ) (s : Span) → span_begun kind lo hi ≡ Some s → begins s.key kind ≡ true
begun_key (Begin n) lo hi s e = let t : Span = record { key = n; lo = lo; hi = hi } in let z : t ≡ s = cc in subst (λ (s : Span). (n == s.key) ≡ true) z ((Decides-eqb n n).1 refl)
begun_key (End n) lo hi s e = absurd (cc)
begun_key Anchor lo hi s e = absurd (cc)

count_by_cons : {X : Type 0} (p : X → Bool) (x : X) (xs : List X) → count_by p (x ∷ xs) ≡ cond (p x) 1 0 + count_by p xs
count_by_cons p x xs = sum_by-cons (λ x. cond (p x) 1 0) x xs

count_first : (b : Bool) (n : ℕ) → b ≡ true → 1 ≤ cond b 1 0 + n
count_first true n e = omega arith
count_first false n e = absurd (cc)

count_has : {X : Type 0} (p : X → Bool) (xs : List X) (x : X) → Among x xs → p x ≡ true → 1 ≤ count_by p xs
count_has p [] x h e = absurd h
count_has p (y ∷ ys) x (inl h) e = let a = count_by_cons p y ys in let b = count_first (p y) (count_by p ys) (ap p (sym h) ∙ e) in omega (arith, a, b)
count_has p (y ∷ ys) x (inr h) e = let a = count_by_cons p y ys in let b = count_has p ys x h e in omega (arith, a, b)

module _ (here : List Mark) (i : ℕ) (d : Mark) (l : i < length here) (old mid : List Span) (are : AreOpened (take i here) old mid) where
  any_more : (s : Span) → Any (λ m. begun_span m ≡ Some s) (take i here) → Any (λ m. begun_span m ≡ Some s) (take (i + 1) here)
  any_more s x =
      let a = among_of_any (λ m. begun_span m ≡ Some s) (take i here) x in
      let c = Contains-append_left (take i here) (get_or here i d ∷ []) x.1 (contains_of_among (take i here) x.1 a) in
      let e = subst (λ ms. Contains ms x.1) (sym (take_more here i d l)) c in
      any_of_among (λ m. begun_span m ≡ Some s) (take (i + 1) here) x.1 (among_of_contains (take (i + 1) here) x.1 e) x.4

  last_any : (s : Span) → begun_span (get_or here i d) ≡ Some s → Any (λ m. begun_span m ≡ Some s) (take (i + 1) here)
  last_any s e =
      let m = get_or here i d in
      let c = Contains-append_right (take i here) (m ∷ []) m (contains_of_among (m ∷ []) m (inl refl)) in
      any_of_among (λ m. begun_span m ≡ Some s) (take (i + 1) here) m (among_of_contains (take (i + 1) here) m (subst (λ ms. Contains ms m) (sym (take_more here i d l)) c)) e

  any_less : (s : Span) → Any (λ m. begun_span m ≡ Some s) (take (i + 1) here) → Any (λ m. begun_span m ≡ Some s) (take i here) ⊎ (begun_span (get_or here i d) ≡ Some s)
  any_less s x =
      let a = among_of_any (λ m. begun_span m ≡ Some s) (take (i + 1) here) x in
      let c = subst (λ ms. Contains ms x.1) (take_more here i d l) (contains_of_among (take (i + 1) here) x.1 a) in
      elim (Contains-append_cases (take i here) (get_or here i d ∷ []) x.1 c) [
        | inl h ↦ inl (any_of_among (λ m. begun_span m ≡ Some s) (take i here) x.1 (among_of_contains (take i here) x.1 h) x.4)
        | inr h ↦ elim (among_of_contains (get_or here i d ∷ []) x.1 h) [ inl e ↦ inr (subst (λ m. begun_span m ≡ Some s) e x.4) | inr z ↦ absurd z ]
      ]

  pub opened_more : (s : Span) → begun_span (get_or here i d) ≡ Some s → AreOpened (take (i + 1) here) old (inserted s mid)
  opened_more s e = record {
    kept = λ t c. contains_of_among (inserted s mid) t (inserted_keeps s t mid (among_of_contains mid t (are.kept t c)));
    begun = λ t x. elim (any_less t x) [
      | inl h ↦ contains_of_among (inserted s mid) t (inserted_keeps s t mid (among_of_contains mid t (are.begun t h)))
      | inr h ↦ (let z : Some s ≡ Some t = sym e ∙ h in let y : s ≡ t = cc in subst (Contains (inserted s mid)) y (contains_of_among (inserted s mid) s (inserted_has s mid)))
    ];
    each = λ t c. elim (among_inserted s t mid (among_of_contains (inserted s mid) t c)) [
      | inl z ↦ inr (last_any t (e ∙ ap Some (sym z)))
      | inr h ↦ elim (are.each t (contains_of_among mid t h)) [ inl o ↦ inl o | inr x ↦ inr (any_more t x) ]
    ];
  }

  pub opened_same : begun_span (get_or here i d) ≡ None → AreOpened (take (i + 1) here) old mid
  opened_same e = record {
    kept = are.kept;
    begun = λ t x. elim (any_less t x) [ inl h ↦ are.begun t h | inr h ↦ absurd (let z : None ≡ Some t = sym e ∙ h in cc) ];
    each = λ t c. elim (are.each t c) [ inl o ↦ inl o | inr x ↦ inr (any_more t x) ];
  }

  pub opened_new : ((k : ℕ) → count_by (λ m. begins k m.kind) here ≤ 1) → ((s : Span) → Contains old s → All (λ m. begins s.key m.kind ≡ false) here) →
      (s : Span) → begun_span (get_or here i d) ≡ Some s → has_key s.key mid ≡ false
  opened_new once new s e = no_key s.key mid (λ t h k.
      let m = get_or here i d in
      let yes : begins s.key m.kind ≡ true = begun_key m.kind m.lo m.hi s e in
      elim (are.each t (contains_of_among mid t h)) [
        | inl o ↦ (let out : begins t.key m.kind ≡ false = new t o i d l in
            let out' : begins s.key m.kind ≡ false = subst (λ j. begins j m.kind ≡ false) k out in cc)
        | inr x ↦ (let f = begun_key x.1.kind x.1.lo x.1.hi t x.4 in
            let g : begins s.key x.1.kind ≡ true = subst (λ j. begins j x.1.kind ≡ true) k f in
            let a = count_has (λ (m : Mark). begins s.key m.kind) (take i here) x.1 (among_of_any (λ m. begun_span m ≡ Some t) (take i here) x) g in
            let b = count_by_more_yes (λ (m : Mark). begins s.key m.kind) here i d l yes in
            let c = sum_by-take-le (λ (m : Mark). cond (begins s.key m.kind) 1 0) here (i + 1) in
            let z = once s.key in
            omega (arith, a, b, c, z))
      ])

-- one more gap
cons_by : (way : Way) (at : ℤ) (p : Piece) (ps : List Piece) (k : Bool) → map (line_of way at) (cond k (p ∷ ps) ps) ≡ cond k (line_of way at p ∷ []) [] ++ map (line_of way at) ps
cons_by way at p ps true = refl
cons_by way at p ps false = refl

module _ (way : Way) (at : ℤ) (marks : List Mark) where
  kept_by : (p : Piece) (rest : List Piece) (b : Bool) → int_lt p.hi p.lo ≡ b → kept_pieces way at marks (cond b rest (p ∷ rest)) ≡ kept_one way at marks p ++ kept_pieces way at marks rest
  kept_by p rest true e = ap (λ c. cond (not c && list_any (keeps p) marks) (line_of way at p ∷ []) [] ++ kept_pieces way at marks rest) (sym e)
  kept_by p rest false e =
      cons_by way at p (filter (λ p. list_any (keeps p) marks) rest) (list_any (keeps p) marks)
      ∙ ap (λ c. cond (not c && list_any (keeps p) marks) (line_of way at p ∷ []) [] ++ kept_pieces way at marks rest) (sym e)

  pub kept_more : (lo : ℤ) (s : Span) (ss : List Span) → kept_pieces way at marks (gaps lo (s ∷ ss)) ≡ kept_one way at marks (record { lo = lo; hi = s.lo }) ++ kept_pieces way at marks (gaps (int_max lo s.hi) ss)
  kept_more lo s ss = let p : Piece = record { lo = lo; hi = s.lo } in kept_by p (gaps (int_max lo s.hi) ss) (int_lt s.lo lo) refl

  not_past : (lo hi : ℤ) → lo ≤ℤ hi → int_lt hi lo ≡ false
  not_past lo hi h = grind (arith, ints)

  pub kept_last : (lo : ℤ) → lo ≤ℤ sheet_end → kept_pieces way at marks (gaps lo []) ≡ kept_one way at marks (record { lo = lo; hi = sheet_end })
  kept_last lo h = let p : Piece = record { lo = lo; hi = sheet_end } in kept_by p [] false (not_past lo sheet_end h) ∙ append-nil (kept_one way at marks p)

-- where the index has it all on the sheet, each span touches the open sheet
touches_sheet : (s : Span) → IsSpan s → touches sheet_start sheet_end s ≡ true
touches_sheet s i = let a = i.lo.low in let b = i.hi.high in let c = i.not_empty in grind (arith, ints, clamps)

filter_kept : (ss : List Span) → AllByRecursion IsSpan ss → filter (touches sheet_start sheet_end) ss ≡ ss
filter_kept [] a = refl
filter_kept (s ∷ ss) a = ap (λ b. cond b (s ∷ filter (touches sheet_start sheet_end) ss) (filter (touches sheet_start sheet_end) ss)) (touches_sheet s a.0) ∙ ap (λ ts. s ∷ ts) (filter_kept ss a.1)

pub keys_touching_sheet : (ss : List Span) → IsListed ss → keys_touching sheet_start sheet_end ss ≡ map (λ s. s.key) ss
keys_touching_sheet ss l = ap (map (λ (s : Span). s.key)) (filter_kept ss l.spans)

-- a number as the program reads it
abbrev pub read : ℤ → ℤ
read z = to_z w64 (of_z w64 z)

pub read_back : (a z : ℤ) → a ≡ z → IsCoordinate z → read a ≡ z
read_back a z e c = let low = c.low in let high = c.high in ap read e ∙ to_z-of_z w64 z (fits_signed_from_abs w64 z (omega (arith, ints)))

-- the bar to which the key of the span with the number leads
pub record IsBarOf (bars : List Bar) (ss : List Span) (i key : ℕ) : Type 0 where
  pub below : key < length bars
  pub listed : i < length ss
  pub lo : (b : Bar) (s : Span) → read (get_or bars key b).lo ≡ (get_or ss i s).lo
  pub hi : (b : Bar) (s : Span) → read (get_or bars key b).hi ≡ (get_or ss i s).hi
  pub end : (s : Span) → (get_or ss i s).hi ≤ℤ sheet_end

pub bar_of_key : (bars : List Bar) (Is : Bar → Type 0) (ss : List Span) (keys : List ℕ) (i : ℕ) → AreSpansOf bars Is ss → IsListed ss →
    keys ≡ keys_touching sheet_start sheet_end ss → i < length keys → IsBarOf bars ss i (get_or keys i 0)
bar_of_key bars Is ss keys i are listed e l =
    let f : keys ≡ map (λ (s : Span). s.key) ss = e ∙ keys_touching_sheet ss listed in
    let n : i < length ss = omega (arith, ap length f, length-map ss (λ (s : Span). s.key)) in
    let key : (s : Span) → get_or keys i 0 ≡ (get_or ss i s).key = λ s. ap (λ ks. get_or ks i 0) f ∙ get_or-map (λ (s : Span). s.key) ss i s 0 n in
    let of : (s : Span) → IsSpanOf bars Is (get_or ss i s) = λ s. are.each (get_or ss i s) (Contains-get_or ss i s n) in
    let at : (b : Bar) (s : Span) → (get_or keys i 0 < length bars) × (get_or bars (get_or keys i 0) b ≡ (of s).bar) =
    λ b s. subst (λ k. (k < length bars) × (get_or bars k b ≡ (of s).bar)) (sym (key s)) (got_is bars (get_or ss i s).key (of s).bar b (of s).numbered) in
    let bar : Bar = record { begin = sheet_end; end = sheet_end; lo = sheet_end; hi = sheet_end } in
    let span : Span = record { key = 0; lo = sheet_end; hi = sheet_end } in
    record {
      below = (at bar span).0;
      listed = n;
      lo = λ b s. read_back _ (get_or ss i s).lo (ap (λ (b : Bar). b.lo) (at b s).1 ∙ sym (ap (λ (s : Span). s.lo) (of s).span)) (All-from_recursion IsSpan ss listed.spans i s n).lo;
      hi = λ b s. read_back _ (get_or ss i s).hi (ap (λ (b : Bar). b.hi) (at b s).1 ∙ sym (ap (λ (s : Span). s.hi) (of s).span)) (All-from_recursion IsSpan ss listed.spans i s n).hi;
      end = λ s. (All-from_recursion IsSpan ss listed.spans i s n).hi.high;
    }

module _ (way : Way) (at : ℤ) (here : List Mark) where
  pub next_gap : (lines next whole : List Line) (lo : ℤ) (ss : List Span) (i : ℕ) (d : Span) → i < length ss →
      lines ++ kept_pieces way at here (gaps lo (drop i ss)) ≡ whole → next ≡ lines ++ kept_one way at here (record { lo = lo; hi = (get_or ss i d).lo }) →
      next ++ kept_pieces way at here (gaps (int_max lo (get_or ss i d).hi) (drop (i + 1) ss)) ≡ whole
  next_gap lines next whole lo ss i d l h e =
      let s = get_or ss i d in
      let rest = drop (i + 1) ss in
      let last = kept_pieces way at here (gaps (int_max lo s.hi) rest) in
      ap (λ zs. zs ++ last) e ∙ append_assoc lines (kept_one way at here (record { lo = lo; hi = s.lo })) last
      ∙ ap (λ zs. lines ++ zs) (sym (kept_more way at here lo s rest) ∙ ap (λ ts. kept_pieces way at here (gaps lo ts)) (sym (drop_more ss i d l))) ∙ h

  pub last_gap : (lines next whole : List Line) (lo : ℤ) (ss : List Span) (i : ℕ) → length ss ≤ i → lo ≤ℤ sheet_end →
      lines ++ kept_pieces way at here (gaps lo (drop i ss)) ≡ whole → next ≡ lines ++ kept_one way at here (record { lo = lo; hi = sheet_end }) → next ≡ whole
  last_gap lines next whole lo ss i l h f e =
      e ∙ ap (λ zs. lines ++ zs) (sym (kept_last way at here lo h) ∙ ap (λ ts. kept_pieces way at here (gaps lo ts)) (sym (drop_all i ss l))) ∙ f

pub max_within : (a b : ℤ) → a ≤ℤ sheet_end → b ≤ℤ sheet_end → int_max a b ≤ℤ sheet_end
max_within a b h k = omega (arith, ints, clamps)
