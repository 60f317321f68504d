-- Spans in the order of their beginnings: one that meets an earlier span of its group meets the one that ends last, with which it is joined.
use Rattle.std.proofs.Common.{◌≡◌, ◌≢◌, ◌⊎◌, ℕ, ◌+◌, ◌<◌, ◌≤◌, ℤ, pos, ◌≤ℤ◌, ◌<ℤ◌, false, List, [], ◌∷◌, ◌++◌, length, get_or, set, replicate, inl, inr, refl, sym, ap, subst, ◌∙◌, arith, below_more}
use Rattle.std.specs.Prelude.{All, AllPairs, Contains, IsSortedByKey}
use Rattle.std.specs.Ordering.{int_cmp, is_lt, MatchOrdering}
use Rattle.std.specs.declared.cmp.Ordering.{Ordering}
use Rattle.std.specs.declared.cmp.Ordering.TheVariants.{Less, Equal, Greater}
use Rattle.std.proofs.lemmas.Cmp.{int_cmp_total, int_ranked}
use Rattle.std.proofs.lemmas.Int.{ints}
use Rattle.std.proofs.lemmas.List.{get_or-set_same, get_or-set_other, length-set, get_or_default, get_or-replicate, length-replicate}
use Rattle.std.proofs.lemmas.List.Elements.{All-get_or, All-from_get_or, All-push, Contains-append_left, Contains-push}
use Rattle.std.proofs.lemmas.List.Sorted.{sorted_far, ranks_by}
use Rattle.channel_bundles.specs.declared.member.Member.{Member}
use Rattle.channel_bundles.specs.declared.groups.By.{By}
use Rattle.channel_bundles.specs.declared.groups.Span.{Span}
use Rattle.channel_bundles.specs.Classes.{Connected, IsForest, LeadsUp}
use Rattle.channel_bundles.specs.Groups.{AreGroups, IsSpan, Meet, span_at}
use Rattle.channel_bundles.proofs.Trees.{cases_same, cases_below, connected_on, connected_back, connected_by}

abbrev no_span : Span
no_span = record { group = 0; lo = pos 0; hi = pos 0; place = 0 }

abbrev pub span_in : List Span → ℕ → Span
span_in spans k = get_or spans k no_span

-- the spans before `at` are joined where they meet, and those that a later one may meet with the one that ends last
pub record AreJoined (spans : List Span) (count at : ℕ) (above : List ℕ) (farthest : List Span) : Type 0 where
  pub forest : IsForest above
  pub trees : length above ≡ count
  pub size : length farthest ≡ count
  pub far : All (IsSpan count) farthest
  pub reach : (k : ℕ) → k < at → (span_in spans k).hi ≤ℤ (span_in farthest (span_in spans k).group).hi
  pub near : (k j : ℕ) → k < at → at ≤ j → j < length spans → (span_in spans j).lo <ℤ (span_in spans k).hi →
      Connected (LeadsUp above) (span_in spans k).place (span_in farthest (span_in spans k).group).place
  pub joined : (k l : ℕ) → k < l → l < at → (span_in spans k).group ≡ (span_in spans l).group → (span_in spans l).lo <ℤ (span_in spans k).hi →
      Connected (LeadsUp above) (span_in spans k).place (span_in spans l).place

pub joined_none : (spans farthest : List Span) (count : ℕ) (above : List ℕ) → IsForest above → length above ≡ count → length farthest ≡ count → All (IsSpan count) farthest → AreJoined spans count 0 above farthest
joined_none spans farthest count above forest trees size far = record {
  forest = forest;
  trees = trees;
  size = size;
  far = far;
  reach = λ k h. absurd (omega arith);
  near = λ k j h. absurd (omega arith);
  joined = λ k l before h. absurd (omega arith);
}

-- beginnings do not fall
begins : (spans : List Span) (i j : ℕ) → AllPairs (λ (a b : Span). a.lo ≤ℤ b.lo) spans → i ≤ j → j < length spans → (span_in spans i).lo ≤ℤ (span_in spans j).lo
begins spans i j order from h = cases_same i j
    (λ e. subst (λ n. (span_in spans i).lo ≤ℤ (span_in spans n).lo) e (omega (arith, ints)))
    (λ ne. order i j no_span (omega arith) h)

pub joined_more : (spans : List Span) (count at : ℕ) (above made : List ℕ) (farthest : List Span) (f s t : Span) → AreJoined spans count at above farthest → at < length spans →
    AllPairs (λ (a b : Span). a.lo ≤ℤ b.lo) spans → All (IsSpan count) spans → s ≡ span_in spans at → f ≡ span_in farthest s.group →
    IsForest made → length made ≡ length above → ((i j : ℕ) → LeadsUp above i j → Connected (LeadsUp made) i j) → (s.lo <ℤ f.hi → Connected (LeadsUp made) f.place s.place) →
    ((t ≡ f) ⊎ (t ≡ s)) → f.hi ≤ℤ t.hi → s.hi ≤ℤ t.hi → AreJoined spans count (at + 1) made (set farthest s.group t)
joined_more spans count at above made farthest f s t is h order each is_s is_f forest trees kept meets one ends_f ends_s =
    let g = s.group in
    let new = set farthest g t in
    let good : IsSpan count s = subst (IsSpan count) (sym is_s) (All-get_or (IsSpan count) spans at no_span h each) in
    let in_g : g < length farthest = omega (arith, good.group, is.size) in
    let f_good : IsSpan count f = subst (IsSpan count) (sym is_f) (All-get_or (IsSpan count) farthest g no_span in_g is.far) in
    let here : span_in new g ≡ t = get_or-set_same farthest g t no_span in_g in
    let other : (n : ℕ) → n ≢ g → span_in new n ≡ span_in farthest n = λ n ne. get_or-set_other farthest g n t no_span ne in
    let lift : (i j : ℕ) → Connected (LeadsUp above) i j → Connected (LeadsUp made) i j = connected_by kept in
    let starts : (j : ℕ) → at ≤ j → j < length spans → s.lo ≤ℤ (span_in spans j).lo = λ j from in_j. subst (λ (x : Span). x.lo ≤ℤ (span_in spans j).lo) (sym is_s) (begins spans at j order from in_j) in
    let t_good : IsSpan count t = elim one as (λ _. IsSpan count t) [ inl e ↦ subst (IsSpan count) (sym e) f_good | inr e ↦ subst (IsSpan count) (sym e) good ] in
    let f_t : (s.lo <ℤ f.hi) → Connected (LeadsUp made) f.place t.place = λ met. elim one as (λ _. Connected (LeadsUp made) f.place t.place) [
      | inl e ↦ subst (λ (x : Span). Connected (LeadsUp made) f.place x.place) (sym e) (Connected.same f.place)
      | inr e ↦ subst (λ (x : Span). Connected (LeadsUp made) f.place x.place) (sym e) (meets met)
    ] in
    let s_t : (j : ℕ) → at ≤ j → j < length spans → (span_in spans j).lo <ℤ s.hi → Connected (LeadsUp made) s.place t.place = λ j from in_j near. elim one as (λ _. Connected (LeadsUp made) s.place t.place) [
      | inl e ↦ subst (λ (x : Span). Connected (LeadsUp made) s.place x.place) (sym e)
          (connected_back f.place s.place (meets (omega (arith, ints, starts j from in_j, near, ends_s, ap (λ (x : Span). x.hi) e))))
      | inr e ↦ subst (λ (x : Span). Connected (LeadsUp made) s.place x.place) (sym e) (Connected.same s.place)
    ] in
    let to_far : (k : ℕ) → k < at → (span_in spans k).group ≡ g → (j : ℕ) → at ≤ j → j < length spans → (span_in spans j).lo <ℤ (span_in spans k).hi → Connected (LeadsUp made) (span_in spans k).place f.place =
    λ k before e j from in_j near. lift (span_in spans k).place f.place
    (subst (λ (x : Span). Connected (LeadsUp above) (span_in spans k).place x.place) (ap (span_in farthest) e ∙ sym is_f) (is.near k j before from in_j near)) in
    let reach_f : (k : ℕ) → k < at → (span_in spans k).group ≡ g → (span_in spans k).hi ≤ℤ f.hi =
    λ k before e. subst (λ (x : Span). (span_in spans k).hi ≤ℤ x.hi) (ap (span_in farthest) e ∙ sym is_f) (is.reach k before) in
    record {
      forest = forest;
      trees = trees ∙ is.trees;
      size = length-set farthest g t ∙ is.size;
      far = All-from_get_or (IsSpan count) new no_span (λ n in_n. cases_same n g
          (λ e. subst (λ m. IsSpan count (span_in new m)) (sym e) (subst (IsSpan count) (sym here) t_good))
          (λ ne. subst (IsSpan count) (sym (other n ne)) (All-get_or (IsSpan count) farthest n no_span (omega (arith, in_n, length-set farthest g t)) is.far)));
      reach = below_more (λ k. (span_in spans k).hi ≤ℤ (span_in new (span_in spans k).group).hi) at
          (λ k before. cases_same (span_in spans k).group g
          (λ e. subst (λ m. (span_in spans k).hi ≤ℤ (span_in new m).hi) (sym e) (omega (arith, ints, reach_f k before e, ends_f, ap (λ (x : Span). x.hi) here)))
          (λ ne. subst (λ (x : Span). (span_in spans k).hi ≤ℤ x.hi) (sym (other (span_in spans k).group ne)) (is.reach k before)))
          (subst (λ (x : Span). x.hi ≤ℤ (span_in new x.group).hi) is_s (omega (arith, ints, ends_s, ap (λ (x : Span). x.hi) here)));
      near = λ k j before from in_j near. below_more (λ n. (span_in spans j).lo <ℤ (span_in spans n).hi → Connected (LeadsUp made) (span_in spans n).place (span_in new (span_in spans n).group).place) at
          (λ n early close. cases_same (span_in spans n).group g
          (λ e. subst (λ m. Connected (LeadsUp made) (span_in spans n).place (span_in new m).place) (sym e)
          (subst (λ (x : Span). Connected (LeadsUp made) (span_in spans n).place x.place) (sym here)
          (connected_on (span_in spans n).place f.place t.place (to_far n early e j (omega arith) in_j close)
          (f_t (omega (arith, ints, starts j (omega arith) in_j, close, reach_f n early e))))))
          (λ ne. subst (λ (x : Span). Connected (LeadsUp made) (span_in spans n).place x.place) (sym (other (span_in spans n).group ne))
          (lift (span_in spans n).place (span_in farthest (span_in spans n).group).place (is.near n j early (omega arith) in_j close))))
          (subst (λ (y : Span). (span_in spans j).lo <ℤ y.hi → Connected (LeadsUp made) y.place (span_in new y.group).place) is_s
          (λ close. subst (λ (x : Span). Connected (LeadsUp made) s.place x.place) (sym here) (s_t j (omega arith) in_j close)))
          k before near;
      joined = λ k l before in_l. below_more (λ n. k < n → (span_in spans k).group ≡ (span_in spans n).group → (span_in spans n).lo <ℤ (span_in spans k).hi → Connected (LeadsUp made) (span_in spans k).place (span_in spans n).place) at
          (λ n early less e close. lift (span_in spans k).place (span_in spans n).place (is.joined k n less early e close))
          (subst (λ (y : Span). k < at → (span_in spans k).group ≡ y.group → y.lo <ℤ (span_in spans k).hi → Connected (LeadsUp made) (span_in spans k).place y.place) is_s
          (λ less e close. connected_on (span_in spans k).place f.place s.place
          (to_far k less e at (omega arith) h (subst (λ (x : Span). x.lo <ℤ (span_in spans k).hi) is_s close))
          (meets (omega (arith, ints, close, reach_f k less e)))))
          l in_l before;
    }

-- all spans are joined where they meet
pub joined_all : (spans : List Span) (count at : ℕ) (above : List ℕ) (farthest : List Span) → AreJoined spans count at above farthest → length spans ≤ at →
    (a b : Span) → Contains spans a → Contains spans b → Meet a b → Connected (LeadsUp above) a.place b.place
joined_all spans count at above farthest is whole a b has_a has_b met =
    let i = has_a.0 in
    let j = has_b.0 in
    let is_a : span_in spans i ≡ a = get_or_default spans i no_span a has_a.1 ∙ has_a.2 in
    let is_b : span_in spans j ≡ b = get_or_default spans j no_span b has_b.1 ∙ has_b.2 in
    cases_below i j
    (λ less. subst (λ (x : Span). Connected (LeadsUp above) x.place b.place) is_a (subst (λ (y : Span). Connected (LeadsUp above) (span_in spans i).place y.place) is_b
    (is.joined i j less (omega (arith, has_b.1, whole)) (ap (λ (x : Span). x.group) is_a ∙ met.group ∙ sym (ap (λ (y : Span). y.group) is_b))
    (omega (arith, ints, met.behind, ap (λ (x : Span). x.hi) is_a, ap (λ (y : Span). y.lo) is_b)))))
    (λ back. cases_same i j
    (λ e. subst (λ (x : Span). Connected (LeadsUp above) a.place x.place) (sym is_a ∙ ap (span_in spans) e ∙ is_b) (Connected.same a.place))
    (λ ne. connected_back b.place a.place (subst (λ (x : Span). Connected (LeadsUp above) b.place x.place) is_a (subst (λ (y : Span). Connected (LeadsUp above) y.place (span_in spans i).place) is_b
    (is.joined j i (omega arith) (omega (arith, has_a.1, whole)) (ap (λ (y : Span). y.group) is_b ∙ sym met.group ∙ sym (ap (λ (x : Span). x.group) is_a))
    (omega (arith, ints, met.before, ap (λ (x : Span). x.lo) is_a, ap (λ (y : Span). y.hi) is_b)))))))

-- the span of one run more
pub span_more : (by : By) (nudge : ℤ) (members : List Member) (groups : List ℕ) (at : ℕ) (spans made : List Span) (s : Span) → at < length members → AreGroups (length members) groups →
    All (IsSpan (length members)) spans → ((k : ℕ) → k < at → Contains spans (span_at by nudge members groups k)) → s ≡ span_at by nudge members groups at → made ≡ spans ++ s ∷ [] →
    All (IsSpan (length members)) made × ((k : ℕ) → k < at + 1 → Contains made (span_at by nudge members groups k))
span_more by nudge members groups at spans made s h good each has is_s is_made =
    let n = length members in
    let one : IsSpan n (span_at by nudge members groups at) = record { group = All-get_or (λ g. g < n) groups at 0 (omega (arith, h, good.all)) good.within; place = h } in (
      subst (All (IsSpan n)) (sym is_made) (All-push (IsSpan n) spans s each (subst (IsSpan n) (sym is_s) one)),
      λ k before. subst (λ xs. Contains xs (span_at by nudge members groups k)) (sym is_made)
          (below_more (λ m. Contains (spans ++ s ∷ []) (span_at by nudge members groups m)) at
          (λ m less. Contains-append_left spans (s ∷ []) (span_at by nudge members groups m) (has m less))
          (subst (Contains (spans ++ s ∷ [])) is_s (Contains-push spans s)) k before),
    )

not_less : (r : Ordering) (x y : ℤ) → MatchOrdering r (x <ℤ y) (x ≡ y) (y <ℤ x) → is_lt r ≡ false → y ≤ℤ x
not_less Less x y m e = absurd (cc)
not_less Equal x y m e = omega (arith, ints)
not_less Greater x y m e = omega (arith, ints)

-- what is sorted by a key has keys that do not fall
pub rises : {X : Type 0} (key : X → ℤ) (xs : List X) → IsSortedByKey key int_cmp xs → AllPairs (λ (a b : X). key a ≤ℤ key b) xs
rises {X} key xs up = λ i j d l k.
    let a = key (get_or xs j d) in
    let b = key (get_or xs i d) in
    not_less (int_cmp a b) a b (int_ranked a b (int_cmp a b) refl) (sorted_far _ (ranks_by int_cmp_total key) xs up i j d (omega arith) k)

-- a span that nothing meets, for each group
pub nowhere : (count : ℕ) (s : Span) (spans : List Span) → spans ≡ replicate count s → s.group ≡ 0 → s.place ≡ 0 → All (IsSpan count) spans
nowhere count s spans e group place = subst (All (IsSpan count)) (sym e) (All-from_get_or (IsSpan count) (replicate count s) no_span (λ k h.
    let some : k < count = omega (arith, h, length-replicate count s) in
    subst (IsSpan count) (sym (get_or-replicate count k s no_span some)) (record { group = omega (arith, some, group); place = omega (arith, some, place) })))

-- spans that are told of another list, of the same length
pub same_spans : (count n : ℕ) (xs ys : List Span) → All (IsSpan n) ys → xs ≡ ys → count ≡ n → All (IsSpan count) xs
same_spans count n xs ys all e same = subst (λ m. All (IsSpan m) xs) (sym same) (subst (All (IsSpan n)) (sym e) all)
