-- Numbers that links join have classes: each link in turn joins two of them, and a class is known by its least number.
use Rattle.std.proofs.Common.{◌≡◌, ◌⊎◌, inl, inr, ℕ, zero, suc, ◌+◌, ◌<◌, ◌≤◌, List, [], ◌∷◌, ◌++◌, length, get_or, map, set, refl, sym, ap, ◌∙◌, subst, arith}
use Rattle.std.specs.Prelude.{All, Contains, replicate}
use Rattle.std.specs.List.{AllByRecursion as Each, range_with_len}
use Rattle.std.proofs.Math.Decide.{ℕ_discrete}
use Rattle.std.proofs.lemmas.Bool.{cases_lt}
use Rattle.std.proofs.lemmas.List.{get_or-replicate, length-replicate, length-set}
use Rattle.std.proofs.lemmas.List.Elements.{All-contains, All-from_recursion}
use Rattle.std.proofs.lemmas.List.FromFn.{get_or-map-range_with_len, length-map-range_with_len}
use Rattle.scene_model.proofs.Editing.Entries.{each_weaker}
use Rattle.channel_bundles.specs.Classes.{AreClasses, AreTreeNumbers, Connected, IsForest, LeadsUp}
use Rattle.channel_bundles.proofs.Listing.{IsListing, listed_all, listed_more, listed_none}
use Rattle.channel_bundles.proofs.Numbering.{numbered_more, numbered_none, numbered_root}
use Rattle.channel_bundles.proofs.Trees.{connected_back, connected_by, connected_link, connected_on}
use Rattle.existence_laws.proofs.Deciding.Counting.{below, contains_below, each_below}

-- trees over so many numbers have lists of their numbers
module _ (above : List ℕ) (forest : IsForest above) where
  one_more : (i : ℕ) (roots numbers : List ℕ) → AreTreeNumbers above i roots numbers → i < length above → Dec (get_or above i 0 ≡ i) → (more : List ℕ) × (made : List ℕ) × AreTreeNumbers above (i + 1) more made
  one_more i roots numbers are l (yes root) = (_, _, numbered_root above i roots numbers are forest l root)
  one_more i roots numbers are l (no not) = (_, _, numbered_more above i (get_or above i 0) roots numbers are forest l refl not)

  numbered : (i : ℕ) → i ≤ length above → (roots : List ℕ) × (numbers : List ℕ) × AreTreeNumbers above i roots numbers
  numbered zero l = ([], [], numbered_none above [] [] refl refl)
  numbered (suc i) l =
      let so = numbered i (omega (arith, l)) in
      let next = one_more i so.0 so.1 so.2 (omega (arith, l)) (ℕ_discrete (get_or above i 0) i) in
      (next.0, next.1, subst (λ n. AreTreeNumbers above n next.0 next.1) (let e : i + 1 ≡ suc i = omega arith in e) next.2)

  listing : (roots numbers : List ℕ) → AreTreeNumbers above (length above) roots numbers → (i : ℕ) → i ≤ length above → (lists : List (List ℕ)) × (length lists ≡ length roots) × IsListing numbers i lists
  listing roots numbers are zero l =
      let none = replicate (length roots) [] in
      (none, length-replicate {A = List ℕ} (length roots) [], listed_none numbers none (λ m h. ap length (get_or-replicate {A = List ℕ} (length roots) m [] [] (omega (arith, h, length-replicate {A = List ℕ} (length roots) [])))))
  listing roots numbers are (suc i) l =
      let so = listing roots numbers are i (omega (arith, l)) in
      let tree = get_or numbers i 0 in
      let more = listed_more numbers i tree so.0 so.2 refl (let w : tree < length roots = are.within i (omega (arith, l)) in omega (arith, w, so.1)) in
      (_, length-set so.0 tree _ ∙ so.1, subst (λ n. IsListing numbers n (set so.0 tree (get_or so.0 tree [] ++ i ∷ []))) (let e : i + 1 ≡ suc i = omega arith in e) more)

  tree_classes : (lists : List (List ℕ)) × AreClasses (Connected (LeadsUp above)) (length above) lists
  tree_classes =
      let trees = numbered (length above) (omega arith) in
      let lists = listing trees.0 trees.1 trees.2 (length above) (omega arith) in
      (lists.0, listed_all above trees.0 trees.1 lists.0 trees.2 lists.1 lists.2)

-- each number leads to the least one of its class, and the ends of each link to one
record AreJoined (linked : ℕ → ℕ → Type 0) (links : List (ℕ × ℕ)) (least : ℕ → ℕ) : Type 0 where
  low : (k : ℕ) → least k ≤ k
  rests : (k : ℕ) → least (least k) ≡ least k
  way : (k : ℕ) → Connected linked k (least k)
  ends : Each (λ p. least p.0 ≡ least p.1) links

-- one class comes to another
module _ (lo hi : ℕ) (order : lo ≤ hi) where
  abbrev moved : (n : ℕ) → Dec (n ≡ hi) → ℕ
  moved n (yes e) = lo
  moved n (no not) = n

  moved_low : (k n : ℕ) (d : Dec (n ≡ hi)) → n ≤ k → moved n d ≤ k
  moved_low k n (yes e) l = omega (arith, e, order, l)
  moved_low k n (no not) l = l

  moved_way : (linked : ℕ → ℕ → Type 0) (k n : ℕ) (d : Dec (n ≡ hi)) → Connected linked k n → Connected linked hi lo → Connected linked k (moved n d)
  moved_way linked k n (yes e) way ends = connected_on k hi lo (subst (Connected linked k) e way) ends
  moved_way linked k n (no not) way ends = way

  to_low : (n : ℕ) (d : Dec (n ≡ hi)) → (n ≡ lo) ⊎ (n ≡ hi) → moved n d ≡ lo
  to_low n (yes e) either = refl
  to_low n (no not) (inl e) = e
  to_low n (no not) (inr e) = absurd (not e)

  stays : (n m : ℕ) (d : Dec (n ≡ hi)) → n ≡ m → (m ≡ hi → ⊥) → moved n d ≡ m
  stays n m (yes e) same not = absurd (not (sym same ∙ e))
  stays n m (no other) same not = same

  moved_rests : (least : ℕ → ℕ) (n : ℕ) (d : Dec (n ≡ hi)) → least lo ≡ lo → least n ≡ n → moved (least (moved n d)) (ℕ_discrete (least (moved n d)) hi) ≡ moved n d
  moved_rests least n (yes e) at_lo at_n = to_low (least lo) (ℕ_discrete (least lo) hi) (inl at_lo)
  moved_rests least n (no not) at_lo at_n = stays (least n) n (ℕ_discrete (least n) hi) at_n not

  join : (linked : ℕ → ℕ → Type 0) (links : List (ℕ × ℕ)) (least : ℕ → ℕ) (p : ℕ × ℕ) → AreJoined linked links least → least lo ≡ lo → Connected linked hi lo →
      (least p.0 ≡ lo) ⊎ (least p.0 ≡ hi) → (least p.1 ≡ lo) ⊎ (least p.1 ≡ hi) → AreJoined linked (p ∷ links) (λ k. moved (least k) (ℕ_discrete (least k) hi))
  join linked links least p are at_lo way from to = record {
    low = λ k. moved_low k (least k) (ℕ_discrete (least k) hi) (are.low k);
    rests = λ k. moved_rests least (least k) (ℕ_discrete (least k) hi) at_lo (are.rests k);
    way = λ k. moved_way linked k (least k) (ℕ_discrete (least k) hi) (are.way k) way;
    ends = (
      to_low (least p.0) (ℕ_discrete (least p.0) hi) from ∙ sym (to_low (least p.1) (ℕ_discrete (least p.1) hi) to),
      each_weaker (λ q. least q.0 ≡ least q.1) (λ q. moved (least q.0) (ℕ_discrete (least q.0) hi) ≡ moved (least q.1) (ℕ_discrete (least q.1) hi)) (λ q e. ap (λ n. moved n (ℕ_discrete n hi)) e) links are.ends,
    );
  }

module _ (linked : ℕ → ℕ → Type 0) where
  joined : (links : List (ℕ × ℕ)) → Each (λ p. linked p.0 p.1) links → (least : ℕ → ℕ) × AreJoined linked links least
  joined [] each = (λ k. k, record { low = λ k. omega arith; rests = λ k. refl; way = λ k. Connected.same k; ends = tt })
  joined (p ∷ links) each =
      let so = joined links each.1 in
      let least = so.0 in
      let a = least p.0 in
      let b = least p.1 in
      let way : Connected linked a b = connected_on a p.0 b (connected_back p.0 a (so.1.way p.0)) (connected_on p.0 p.1 b (connected_link p.0 p.1 each.0) (so.1.way p.1)) in
      elim (cases_lt a b) as (λ _. (least : ℕ → ℕ) × AreJoined linked (p ∷ links) least) [
        | inl less ↦ (_, join a b (omega (arith, less)) linked links least p so.1 (so.1.rests p.0) (connected_back a b way) (inl refl) (inr refl))
        | inr not ↦ (_, join b a (omega (arith, not)) linked links least p so.1 (so.1.rests p.1) way (inr refl) (inl refl))
      ]

  -- the links among so many numbers
  module _ (decided : (i j : ℕ) → Dec (linked i j)) (count : ℕ) where
    abbrev kept : (i j : ℕ) → Dec (linked i j) → List (ℕ × ℕ)
    kept i j (yes l) = (i, j) ∷ []
    kept i j (no not) = []

    each_kept : (i j : ℕ) (d : Dec (linked i j)) → Each (λ p. linked p.0 p.1) (kept i j d)
    each_kept i j (yes l) = (l, tt)
    each_kept i j (no not) = tt

    is_kept : (i j : ℕ) (d : Dec (linked i j)) → linked i j → Contains (kept i j d) (i, j)
    is_kept i j (yes l) has = (0, omega arith, refl)
    is_kept i j (no not) has = absurd (not has)

    abbrev from : ℕ → List (ℕ × ℕ)
    from i = below count (λ j. kept i j (decided i j))

    abbrev links : List (ℕ × ℕ)
    links = below count from

    each_link : Each (λ p. linked p.0 p.1) links
    each_link = each_below (λ p. linked p.0 p.1) from count (λ i l. each_below (λ p. linked p.0 p.1) (λ j. kept i j (decided i j)) count (λ j l. each_kept i j (decided i j)))

    has_link : (i j : ℕ) → i < count → j < count → linked i j → Contains links (i, j)
    has_link i j l h has = contains_below from count i (i, j) l (contains_below (λ j. kept i j (decided i j)) count j (i, j) h (is_kept i j (decided i j) has))

    abbrev least : ℕ → ℕ
    least = (joined links each_link).0

    are : AreJoined linked links least
    are = (joined links each_link).1

    abbrev above : List ℕ
    above = map least (range_with_len 0 count)

    above_count : length above ≡ count
    above_count = length-map-range_with_len least 0 count

    above_at : (k : ℕ) → k < count → get_or above k 0 ≡ least k
    above_at k l = get_or-map-range_with_len least 0 count k k 0 l (omega arith)

    forest : IsForest above
    forest k h = let l : k < count = omega (arith, h, above_count) in omega (arith, above_at k l, are.low k)

    leads : (k : ℕ) → k < count → LeadsUp above k (least k)
    leads k l = (omega (arith, l, above_count), above_at k l)

    by_links : (i j : ℕ) → LeadsUp above i j → Connected linked i j
    by_links i j up = let l : i < count = omega (arith, up.0, above_count) in subst (Connected linked i) (sym (above_at i l) ∙ up.1) (are.way i)

    -- the numbers have classes of those that links join, where no link leads further
    pub some_classes : ((i j : ℕ) → linked i j → (i < count) × (j < count)) → (classes : List (List ℕ)) × AreClasses (Connected linked) count classes
    some_classes inside =
        let trees = tree_classes above forest in
        let up : (i j : ℕ) → linked i j → Connected (LeadsUp above) i j = λ i j l.
        let in_i = (inside i j l).0 in
        let in_j = (inside i j l).1 in
        let same : least i ≡ least j = link_ends i j in_i in_j l in
        connected_on i (least i) j (connected_link i (least i) (leads i in_i)) (subst (λ n. Connected (LeadsUp above) n j) (sym same) (connected_back j (least j) (connected_link j (least j) (leads j in_j)))) in (
          trees.0,
          record {
            within = subst (λ n. All (All (λ i. i < n)) trees.0) above_count trees.1.within;
            some = trees.1.some;
            rising = trees.1.rising;
            firsts = trees.1.firsts;
            whole = λ i h. trees.1.whole i (omega (arith, h, above_count));
            linked = λ places i j has_places has_i h.
                let was = trees.1.linked places i j has_places has_i (omega (arith, h, above_count)) in (
                  λ c. connected_by by_links i j (was.0 c),
                  λ way. was.1 (connected_by up i j way),
                );
          },
        )
      where
        link_ends : (i j : ℕ) → i < count → j < count → linked i j → least i ≡ least j
        link_ends i j l h has = All-contains (λ p. least p.0 ≡ least p.1) links (i, j) (All-from_recursion (λ p. least p.0 ≡ least p.1) links are.ends) (has_link i j l h has)
