-- A flow along links between nodes brings each node what it is to have, or some nodes cannot give away what they have too much of.
use Rattle.std.proofs.Common.{◌≡◌, ◌⊎◌, inl, inr, ℕ, zero, suc, ◌<◌, ℤ, pos, negsuc, ◌+ℤ◌, ◌-ℤ◌, ◌*ℤ◌, ◌≤ℤ◌, ◌<ℤ◌, List, [], ◌∷◌, refl, sym, ap, subst, ◌∙◌, ⊎_elim, arith}
use Rattle.std.proofs.Math.Decide.{ℕ_discrete}
use Rattle.std.specs.Prelude.{unsigned_abs, Contains}
use Rattle.std.proofs.lemmas.Int.{by_lt_z, ints}
use Rattle.std.proofs.lemmas.Bool.{cases_eq}
use Rattle.separation_model.specs.Sum.{here, sum_below}
use Rattle.separation_model.proofs.Arithmetic.Ring.{mul-add, mul_comm, ring, var, ◌⊗◌, ◌⊕◌, ◌⊖◌}
use Rattle.separation_model.proofs.Arithmetic.Order.{mul-mono}
use Rattle.separation_model.proofs.Arithmetic.Sums.{negative_sum, part_of_sum, sum_below-add, sum_below-at, sum_below-le, sum_below-same, sum_below-sign, sum_below-single, sum_below-sub, sum_below-zero}
use Rattle.separation_model.proofs.Arithmetic.Exchange.{here_other, here_same}
use Rattle.existence_laws.proofs.Deciding.Decided.{both, int_lt, one_of, some_below}
use Rattle.existence_laws.proofs.Deciding.Counting.{below, contains_below, stops, tally, tally_grows}

-- ---- sums at a node

-- the sum of the numbers of the links with their end at the node
abbrev pub gathered : ℕ → (ℕ → ℕ) → (ℕ → ℤ) → ℕ → ℤ
gathered links end m x = sum_below links (λ j. here (end j) x (m j))

here_add : (e x : ℕ) (a c : ℤ) → here e x (a +ℤ c) ≡ here e x a +ℤ here e x c
here_add e x a c =
    ⊎_elim (λ same. omega (arith, ints, here_same e x a same, here_same e x c same, here_same e x (a +ℤ c) same))
    (λ other. omega (arith, ints, here_other e x a other, here_other e x c other, here_other e x (a +ℤ c) other))
    (cases_eq e x)

here_minus : (e x : ℕ) → here e x (negsuc 0) ≡ pos 0 -ℤ here e x (pos 1)
here_minus e x =
    ⊎_elim (λ same. omega (arith, ints, here_same e x (negsuc 0) same, here_same e x (pos 1) same))
    (λ other. omega (arith, ints, here_other e x (negsuc 0) other, here_other e x (pos 1) other))
    (cases_eq e x)

pub here_sign : (e x : ℕ) (z : ℤ) → pos 0 ≤ℤ z → pos 0 ≤ℤ here e x z
here_sign e x z h =
    ⊎_elim (λ same. omega (arith, ints, here_same e x z same, h)) (λ other. omega (arith, ints, here_other e x z other)) (cases_eq e x)

-- one link's number changed
gathered_more : (links : ℕ) (end : ℕ → ℕ) (m : ℕ → ℤ) (j : ℕ) (z : ℤ) (x : ℕ) → j < links →
    gathered links end (λ i. m i +ℤ here j i z) x ≡ gathered links end m x +ℤ here (end j) x z
gathered_more links end m j z x l =
    let old = λ (i : ℕ). here (end i) x (m i) in
    let new = λ (i : ℕ). here (end i) x (m i +ℤ here j i z) in
    let apart : (i : ℕ) → i < links → (i ≡ j → ⊥) → old i ≡ new i =
    λ i k other. ap (here (end i) x) (omega (arith, ints, here_other j i z (λ e. other (sym e)))) in
    let at : new j ≡ old j +ℤ here (end j) x z = ap (λ y. here (end j) x (m j +ℤ y)) (here_same j j z refl) ∙ here_add (end j) x (m j) z in
    omega (arith, ints, sum_below-at links old new j l apart, at)

here_total : (n e : ℕ) (z : ℤ) → e < n → sum_below n (λ x. here e x z) ≡ z
here_total n e z l = sum_below-single n (λ x. here e x z) e l (λ i k other. here_other e i z (λ q. other (sym q))) ∙ here_same e e z refl

here_weighted : (n : ℕ) (y : ℕ → ℤ) (e : ℕ) (z : ℤ) → e < n → sum_below n (λ x. y x *ℤ here e x z) ≡ z *ℤ y e
here_weighted n y e z l =
    sum_below-single n (λ x. y x *ℤ here e x z) e l (λ i k other. ap (λ a. y i *ℤ a) (here_other e i z (λ q. other (sym q))) ∙ omega (arith, ints))
    ∙ ap (λ a. y e *ℤ a) (here_same e e z refl) ∙ mul_comm (y e) z

-- the weighted sums at all nodes are the weighted numbers of all links
gathered_exchange : (n links : ℕ) (end : ℕ → ℕ) (m y : ℕ → ℤ) → ((j : ℕ) → j < links → end j < n) →
    sum_below n (λ x. y x *ℤ gathered links end m x) ≡ sum_below links (λ j. m j *ℤ y (end j))
gathered_exchange n zero end m y within = sum_below-zero n (λ x. y x *ℤ pos 0) (λ i l. omega (arith, ints))
gathered_exchange n (suc links) end m y within =
    let first = λ (x : ℕ). y x *ℤ gathered links end m x in
    let last = λ (x : ℕ). y x *ℤ here (end links) x (m links) in
    sum_below-same n (λ x. y x *ℤ gathered (suc links) end m x) (λ x. first x +ℤ last x) (λ x l. mul-add (y x) (gathered links end m x) (here (end links) x (m links)))
    ∙ sum_below-add n first last
    ∙ omega (arith, ints, gathered_exchange n links end m y (λ j l. within j (omega (arith, l))), here_weighted n y (end links) (m links) (within links (omega arith)))

-- ---- flows

-- what flows into a node less what leaves it, and both together
abbrev pub net : ℕ → (ℕ → ℕ) → (ℕ → ℕ) → (ℕ → ℤ) → ℕ → ℤ
net links from to m x = gathered links to m x -ℤ gathered links from m x

abbrev pub touch : ℕ → (ℕ → ℕ) → (ℕ → ℕ) → (ℕ → ℤ) → ℕ → ℤ
touch links from to m x = gathered links to m x +ℤ gathered links from m x

pub net_exchange : (n links : ℕ) (from to : ℕ → ℕ) (m y : ℕ → ℤ) → ((j : ℕ) → j < links → from j < n) → ((j : ℕ) → j < links → to j < n) →
    sum_below n (λ x. y x *ℤ net links from to m x) ≡ sum_below links (λ j. m j *ℤ (y (to j) -ℤ y (from j)))
net_exchange n links from to m y from_in to_in =
    let ins = λ (x : ℕ). y x *ℤ gathered links to m x in
    let outs = λ (x : ℕ). y x *ℤ gathered links from m x in
    sum_below-same n (λ x. y x *ℤ net links from to m x) (λ x. ins x -ℤ outs x)
    (λ x l. ring (y x ∷ gathered links to m x ∷ gathered links from m x ∷ []) (var 0 ⊗ (var 1 ⊖ var 2)) ((var 0 ⊗ var 1) ⊖ (var 0 ⊗ var 2)) refl)
    ∙ sum_below-sub n ins outs
    ∙ omega (
      arith,
      ints,
      gathered_exchange n links to m y to_in,
      gathered_exchange n links from m y from_in,
      sum_below-same links (λ j. m j *ℤ (y (to j) -ℤ y (from j))) (λ j. (m j *ℤ y (to j)) -ℤ (m j *ℤ y (from j)))
          (λ j l. ring (m j ∷ y (to j) ∷ y (from j) ∷ []) (var 0 ⊗ (var 1 ⊖ var 2)) ((var 0 ⊗ var 1) ⊖ (var 0 ⊗ var 2)) refl),
      sum_below-sub links (λ j. m j *ℤ y (to j)) (λ j. m j *ℤ y (from j)),
    )

-- numbers that are not negative, on open links alone
pub record IsFlow (links : ℕ) (Open : ℕ → Type 0) (m : ℕ → ℤ) : Type 0 where
  pub sign : (j : ℕ) → pos 0 ≤ℤ m j
  pub opens : (j : ℕ) → j < links → (m j ≡ pos 0 → ⊥) → Open j

-- a flow that brings each node what it is to have, and not too much of it through any node
pub record IsMet (nodes links : ℕ) (from to : ℕ → ℕ) (Open : ℕ → Type 0) (supply : ℕ → ℤ) : Type 0 where
  pub flow : ℕ → ℤ
  pub is : IsFlow links Open flow
  pub brings : (x : ℕ) → x < nodes → net links from to flow x ≡ supply x
  pub small : (x : ℕ) → touch links from to flow x ≤ℤ sum_below nodes (λ y. pos (unsigned_abs (supply y)))

-- nodes that no open link leaves, and that are together to have less than nothing
pub record IsCut (nodes links : ℕ) (from to : ℕ → ℕ) (Open : ℕ → Type 0) (supply : ℕ → ℤ) : Type 0 where
  pub inside : ℕ → ℤ
  pub is : (x : ℕ) → (inside x ≡ pos 0) ⊎ (inside x ≡ pos 1)
  pub closed : (j : ℕ) → j < links → Open j → inside (from j) ≤ℤ inside (to j)
  pub lacks : sum_below nodes (λ x. inside x *ℤ supply x) <ℤ pos 0

-- what holds counts 1, and what fails 0
tally_is : {P : Type 0} (d : Dec P) → (pos (tally d) ≡ pos 0) ⊎ (pos (tally d) ≡ pos 1)
unfolding tally
tally_is (yes p) = inr refl
tally_is (no n) = inl refl

tally_low : {P : Type 0} (d : Dec P) (z : ℤ) → (P → z ≤ℤ pos 0) → (pos (tally d) *ℤ z) ≤ℤ pos 0
unfolding tally
tally_low (yes p) z h = omega (arith, ints, h p)
tally_low (no n) z h = omega (arith, ints)

tally_less : {P : Type 0} (d : Dec P) (z : ℤ) → P → z <ℤ pos 0 → (pos (tally d) *ℤ z) <ℤ pos 0
unfolding tally
tally_less (yes p) z q h = omega (arith, ints, h)
tally_less (no n) z q h = absurd (n q)

-- all nodes in a list
nodes_list : ℕ → List ℕ
nodes_list nodes = below nodes (λ i. i ∷ [])

in_nodes : (nodes x : ℕ) → x < nodes → Contains (nodes_list nodes) x
unfolding nodes_list
in_nodes nodes x l = contains_below (λ i. i ∷ []) nodes x x l (0, omega arith, refl)

module _ (nodes links : ℕ) (from to : ℕ → ℕ) (Open : ℕ → Type 0) (open_or : (j : ℕ) → Dec (Open j)) (from_in : (j : ℕ) → j < links → from j < nodes) (to_in : (j : ℕ) → j < links → to j < nodes) where
  -- one unit can go over the link from the first node to the second: forward if it is open, back if it has flow
  abbrev Goes : (ℕ → ℤ) → ℕ → ℕ → ℕ → Type 0
  Goes m u v j = (Open j × ((from j ≡ u) × (to j ≡ v))) ⊎ ((pos 0 <ℤ m j) × ((from j ≡ v) × (to j ≡ u)))

  abbrev Leads : (ℕ → ℤ) → ℕ → ℕ → Type 0
  Leads m u v = (j : ℕ) × (j < links) × Goes m u v j

  leads_or : (m : ℕ → ℤ) (u v : ℕ) → Dec (Leads m u v)
  leads_or m u v = some_below links (Goes m u v)
      (λ j. one_of (both (open_or j) (both (ℕ_discrete (from j) u) (ℕ_discrete (to j) v))) (both (int_lt (pos 0) (m j)) (both (ℕ_discrete (from j) v) (ℕ_discrete (to j) u))))

  -- one unit can go from the start to the node over at most that number of links
  abbrev Comes : (ℕ → ℤ) → ℕ → ℕ → ℕ → Type 0
  Comes m s zero v = v ≡ s
  Comes m s (suc l) v = Comes m s l v ⊎ ((u : ℕ) × (u < nodes) × (Comes m s l u × Leads m u v))

  comes_or : (m : ℕ → ℤ) (s l v : ℕ) → Dec (Comes m s l v)
  comes_or m s zero v = ℕ_discrete v s
  comes_or m s (suc l) v = one_of (comes_or m s l v) (some_below nodes (λ u. Comes m s l u × Leads m u v) (λ u. both (comes_or m s l u) (leads_or m u v)))

  start_comes : (m : ℕ → ℤ) (s l : ℕ) → Comes m s l s
  start_comes m s zero = refl
  start_comes m s (suc l) = inl (start_comes m s l)

  -- the flow with one unit more from the start to the node
  record Sent (m : ℕ → ℤ) (s l v : ℕ) : Type 0 where
    flow : ℕ → ℤ
    is : IsFlow links Open flow
    brings : (x : ℕ) → net links from to flow x ≡ (net links from to m x +ℤ here v x (pos 1)) -ℤ here s x (pos 1)
    same : (j : ℕ) → j < links → (Comes m s l (from j) → ⊥) ⊎ (Comes m s l (to j) → ⊥) → flow j ≡ m j
    most : (x : ℕ) → touch links from to flow x ≤ℤ (touch links from to m x +ℤ pos 2)
    at_end : touch links from to flow v ≤ℤ (touch links from to m v +ℤ pos 1)
    outside : (x : ℕ) → (Comes m s l x → ⊥) → touch links from to flow x ≤ℤ touch links from to m x

  start_sent : (m : ℕ → ℤ) (s : ℕ) → IsFlow links Open m → Sent m s 0 s
  start_sent m s is = record {
    flow = m;
    is = is;
    brings = λ x. omega (arith, ints);
    same = λ j l h. refl;
    most = λ x. omega (arith, ints);
    at_end = omega (arith, ints);
    outside = λ x h. omega (arith, ints);
  }

  later_sent : (m : ℕ → ℤ) (s l v : ℕ) → Sent m s l v → Sent m s (suc l) v
  later_sent m s l v p = record {
    flow = p.flow;
    is = p.is;
    brings = p.brings;
    same = λ j k h. p.same j k (⊎_elim (λ n. inl (λ c. n (inl c))) (λ n. inr (λ c. n (inl c))) h);
    most = p.most;
    at_end = p.at_end;
    outside = λ x n. p.outside x (λ c. n (inl c));
  }

  -- what one link more does to the sums at a node
  link_net : (m : ℕ → ℤ) (j : ℕ) (z : ℤ) (x : ℕ) → j < links → net links from to (λ i. m i +ℤ here j i z) x ≡ net links from to m x +ℤ (here (to j) x z -ℤ here (from j) x z)
  link_net m j z x l = omega (arith, ints, gathered_more links to m j z x l, gathered_more links from m j z x l)

  link_touch : (m : ℕ → ℤ) (j : ℕ) (z : ℤ) (x : ℕ) → j < links → touch links from to (λ i. m i +ℤ here j i z) x ≡ touch links from to m x +ℤ (here (to j) x z +ℤ here (from j) x z)
  link_touch m j z x l = omega (arith, ints, gathered_more links to m j z x l, gathered_more links from m j z x l)

  -- one unit over one link more
  module _ (m : ℕ → ℤ) (s l u v : ℕ) (p : Sent m s l u) (u_in : u < nodes) (near : Comes m s l u) (new : Comes m s l v → ⊥) (j : ℕ) (j_in : j < links) (goes : Goes m u v j) (z : ℤ)
      (is_net : (x : ℕ) → here (to j) x z -ℤ here (from j) x z ≡ here v x (pos 1) -ℤ here u x (pos 1))
      (is_touch : (x : ℕ) → (here (to j) x z +ℤ here (from j) x z) ≤ℤ (here v x (pos 1) +ℤ here u x (pos 1)))
      (opened : Open j) (some : pos 0 ≤ℤ (p.flow j +ℤ z)) where
    abbrev further : ℕ → ℤ
    further i = p.flow i +ℤ here j i z

    comes_later : Comes m s (suc l) v
    comes_later = inr (u, u_in, (near, (j, j_in, goes)))

    -- both ends of the link are reached
    ends_come : (Comes m s (suc l) (from j) → ⊥) ⊎ (Comes m s (suc l) (to j) → ⊥) → ⊥
    ends_come h = elim goes as (λ _. ⊥) [
      | inl g ↦ ⊎_elim (λ n. n (subst (Comes m s (suc l)) (sym g.1.0) (inl near))) (λ n. n (subst (Comes m s (suc l)) (sym g.1.1) comes_later)) h
      | inr g ↦ ⊎_elim (λ n. n (subst (Comes m s (suc l)) (sym g.1.0) comes_later)) (λ n. n (subst (Comes m s (suc l)) (sym g.1.1) (inl near))) h
    ]

    further_is : IsFlow links Open further
    further_is = record {
      sign = λ i. ⊎_elim
          (λ e. let h : here j i z ≡ z = here_same j i z e in let k : pos 0 ≤ℤ (p.flow i +ℤ z) = subst (λ a. pos 0 ≤ℤ (p.flow a +ℤ z)) e some in omega (arith, ints, h, k))
          (λ other. omega (arith, ints, here_other j i z other, p.is.sign i)) (cases_eq j i);
      opens = λ i k h. ⊎_elim (λ e. subst Open e opened) (λ other. p.is.opens i k (λ q. h (omega (arith, ints, here_other j i z other, q)))) (cases_eq j i);
    }

    apart : (x : ℕ) → x ≡ v → u ≡ x → ⊥
    apart x e f = new (subst (Comes m s l) (f ∙ e) near)

    further_most : (x : ℕ) → touch links from to further x ≤ℤ (touch links from to m x +ℤ pos 2)
    further_most x = ⊎_elim
        (λ e. let h : touch links from to p.flow x ≤ℤ touch links from to m x = p.outside x (λ c. new (subst (Comes m s l) (sym e) c)) in
        omega (arith, ints, link_touch p.flow j z x j_in, is_touch x, h, here_same v x (pos 1) e, here_other u x (pos 1) (apart x (sym e))))
        (λ other. ⊎_elim
        (λ e. let h : touch links from to p.flow x ≤ℤ (touch links from to m x +ℤ pos 1) = subst (λ a. touch links from to p.flow a ≤ℤ (touch links from to m a +ℤ pos 1)) e p.at_end in
        omega (arith, ints, link_touch p.flow j z x j_in, is_touch x, h, here_other v x (pos 1) other, here_same u x (pos 1) e))
        (λ apart_too. omega (arith, ints, link_touch p.flow j z x j_in, is_touch x, p.most x, here_other v x (pos 1) other, here_other u x (pos 1) apart_too))
        (cases_eq u x))
        (cases_eq v x)

    further_sent : Sent m s (suc l) v
    further_sent = record {
      flow = further;
      is = further_is;
      brings = λ x. omega (arith, ints, link_net p.flow j z x j_in, is_net x, p.brings x);
      same = λ i k h. ⊎_elim
          (λ e. absurd (ends_come (subst (λ a. (Comes m s (suc l) (from a) → ⊥) ⊎ (Comes m s (suc l) (to a) → ⊥)) (sym e) h)))
          (λ other. omega (arith, ints, here_other j i z other, p.same i k (⊎_elim (λ n. inl (λ c. n (inl c))) (λ n. inr (λ c. n (inl c))) h)))
          (cases_eq j i);
      most = further_most;
      at_end = omega (arith, ints, link_touch p.flow j z v j_in, is_touch v, p.outside v new, here_same v v (pos 1) refl, here_other u v (pos 1) (apart v refl));
      outside = λ x n.
          let v_other : v ≡ x → ⊥ = λ e. n (subst (Comes m s (suc l)) e comes_later) in
          let u_other : u ≡ x → ⊥ = λ e. n (subst (Comes m s (suc l)) e (inl near)) in
          omega (arith, ints, link_touch p.flow j z x j_in, is_touch x, p.outside x (λ c. n (inl c)), here_other v x (pos 1) v_other, here_other u x (pos 1) u_other);
    }

  -- a unit can be sent to each node that is reached
  send : (m : ℕ → ℤ) (s : ℕ) → IsFlow links Open m → (l v : ℕ) → Comes m s l v → Sent m s l v
  send m s is zero v e = subst (Sent m s 0) (sym e) (start_sent m s is)
  send m s is (suc l) v (inl near) = later_sent m s l v (send m s is l v near)
  send m s is (suc l) v (inr (u, u_in, (near, (j, j_in, inl (opened, (e, g)))))) =
      elim (comes_or m s l v) as (λ _. Sent m s (suc l) v) [
        | yes c ↦ later_sent m s l v (send m s is l v c)
        | no new ↦ let p = send m s is l u near in
            further_sent m s l u v p u_in near new j j_in (inl (opened, (e, g))) (pos 1)
            (λ x. omega (arith, ints, ap (λ a. here a x (pos 1)) e, ap (λ a. here a x (pos 1)) g))
            (λ x. omega (arith, ints, ap (λ a. here a x (pos 1)) e, ap (λ a. here a x (pos 1)) g))
            opened (omega (arith, ints, p.is.sign j))
      ]
  send m s is (suc l) v (inr (u, u_in, (near, (j, j_in, inr (some, (e, g)))))) =
      elim (comes_or m s l v) as (λ _. Sent m s (suc l) v) [
        | yes c ↦ later_sent m s l v (send m s is l v c)
        | no new ↦ let p = send m s is l u near in
            further_sent m s l u v p u_in near new j j_in (inr (some, (e, g))) (negsuc 0)
            (λ x. omega (arith, ints, ap (λ a. here a x (pos 1)) e, ap (λ a. here a x (pos 1)) g, here_minus (to j) x, here_minus (from j) x))
            (λ x. let sign = λ (a : ℕ). here_sign a x (pos 1) (omega (arith, ints)) in omega (arith, ints, here_minus (to j) x, here_minus (from j) x, sign (to j), sign (from j), sign v, sign u))
            (is.opens j j_in (λ q. omega (arith, ints, some, q)))
            (let same : p.flow j ≡ m j = p.same j j_in (inl (λ c. new (subst (Comes m s l) e c))) in omega (arith, ints, same, some))
      ]

  module _ (supply : ℕ → ℤ) (even : sum_below nodes supply ≡ pos 0) where
    -- what a node is to have and does not get
    abbrev excess : (ℕ → ℤ) → ℕ → ℤ
    excess m x = supply x -ℤ net links from to m x

    abbrev size : (ℕ → ℤ) → ℤ
    size m = sum_below nodes (λ x. pos (unsigned_abs (excess m x)))

    abbrev most_size : ℤ
    most_size = sum_below nodes (λ x. pos (unsigned_abs (supply x)))

    abbrev Outcome : Type 0
    Outcome = IsMet nodes links from to Open supply ⊎ IsCut nodes links from to Open supply

    excess_even : (m : ℕ → ℤ) → sum_below nodes (excess m) ≡ pos 0
    excess_even m =
        let ones = λ (x : ℕ). pos 1 in
        let nets = net links from to m in
        omega (
          arith,
          ints,
          even,
          sum_below-sub nodes supply nets,
          sum_below-same nodes (λ x. pos 1 *ℤ nets x) nets (λ x l. omega (arith, ints)),
          net_exchange nodes links from to m ones from_in to_in,
          sum_below-zero links (λ j. m j *ℤ (pos 1 -ℤ pos 1)) (λ j l. omega (arith, ints)),
        )

    -- no node gets too much: then none gets too little
    all_met : (m : ℕ → ℤ) → IsFlow links Open m → ((x : ℕ) → (touch links from to m x +ℤ size m) ≤ℤ most_size) → ((x : ℕ) → x < nodes → excess m x <ℤ pos 0 → ⊥) → IsMet nodes links from to Open supply
    all_met m is small none = record {
      flow = m;
      is = is;
      brings = λ x l.
          let sign : (y : ℕ) → y < nodes → pos 0 ≤ℤ excess m y = λ y k. by_lt_z {P = pos 0 ≤ℤ excess m y} (excess m y) (pos 0) (λ h. absurd (none y k h)) (λ h. h) in
          omega (arith, ints, sign x l, part_of_sum nodes (excess m) x l sign, excess_even m);
      small = λ x. omega (arith, ints, small x, sum_below-sign nodes (λ y. pos (unsigned_abs (excess m y))) (λ y l. omega (arith, ints)));
    }

    -- the nodes that are reached, if none of them can take a unit
    cut_off : (m : ℕ → ℤ) (s l : ℕ) → IsFlow links Open m → s < nodes → excess m s <ℤ pos 0 → ((x : ℕ) → x < nodes → Comes m s (suc l) x → Comes m s l x) →
        ((x : ℕ) → x < nodes → Comes m s l x → pos 0 <ℤ excess m x → ⊥) → IsCut nodes links from to Open supply
    cut_off m s l is s_in much stops_here none =
        let inside = λ (x : ℕ). pos (tally (comes_or m s l x)) in
        let nets = net links from to m in
        let spare = sum_below nodes (λ x. inside x *ℤ excess m x) in
        let lead : (j u v : ℕ) → j < links → u < nodes → v < nodes → Goes m u v j → inside u ≤ℤ inside v =
        λ j u v j_in u_in v_in goes. omega (arith, ints, tally_grows (comes_or m s l u) (comes_or m s l v) (λ c. stops_here v v_in (inr (u, u_in, (c, (j, j_in, goes)))))) in
        let low : spare <ℤ pos 0 = negative_sum nodes (λ x. inside x *ℤ excess m x) s s_in
        (λ x k. tally_low (comes_or m s l x) (excess m x) (λ c. by_lt_z {P = excess m x ≤ℤ pos 0} (pos 0) (excess m x) (λ h. absurd (none x k c h)) (λ h. h)))
        (tally_less (comes_or m s l s) (excess m s) (start_comes m s l) much) in
        let term : (j : ℕ) → j < links → (m j *ℤ (inside (to j) -ℤ inside (from j))) ≤ℤ pos 0 =
        λ j k. by_lt_z {P = (m j *ℤ (inside (to j) -ℤ inside (from j))) ≤ℤ pos 0} (pos 0) (m j)
        (λ some. let back : inside (to j) ≤ℤ inside (from j) = lead j (to j) (from j) k (to_in j k) (from_in j k) (inr (some, (refl, refl))) in
        let down : (inside (to j) -ℤ inside (from j)) ≤ℤ pos 0 = omega (arith, ints, back) in
        omega (arith, ints, mul-mono (m j) (inside (to j) -ℤ inside (from j)) (pos 0) (is.sign j) down))
        (λ few. let e : m j ≡ pos 0 = omega (arith, ints, few, is.sign j) in
        subst (λ z. (z *ℤ (inside (to j) -ℤ inside (from j))) ≤ℤ pos 0) (sym e) (omega (arith, ints))) in
        record {
          inside = inside;
          is = λ x. tally_is (comes_or m s l x);
          closed = λ j k o. lead j (from j) (to j) k (from_in j k) (to_in j k) (inl (o, (refl, refl)));
          lacks = omega (
            arith,
            ints,
            low,
            sum_below-same nodes (λ x. inside x *ℤ supply x) (λ x. (inside x *ℤ excess m x) +ℤ (inside x *ℤ nets x))
                (λ x k. ring (inside x ∷ supply x ∷ nets x ∷ []) (var 0 ⊗ var 1) ((var 0 ⊗ (var 1 ⊖ var 2)) ⊕ (var 0 ⊗ var 2)) refl),
            sum_below-add nodes (λ x. inside x *ℤ excess m x) (λ x. inside x *ℤ nets x),
            net_exchange nodes links from to m inside from_in to_in,
            sum_below-le links (λ j. m j *ℤ (inside (to j) -ℤ inside (from j))) (λ j. pos 0) term,
            sum_below-zero links (λ j. pos 0) (λ j k. refl),
          );
        }

    -- one unit sent makes what is missing less by two
    sent_size : (m : ℕ → ℤ) (s l t : ℕ) (p : Sent m s l t) → s < nodes → t < nodes → excess m s <ℤ pos 0 → pos 0 <ℤ excess m t → (size p.flow +ℤ pos 2) ≤ℤ size m
    sent_size m s l t p s_in t_in much some =
        let new = λ (x : ℕ). pos (unsigned_abs (excess p.flow x)) in
        let at_t = λ (x : ℕ). here t x (pos 1) in
        let at_s = λ (x : ℕ). here s x (pos 1) in
        let each : (x : ℕ) → x < nodes → (new x +ℤ (at_t x +ℤ at_s x)) ≤ℤ pos (unsigned_abs (excess m x)) =
        λ x k. ⊎_elim
        (λ e. let h : pos 0 <ℤ excess m x = subst (λ a. pos 0 <ℤ excess m a) e some in
        let other : s ≡ x → ⊥ = λ q. let g : excess m x <ℤ pos 0 = subst (λ a. excess m a <ℤ pos 0) q much in omega (arith, ints, g, h) in
        omega (arith, ints, h, p.brings x, here_same t x (pos 1) e, here_other s x (pos 1) other))
        (λ other. ⊎_elim
        (λ e. let g : excess m x <ℤ pos 0 = subst (λ a. excess m a <ℤ pos 0) e much in
        omega (arith, ints, g, p.brings x, here_other t x (pos 1) other, here_same s x (pos 1) e))
        (λ other_too. omega (arith, ints, p.brings x, here_other t x (pos 1) other, here_other s x (pos 1) other_too))
        (cases_eq s x))
        (cases_eq t x) in
        omega (
          arith,
          ints,
          sum_below-le nodes (λ x. new x +ℤ (at_t x +ℤ at_s x)) (λ x. pos (unsigned_abs (excess m x))) each,
          sum_below-add nodes new (λ x. at_t x +ℤ at_s x),
          sum_below-add nodes at_t at_s,
          here_total nodes t (pos 1) t_in,
          here_total nodes s (pos 1) s_in,
        )

    -- units are sent until nothing is missing, or until none can be sent
    solve : (fuel : ℕ) (m : ℕ → ℤ) → IsFlow links Open m → ((x : ℕ) → (touch links from to m x +ℤ size m) ≤ℤ most_size) → size m ≤ℤ pos fuel → Outcome
    solve zero m is small few =
        inl (all_met m is small (λ x l much. omega (arith, ints, much, few, part_of_sum nodes (λ y. pos (unsigned_abs (excess m y))) x l (λ y k. omega (arith, ints)))))
    solve (suc fuel) m is small few =
        elim (some_below nodes (λ x. excess m x <ℤ pos 0) (λ x. int_lt (excess m x) (pos 0))) as (λ _. Outcome) [
          | no none ↦ inl (all_met m is small (λ x l much. none (x, l, much)))
          | yes (s, s_in, much) ↦
              let level = stops (nodes_list nodes) (Comes m s) (comes_or m s) (λ l x c. inl c) in
              let l = level.0 in
              elim (some_below nodes (λ x. Comes m s l x × (pos 0 <ℤ excess m x)) (λ x. both (comes_or m s l x) (int_lt (pos 0) (excess m x)))) as (λ _. Outcome) [
                | no none ↦ inr (cut_off m s l is s_in much (λ x k c. level.1 x (in_nodes nodes x k) c) (λ x k c some. none (x, k, (c, some))))
                | yes (t, t_in, (c, some)) ↦
                    let p = send m s is l t c in
                    let less = sent_size m s l t p s_in t_in much some in
                    solve fuel p.flow p.is (λ x. omega (arith, ints, less, small x, p.most x)) (omega (arith, ints, less, few))
              ]
        ]

    pub flow_or_cut : IsMet nodes links from to Open supply ⊎ IsCut nodes links from to Open supply
    flow_or_cut =
        let none = λ (j : ℕ). pos 0 in
        let empty : (end : ℕ → ℕ) (x : ℕ) → gathered links end none x ≡ pos 0 = λ end x. sum_below-zero links (λ j. here (end j) x (pos 0)) (λ j l. ⊎_elim (here_same (end j) x (pos 0)) (here_other (end j) x (pos 0)) (cases_eq (end j) x)) in
        let all : (x : ℕ) → excess none x ≡ supply x = λ x. omega (arith, ints, empty to x, empty from x) in
        let whole : size none ≡ most_size = sum_below-same nodes (λ x. pos (unsigned_abs (excess none x))) (λ x. pos (unsigned_abs (supply x))) (λ x l. ap (λ z. pos (unsigned_abs z)) (all x)) in
        let sign : pos 0 ≤ℤ most_size = sum_below-sign nodes (λ x. pos (unsigned_abs (supply x))) (λ x l. omega (arith, ints)) in
        solve (unsigned_abs most_size) none (record { sign = λ j. omega (arith, ints); opens = λ j l h. absurd (h refl) })
        (λ x. omega (arith, ints, whole, empty to x, empty from x)) (omega (arith, ints, whole, sign))
