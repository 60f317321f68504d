-- The rules and limits of a bundle as links between its items and a wall, which stands at 0.
use Rattle.std.proofs.Common.{◌≡◌, ℕ, zero, suc, ◌+◌, ◌-◌, ◌<◌, ◌≤◌, cond, ltb, ℤ, pos, ◌+ℤ◌, ◌-ℤ◌, ◌*ℤ◌, [], ◌∷◌, length, refl, sym, ap, subst, ◌∙◌, ⊎_elim, arith}
use Rattle.std.proofs.Math.IntN.{ℤ_discrete}
use Rattle.std.proofs.lemmas.Int.{ints}
use Rattle.std.proofs.lemmas.Bool.{cases_lt, le-ltb, lt-ltb}
use Rattle.separation_model.specs.declared.bundle.Bundle.{Bundle}
use Rattle.separation_model.specs.Bundle.{IsBundle, asked, item_at, no_rule, rule_at}
use Rattle.separation_model.specs.Sum.{sum_below}
use Rattle.separation_model.proofs.Arithmetic.Ring.{ring, var, num, ◌⊗◌, ◌⊖◌}
use Rattle.separation_model.proofs.Arithmetic.Sums.{sum_below-same}
use Rattle.separation_model.proofs.Optimum.Positions.{ends_within}

-- a link: its second node is to be at least the gap to the right of its first one
pub record Link : Type 0 where
  pub from : ℕ
  pub to : ℕ
  pub gap : ℤ

-- some links, and after them others
pick : ℕ → (ℕ → Link) → (ℕ → Link) → ℕ → Link
pick r f g j = cond (ltb j r) (f j) (g (j - r))

pick_first : (r : ℕ) (f g : ℕ → Link) (j : ℕ) → j < r → pick r f g j ≡ f j
unfolding pick
pick_first r f g j l = ap (λ b. cond b (f j) (g (j - r))) (lt-ltb j r l)

pick_late : (r : ℕ) (f g : ℕ → Link) (j : ℕ) → r ≤ j → pick r f g j ≡ g (j - r)
unfolding pick
pick_late r f g j l = ap (λ b. cond b (f j) (g (j - r))) (le-ltb j r l)

pick_rest : (r : ℕ) (f g : ℕ → Link) (i : ℕ) → pick r f g (r + i) ≡ g i
pick_rest r f g i = pick_late r f g (r + i) (omega arith) ∙ ap g (let e : r + i - r ≡ i = omega arith in e)

pick_each : (P : Link → Type 0) (r k : ℕ) (f g : ℕ → Link) → ((j : ℕ) → j < r → P (f j)) → ((i : ℕ) → i < k → P (g i)) → (j : ℕ) → j < r + k → P (pick r f g j)
pick_each P r k f g first rest j l =
    ⊎_elim (λ m. subst P (sym (pick_first r f g j m)) (first j m))
    (λ m. subst P (sym (pick_late r f g j m)) (rest (j - r) (omega (arith, l, m))))
    (cases_lt j r)

pick_sum : (r k : ℕ) (f g : ℕ → Link) (h : Link → ℤ → ℤ) (m : ℕ → ℤ) →
    sum_below (r + k) (λ j. h (pick r f g j) (m j)) ≡ sum_below r (λ j. h (f j) (m j)) +ℤ sum_below k (λ i. h (g i) (m (r + i)))
pick_sum r zero f g h m =
    let F = λ (j : ℕ). h (pick r f g j) (m j) in
    let e : r + zero ≡ r = omega arith in
    omega (arith, ints, ap (λ n. sum_below n F) e, sum_below-same r F (λ j. h (f j) (m j)) (λ j l. ap (λ a. h a (m j)) (pick_first r f g j l)))
pick_sum r (suc k) f g h m =
    let F = λ (j : ℕ). h (pick r f g j) (m j) in
    let e : r + suc k ≡ suc (r + k) = omega arith in
    let last : F (r + k) ≡ h (g k) (m (r + k)) = ap (λ a. h a (m (r + k))) (pick_rest r f g k) in
    omega (arith, ints, ap (λ n. sum_below n F) e, pick_sum r k f g h m, last)

-- ---- what stands at nodes

-- what is given for the items, with 0 at the wall
pub at_node : ℕ → (ℕ → ℤ) → ℕ → ℤ
at_node n X x = cond (ltb x n) (X x) (pos 0)

pub at_item : (n : ℕ) (X : ℕ → ℤ) (x : ℕ) → x < n → at_node n X x ≡ X x
unfolding at_node
at_item n X x l = ap (λ b. cond b (X x) (pos 0)) (lt-ltb x n l)

pub at_wall : (n : ℕ) (X : ℕ → ℤ) → at_node n X n ≡ pos 0
unfolding at_node
at_wall n X = ap (λ b. cond b (X n) (pos 0)) (le-ltb n n (omega arith))

-- what each item is to have, and the wall takes it all back
pub supply : ℕ → (ℕ → ℤ) → ℕ → ℤ
supply n f x = cond (ltb x n) (f x) (pos 0 -ℤ sum_below n f)

pub supply_item : (n : ℕ) (f : ℕ → ℤ) (x : ℕ) → x < n → supply n f x ≡ f x
unfolding supply
supply_item n f x l = ap (λ b. cond b (f x) (pos 0 -ℤ sum_below n f)) (lt-ltb x n l)

pub supply_wall : (n : ℕ) (f : ℕ → ℤ) → supply n f n ≡ pos 0 -ℤ sum_below n f
unfolding supply
supply_wall n f = ap (λ b. cond b (f n) (pos 0 -ℤ sum_below n f)) (le-ltb n n (omega arith))

pub supply_even : (n : ℕ) (f : ℕ → ℤ) → sum_below (suc n) (supply n f) ≡ pos 0
supply_even n f = omega (arith, ints, sum_below-same n (supply n f) f (supply_item n f), supply_wall n f)

pub supply_sum : (n : ℕ) (f y : ℕ → ℤ) → sum_below (suc n) (λ x. y x *ℤ supply n f x) ≡ sum_below n (λ i. y i *ℤ f i) -ℤ (y n *ℤ sum_below n f)
supply_sum n f y =
    let last : y n *ℤ supply n f n ≡ pos 0 -ℤ (y n *ℤ sum_below n f) =
    ap (λ a. y n *ℤ a) (supply_wall n f) ∙ ring (y n ∷ sum_below n f ∷ []) (var 0 ⊗ (num (pos 0) ⊖ var 1)) (num (pos 0) ⊖ (var 0 ⊗ var 1)) refl in
    omega (arith, ints, sum_below-same n (λ x. y x *ℤ supply n f x) (λ i. y i *ℤ f i) (λ i l. ap (λ a. y i *ℤ a) (supply_item n f i l)), last)

-- ---- the links of a bundle

module _ (b : Bundle) (gap : ℤ) where
  abbrev count : ℕ
  count = length b.items.items

  abbrev rules : ℕ
  rules = length b.rules.items

  abbrev rule_link : ℕ → Link
  rule_link j = let r = rule_at b.rules.items j in record { from = r.left; to = r.right; gap = asked gap r }

  abbrev low_link : ℕ → Link
  low_link i = record { from = count; to = i; gap = (item_at b.items.items i).lo }

  abbrev high_link : ℕ → Link
  high_link i = record { from = i; to = count; gap = pos 0 -ℤ (item_at b.items.items i).hi }

  -- the rules, the lower limits and the upper limits
  pub link : ℕ → Link
  link = pick rules rule_link (pick count low_link high_link)

  abbrev pub link_count : ℕ
  link_count = rules + (count + count)

  pub link_of_rule : (j : ℕ) → j < rules → link j ≡ rule_link j
  unfolding link
  link_of_rule j l = pick_first rules rule_link (pick count low_link high_link) j l

  pub link_of_low : (i : ℕ) → i < count → link (rules + i) ≡ low_link i
  unfolding link
  link_of_low i l = pick_rest rules rule_link (pick count low_link high_link) i ∙ pick_first count low_link high_link i l

  pub link_of_high : (i : ℕ) → link (rules + (count + i)) ≡ high_link i
  unfolding link
  link_of_high i = pick_rest rules rule_link (pick count low_link high_link) (count + i) ∙ pick_rest count low_link high_link i

  each_link : (P : Link → Type 0) → ((j : ℕ) → j < rules → P (rule_link j)) → ((i : ℕ) → i < count → P (low_link i)) → ((i : ℕ) → i < count → P (high_link i)) → (j : ℕ) → j < link_count → P (link j)
  unfolding link
  each_link P rule low high = pick_each P rules (count + count) rule_link (pick count low_link high_link) rule (pick_each P count count low_link high_link low high)

  pub link_sum : (h : Link → ℤ → ℤ) (m : ℕ → ℤ) → sum_below link_count (λ j. h (link j) (m j))
      ≡ sum_below rules (λ j. h (rule_link j) (m j)) +ℤ (sum_below count (λ i. h (low_link i) (m (rules + i))) +ℤ sum_below count (λ i. h (high_link i) (m (rules + (count + i)))))
  unfolding link
  link_sum h m = omega (arith, ints, pick_sum rules (count + count) rule_link (pick count low_link high_link) h m, pick_sum count count low_link high_link h (λ i. m (rules + i)))

  abbrev pub from : ℕ → ℕ
  from j = (link j).from

  abbrev pub to : ℕ → ℕ
  to j = (link j).to

  pub ends_in : IsBundle b → (j : ℕ) → j < link_count → (from j < suc count) × (to j < suc count)
  ends_in ok = each_link (λ a. (a.from < suc count) × (a.to < suc count))
      (λ j l. let e = ends_within b j no_rule ok l in (omega (arith, e), omega (arith, e)))
      (λ i l. (omega arith, omega (arith, l)))
      (λ i l. (omega (arith, l), omega arith))

  -- the nodes of the link are exactly the gap apart
  abbrev pub IsTightLink : ℕ → (ℕ → ℤ) → Link → Type 0
  IsTightLink d X a = at_node count X a.to -ℤ at_node count X a.from ≡ a.gap *ℤ pos d

  abbrev pub IsTight : ℕ → (ℕ → ℤ) → ℕ → Type 0
  IsTight d X j = IsTightLink d X (link j)

  pub tight_or : (d : ℕ) (X : ℕ → ℤ) (j : ℕ) → Dec (IsTight d X j)
  tight_or d X j = ℤ_discrete (at_node count X (to j) -ℤ at_node count X (from j)) ((link j).gap *ℤ pos d)
