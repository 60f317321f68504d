-- Trees of numbers: what a join of two trees keeps.
use Rattle.std.proofs.Common.{◌≡◌, ◌≢◌, ℕ, ◌<◌, ◌≤◌, List, length, get_or, set, inl, inr, refl, sym, ap, subst, ◌∙◌, arith}
use Rattle.std.proofs.lemmas.Bool.{cases_lt}
use Rattle.std.proofs.lemmas.List.{get_or-set_same, get_or-set_other, length-set}
use Rattle.channel_bundles.specs.Classes.{Connected, IsForest, LeadsUp, LeadsUpOr}

-- connections are followed one by another, back, and through each link's own connection
pub connected_on : {linked : ℕ → ℕ → Type 0} (i j k : ℕ) → Connected linked i j → Connected linked j k → Connected linked i k
connected_on i j k c (Connected.same n) = c
connected_on i j k c (Connected.onward a m b d l) = Connected.onward i m k (connected_on i j m c d) l
connected_on i j k c (Connected.back a m b d l) = Connected.back i m k (connected_on i j m c d) l

pub connected_back : {linked : ℕ → ℕ → Type 0} (i j : ℕ) → Connected linked i j → Connected linked j i
connected_back i j (Connected.same n) = Connected.same n
connected_back i j (Connected.onward a m b d l) = connected_on j m i (Connected.back j j m (Connected.same j) l) (connected_back i m d)
connected_back i j (Connected.back a m b d l) = connected_on j m i (Connected.onward j j m (Connected.same j) l) (connected_back i m d)

pub connected_link : {linked : ℕ → ℕ → Type 0} (i j : ℕ) → linked i j → Connected linked i j
connected_link i j l = Connected.onward i i j (Connected.same i) l

pub connected_by : {linked other : ℕ → ℕ → Type 0} → ((i j : ℕ) → linked i j → Connected other i j) → (i j : ℕ) → Connected linked i j → Connected other i j
connected_by each i j (Connected.same n) = Connected.same n
connected_by each i j (Connected.onward a m b d l) = connected_on i m j (connected_by each i m d) (each m j l)
connected_by each i j (Connected.back a m b d l) = connected_on i m j (connected_by each i m d) (connected_back j m (each j m l))

-- two numbers are the same or differ
pub cases_same : {P : Type 0} (m n : ℕ) → (m ≡ n → P) → (m ≢ n → P) → P
cases_same {P} m n f g = elim (cases_lt m n) as (λ _. P) [
  | inl l ↦ g (λ e. absurd (omega arith))
  | inr k ↦ (elim (cases_lt n m) as (λ _. P) [ inl l ↦ g (λ e. absurd (omega arith)) | inr h ↦ f (omega arith) ])
]

pub cases_below : {P : Type 0} (m n : ℕ) → (m < n → P) → (n ≤ m → P) → P
cases_below {P} m n f g = elim (cases_lt m n) as (λ _. P) [ inl l ↦ f l | inr k ↦ g k ]

-- where the join of a and b has come: the trees, with the pair that is still to be joined, are the first trees with a and b
pub record IsJoining (old : List ℕ) (a b : ℕ) (above : List ℕ) (low high : ℕ) : Type 0 where
  pub forest : IsForest above
  pub count : length above ≡ length old
  pub low_in : low < length above
  pub high_in : high < length above
  pub kept : (i j : ℕ) → LeadsUp old i j → Connected (LeadsUpOr above low high) i j
  pub ends : Connected (LeadsUpOr above low high) a b
  pub only : (i j : ℕ) → LeadsUp above i j → Connected (LeadsUpOr old a b) i j
  pub pair : Connected (LeadsUpOr old a b) low high

-- the join is made
pub record IsJoined (old : List ℕ) (a b : ℕ) (above : List ℕ) : Type 0 where
  pub forest : IsForest above
  pub count : length above ≡ length old
  pub kept : (i j : ℕ) → LeadsUp old i j → Connected (LeadsUp above) i j
  pub ends : Connected (LeadsUp above) a b
  pub only : (i j : ℕ) → LeadsUp above i j → Connected (LeadsUpOr old a b) i j

pub begins : (above : List ℕ) (a b : ℕ) → IsForest above → a < length above → b < length above → IsJoining above a b above a b
begins above a b forest h g = record {
  forest = forest;
  count = refl;
  low_in = h;
  high_in = g;
  kept = λ i j l. connected_link i j (inl l);
  ends = connected_link a b (inr (refl, refl));
  only = λ i j l. connected_link i j (inl l);
  pair = connected_link a b (inr (refl, refl));
}

turned : (above : List ℕ) (a b i j : ℕ) → LeadsUpOr above a b i j → Connected (LeadsUpOr above b a) i j
turned above a b i j (inl l) = connected_link i j (inl l)
turned above a b i j (inr (e, f)) = connected_back j i (connected_link j i (inr (f, e)))

-- the pair may be named the other way around
pub exchanged : (old : List ℕ) (a b : ℕ) (above : List ℕ) (low high : ℕ) → IsJoining old a b above low high → IsJoining old a b above high low
exchanged old a b above low high is = record {
  forest = is.forest;
  count = is.count;
  low_in = is.high_in;
  high_in = is.low_in;
  kept = λ i j l. connected_by (turned above low high) i j (is.kept i j l);
  ends = connected_by (turned above low high) a b is.ends;
  only = is.only;
  pair = connected_back low high is.pair;
}

-- the pair is joined once the same number stands above both
pub joined_above : (old : List ℕ) (a b : ℕ) (above : List ℕ) (low high : ℕ) → IsJoining old a b above low high → get_or above low 0 ≡ get_or above high 0 → IsJoined old a b above
joined_above old a b above low high is same =
    let pair : Connected (LeadsUp above) low high =
    Connected.back low (get_or above low 0) high (connected_link low (get_or above low 0) (is.low_in, refl)) (is.high_in, sym same) in
    let each : (i j : ℕ) → LeadsUpOr above low high i j → Connected (LeadsUp above) i j =
    λ i j l. elim l as (λ _. Connected (LeadsUp above) i j) [
      | inl up ↦ connected_link i j up
      | inr ends ↦ subst (λ k. Connected (LeadsUp above) k j) (sym ends.0) (subst (λ k. Connected (LeadsUp above) low k) (sym ends.1) pair)
    ] in
    record {
      forest = is.forest;
      count = is.count;
      kept = λ i j l. connected_by each i j (is.kept i j l);
      ends = connected_by each a b is.ends;
      only = is.only;
    }

-- the lower number is put below what stands above the other; what stood above it is still to be joined with the other
pub lifted : (old : List ℕ) (a b : ℕ) (above : List ℕ) (low high : ℕ) → IsJoining old a b above low high → get_or above high 0 < get_or above low 0 →
    IsJoining old a b (set above low (get_or above high 0)) (get_or above low 0) high
lifted old a b above low high is below =
    let to = get_or above high 0 in
    let was = get_or above low 0 in
    let made = set above low to in
    let count : length made ≡ length above = length-set above low to in
    let differ : high ≢ low = λ e. absurd (omega (arith, below, ap (λ k. get_or above k 0) e)) in
    let here : get_or made low 0 ≡ to = get_or-set_same above low to 0 is.low_in in
    let other : (k : ℕ) → k ≢ low → get_or made k 0 ≡ get_or above k 0 = λ k ne. get_or-set_other above low k to 0 ne in
    let low_to : LeadsUp made low to = (omega (arith, count, is.low_in), here) in
    let high_to : LeadsUp made high to = (omega (arith, count, is.high_in), other high differ) in
    let low_high : Connected (LeadsUpOr made was high) low high = Connected.back low to high (connected_link low to (inl low_to)) (inl high_to) in
    let low_was : Connected (LeadsUpOr made was high) low was = Connected.back low high was low_high (inr (refl, refl)) in
    let up : (i j : ℕ) → LeadsUp above i j → Connected (LeadsUpOr made was high) i j =
    λ i j l. cases_same i low
    (λ e. subst (λ k. Connected (LeadsUpOr made was high) k j) (sym e) (subst (λ k. Connected (LeadsUpOr made was high) low k) (ap (λ k. get_or above k 0) (sym e) ∙ l.1) low_was))
    (λ ne. connected_link i j (inl (omega (arith, count, l.0), other i ne ∙ l.1))) in
    let each : (i j : ℕ) → LeadsUpOr above low high i j → Connected (LeadsUpOr made was high) i j =
    λ i j l. elim l as (λ _. Connected (LeadsUpOr made was high) i j) [
      | inl one ↦ up i j one
      | inr ends ↦ subst (λ k. Connected (LeadsUpOr made was high) k j) (sym ends.0) (subst (λ k. Connected (LeadsUpOr made was high) low k) (sym ends.1) low_high)
    ] in
    let high_up : Connected (LeadsUpOr old a b) high to = is.only high to (is.high_in, refl) in
    let low_up : Connected (LeadsUpOr old a b) low was = is.only low was (is.low_in, refl) in
    let low_made : Connected (LeadsUpOr old a b) low to = connected_on low high to is.pair high_up in
    record {
      forest = λ k h. cases_same k low
          (λ e. omega (arith, below, is.forest low is.low_in, ap (λ n. get_or made n 0) e, here))
          (λ ne. omega (arith, other k ne, is.forest k (omega (arith, h, count))));
      count = count ∙ is.count;
      low_in = omega (arith, count, is.low_in, is.forest low is.low_in);
      high_in = omega (arith, count, is.high_in);
      kept = λ i j l. connected_by each i j (is.kept i j l);
      ends = connected_by each a b is.ends;
      only = λ i j l. cases_same i low
          (λ e. subst (λ k. Connected (LeadsUpOr old a b) k j) (sym e) (subst (λ k. Connected (LeadsUpOr old a b) low k) (sym here ∙ ap (λ k. get_or made k 0) (sym e) ∙ l.1) low_made))
          (λ ne. is.only i j (omega (arith, count, l.0), sym (other i ne) ∙ l.1));
      pair = connected_on was low high (connected_back low was low_up) is.pair;
    }

-- a root is put below what stands above the other: nothing is left to be joined
pub rooted : (old : List ℕ) (a b : ℕ) (above : List ℕ) (low high : ℕ) → IsJoining old a b above low high → get_or above high 0 < get_or above low 0 → get_or above low 0 ≡ low →
    IsJoined old a b (set above low (get_or above high 0))
rooted old a b above low high is below root =
    let to = get_or above high 0 in
    let next = lifted old a b above low high is below in
    let differ : high ≢ low = λ e. absurd (omega (arith, below, ap (λ k. get_or above k 0) e)) in
    joined_above old a b (set above low to) (get_or above low 0) high next
    (ap (λ k. get_or (set above low to) k 0) root ∙ get_or-set_same above low to 0 is.low_in ∙ sym (get_or-set_other above low high to 0 differ))
