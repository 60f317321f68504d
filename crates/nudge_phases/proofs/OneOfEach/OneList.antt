-- Lists in one strict order that hold the same elements are equal.
use Rattle.std.proofs.Common.{◌≡◌, ℕ, zero, suc, ◌<◌, List, [], ◌∷◌, length, get_or, refl, sym, ap, subst, ◌∙◌, arith}
use Rattle.std.specs.Prelude.{Contains, All, AllPairs}
use Rattle.std.proofs.lemmas.List.{get_or_default, get_or-map, length-map}
use Rattle.std.proofs.lemmas.List.Elements.{All-contains, Contains-get_or, Contains-append_right}
use Rattle.channel_bundles.specs.Classes.{AreClasses, Rise}

module _ {X : Type 0} (R : X → X → Type 0) (one_way : (x y : X) → R x y → R y x → ⊥) where
  after_head : (x : X) (xs : List X) → AllPairs R (x ∷ xs) → (y : X) → Contains xs y → R x y
  after_head x xs pairs y has = subst (R x) has.2 (pairs 0 (suc has.0) y (omega arith) (omega (arith, has.1)))

  same_head : (x y : X) (xs ys : List X) → AllPairs R (x ∷ xs) → AllPairs R (y ∷ ys) → Contains (y ∷ ys) x → Contains (x ∷ xs) y → x ≡ y
  same_head x y xs ys p q (zero, h, e) has = sym e
  same_head x y xs ys p q (suc k, h, e) (zero, g, f) = f
  same_head x y xs ys p q (suc k, h, e) (suc j, g, f) = absurd (one_way y x (after_head y ys q x (k, omega (arith, h), e)) (after_head x xs p y (j, omega (arith, g), f)))

  in_tail : (x y z : X) (xs ys : List X) → x ≡ y → AllPairs R (x ∷ xs) → Contains xs z → Contains (y ∷ ys) z → Contains ys z
  in_tail x y z xs ys e p has (zero, h, f) = let r = subst (R x) (sym (e ∙ f)) (after_head x xs p z has) in absurd (one_way x x r r)
  in_tail x y z xs ys e p has (suc k, h, f) = (k, omega (arith, h), f)

  tail_pairs : (x : X) (xs : List X) → AllPairs R (x ∷ xs) → AllPairs R xs
  tail_pairs x xs pairs i j d h g = pairs (suc i) (suc j) d (omega arith) (omega arith)

  pub same_sorted : (xs ys : List X) → AllPairs R xs → AllPairs R ys → ((z : X) → Contains xs z → Contains ys z) → ((z : X) → Contains ys z → Contains xs z) → xs ≡ ys
  same_sorted [] [] p q f g = refl
  same_sorted [] (y ∷ ys) p q f g = let has = g y (0, omega arith, refl) in absurd (omega (arith, has.1))
  same_sorted (x ∷ xs) [] p q f g = let has = f x (0, omega arith, refl) in absurd (omega (arith, has.1))
  same_sorted (x ∷ xs) (y ∷ ys) p q f g =
      let head : x ≡ y = same_head x y xs ys p q (f x (0, omega arith, refl)) (g y (0, omega arith, refl)) in
      ap (λ z. z ∷ xs) head ∙ ap (λ zs. y ∷ zs) (same_sorted xs ys (tail_pairs x xs p) (tail_pairs y ys q)
      (λ z has. in_tail x y z xs ys head p has (f z (Contains-append_right (x ∷ []) xs z has)))
      (λ z has. in_tail y x z ys xs (sym head) q has (g z (Contains-append_right (y ∷ []) ys z has))))

-- numbers that rise
rising_pairs : (xs : List ℕ) → Rise xs → AllPairs (λ m n. m < n) xs
rising_pairs xs rise i j d h g = omega (arith, rise i j h g, get_or_default xs i d 0 (omega arith), get_or_default xs j d 0 g)

pub same_rising : (xs ys : List ℕ) → Rise xs → Rise ys → ((z : ℕ) → Contains xs z → Contains ys z) → ((z : ℕ) → Contains ys z → Contains xs z) → xs ≡ ys
same_rising xs ys r s = same_sorted (λ m n. m < n) (λ m n h g. absurd (omega (arith, h, g))) xs ys (rising_pairs xs r) (rising_pairs ys s)

-- the classes of one relation
module _ (connected : ℕ → ℕ → Type 0) (count : ℕ) where
  IsBefore : List ℕ → List ℕ → Type 0
  IsBefore c d = get_or c 0 0 < get_or d 0 0

  in_order : (cs : List (List ℕ)) → AreClasses connected count cs → AllPairs IsBefore cs
  unfolding IsBefore
  in_order cs are i j d h g =
      let first : List ℕ → ℕ = λ places. get_or places 0 0 in
      let rise = are.firsts i j h (rw (length-map cs first) g) in
      omega (arith, rise, get_or-map first cs i d 0 (omega arith), get_or-map first cs j d 0 g)

  class_there : (cs ds : List (List ℕ)) → AreClasses connected count cs → AreClasses connected count ds → (c : List ℕ) → Contains cs c → Contains ds c
  class_there cs ds are other c has =
      let some : 0 < length c = All-contains (λ (places : List ℕ). 0 < length places) cs c are.some has in
      let i = get_or c 0 0 in
      let in_c : Contains c i = Contains-get_or c 0 0 some in
      let below : (z : ℕ) → Contains c z → z < count = λ z in_there. All-contains (λ j. j < count) c z (All-contains (All (λ j. j < count)) cs c are.within has) in_there in
      let found = other.whole i (below i in_c) in
      let d = found.0 in
      let has_d : Contains ds d = found.1 in
      let in_d : Contains d i = found.2 in
      let below_d : (z : ℕ) → Contains d z → z < count = λ z in_there. All-contains (λ j. j < count) d z (All-contains (All (λ j. j < count)) ds d other.within has_d) in_there in
      let same : d ≡ c = same_rising d c (All-contains Rise ds d other.rising has_d) (All-contains Rise cs c are.rising has)
      (λ z there. (are.linked c i z has in_c (below_d z there)).1 ((other.linked d i z has_d in_d (below_d z there)).0 there))
      (λ z there. (other.linked d i z has_d in_d (below z there)).1 ((are.linked c i z has in_c (below z there)).0 there)) in
      subst (Contains ds) same has_d

  pub same_classes : (cs ds : List (List ℕ)) → AreClasses connected count cs → AreClasses connected count ds → cs ≡ ds
  unfolding IsBefore
  same_classes cs ds are other =
      same_sorted IsBefore (λ c d h g. absurd (omega (arith, h, g))) cs ds (in_order cs are) (in_order ds other)
      (class_there cs ds are other) (class_there ds cs other are)
