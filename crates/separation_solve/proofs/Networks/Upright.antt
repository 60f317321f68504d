-- What does not hang on which side is left.
use Rattle.std.proofs.Common.{◌≡◌, ℕ, ◌/◌, arith, Bool, true, false, ℤ, pos, neg_ℤ, List, [], ◌∷◌, map, length, slice_index, if◌then◌else◌, refl, ap, sym, ◌∙◌}
use Rattle.std.proofs.lemmas.List.{length-map}
use Rattle.separation_solve.specs.Block.{factorial, objective, squared}
use Rattle.separation_model.specs.Bundle.{int_at}
use Rattle.separation_solve.specs.Fraction.{most_weight}
use Rattle.separation_model.specs.Sum.{sum_below}
use Rattle.separation_solve.specs.declared.fraction.Fraction.{Fraction}
use Rattle.separation_solve.specs.declared.network.Network.{Network}
use Rattle.separation_model.specs.declared.bundle.Bundle.{Bundle}
use Rattle.separation_solve.specs.Network.{IsFrame, IsNetworkOf, IsSameBundle, KeepsBundle, items_of, place_at, turned_place, upright_places, upright_wants}
use Rattle.separation_solve.proofs.Networks.Mirrored.{int_at-negated, place_at-turned}
use Rattle.separation_model.proofs.Arithmetic.Ring.{ring, var, minus, ◌⊗◌, ◌⊖◌}
use Rattle.separation_model.proofs.Arithmetic.Sums.{sum_below-same}

-- the objective of lists, over a multiple of all denominators
objective_of : ℕ → List ℕ → List ℤ → List Fraction → ℤ
objective_of common weights wants places = sum_below (length wants) (λ i. squared common (slice_index weights i) (int_at wants i) (place_at places i))

squared-turned : (common weight : ℕ) (want : ℤ) (place : Fraction) → squared common weight (neg_ℤ want) (turned_place place) ≡ squared common weight want place
squared-turned common weight want place =
    ring (pos weight ∷ pos (common / place.den) ∷ place.num ∷ pos place.den ∷ want ∷ [])
    (var 0 ⊗ ((var 1 ⊗ (minus (var 2) ⊖ (var 3 ⊗ minus (var 4)))) ⊗ (var 1 ⊗ (minus (var 2) ⊖ (var 3 ⊗ minus (var 4))))))
    (var 0 ⊗ ((var 1 ⊗ (var 2 ⊖ (var 3 ⊗ var 4))) ⊗ (var 1 ⊗ (var 2 ⊖ (var 3 ⊗ var 4))))) refl

-- the same on either side
objective_of-upright : (common : ℕ) (b : Bool) (weights : List ℕ) (wants : List ℤ) (places : List Fraction) →
    objective_of common weights (if b then map neg_ℤ wants else wants) (if b then map turned_place places else places) ≡ objective_of common weights wants places
unfolding objective_of
objective_of-upright common false weights wants places = refl
objective_of-upright common true weights wants places =
    ap (λ k. sum_below k (λ i. squared common (slice_index weights i) (int_at (map neg_ℤ wants) i) (place_at (map turned_place places) i))) (length-map wants neg_ℤ)
    ∙ sum_below-same (length wants) (λ i. squared common (slice_index weights i) (int_at (map neg_ℤ wants) i) (place_at (map turned_place places) i)) (λ i. squared common (slice_index weights i) (int_at wants i) (place_at places i))
    (λ i h. ap (λ z. squared common (slice_index weights i) z (place_at (map turned_place places) i)) (int_at-negated wants i)
    ∙ ap (squared common (slice_index weights i) (neg_ℤ (int_at wants i))) (place_at-turned places i)
    ∙ squared-turned common (slice_index weights i) (int_at wants i) (place_at places i))

objective-upright : (n : Network) → objective n ≡ objective_of (factorial most_weight) n.weights.items (upright_wants n) (upright_places n)
unfolding objective_of
objective-upright n = sym (objective_of-upright (factorial most_weight) n.mirrored n.weights.items n.wants.items n.places.items)

-- networks of the same bundle with the same places have the same objective
pub same_objective : (old new : Network) → IsSameBundle old new → upright_places new ≡ upright_places old → objective new ≡ objective old
same_objective old new same places =
    let F = objective_of (factorial most_weight) in
    objective-upright new
    ∙ ap (λ ws. objective_of (factorial most_weight) ws (upright_wants new) (upright_places new)) same.weights
    ∙ ap (λ ws. objective_of (factorial most_weight) old.weights.items ws (upright_places new)) same.wants
    ∙ ap (objective_of (factorial most_weight) old.weights.items (upright_wants old)) places
    ∙ sym (objective-upright old)

-- the bundle's data that have not changed are of the same bundle
pub kept_same : {old new : Network} → KeepsBundle old new → IsSameBundle old new
kept_same keeps = record {
  links = rw (keeps.links, keeps.mirrored) refl;
  wants = rw (keeps.wants, keeps.mirrored) refl;
  weights = ap (λ weights. weights.items) keeps.weights;
}

pub kept_places : {old new : Network} → KeepsBundle old new → new.places ≡ old.places → upright_places new ≡ upright_places old
kept_places keeps places = rw (places, keeps.mirrored) refl

pub same_on : {old mid new : Network} → IsSameBundle old mid → IsSameBundle mid new → IsSameBundle old new
same_on same on = record { links = on.links ∙ same.links; wants = on.wants ∙ same.wants; weights = on.weights ∙ same.weights }

pub network_on : {b : Bundle} {gap : ℤ} {old new : Network} → IsNetworkOf b gap old → IsSameBundle old new → IsNetworkOf b gap new
network_on is on = record { links = on.links ∙ is.links; wants = on.wants ∙ is.wants; weights = on.weights ∙ is.weights }

pub same_items : {old new : Network} → IsSameBundle old new → IsFrame old → IsFrame new → items_of old ≡ items_of new
same_items same was now = omega (arith, was.weights, now.weights, ap length same.weights)
