-- Places are one or they differ.
use Rattle.std.proofs.Common.{◌≡◌, ◌≢◌, ◌⊎◌, ◌<◌, sym, ap, ◌∙◌, inl, inr, arith}
use Rattle.std.proofs.lemmas.Bool.{cases_eq}
use Rattle.walk_model.specs.Cost.{turn}
use Rattle.walk_model.proofs.CornerByCorner.Bends.{one_direction, turn_same}
use Rattle.move_model.specs.declared.place.Place.{Place}

-- two places are one or they differ
pub one_place : (x y : Place) → (x ≡ y) ⊎ (x ≢ y)
one_place x y = by_crossing (cases_eq x.crossing y.crossing)
  where
    by_heading : x.crossing ≡ y.crossing → x.stage ≡ y.stage → (x.heading ≡ y.heading) ⊎ (0 < turn x.heading y.heading) → (x ≡ y) ⊎ (x ≢ y)
    by_heading c s (inl h) = inl (λ i. record { crossing = c i; stage = s i; heading = h i })
    by_heading c s (inr h) = inr (λ (e : x ≡ y). let bent : turn x.heading y.heading ≡ 0 = ap (λ (z : Place). turn x.heading z.heading) (sym e) ∙ turn_same x.heading in omega (arith, bent, h))

    by_stage : x.crossing ≡ y.crossing → (x.stage ≡ y.stage) ⊎ (x.stage ≡ y.stage → ⊥) → (x ≡ y) ⊎ (x ≢ y)
    by_stage c (inl s) = by_heading c s (one_direction x.heading y.heading)
    by_stage c (inr s) = inr (λ (e : x ≡ y). s (ap (λ (z : Place). z.stage) e))

    by_crossing : (x.crossing ≡ y.crossing) ⊎ (x.crossing ≡ y.crossing → ⊥) → (x ≡ y) ⊎ (x ≢ y)
    by_crossing (inl c) = by_stage c (cases_eq x.stage y.stage)
    by_crossing (inr c) = inr (λ (e : x ≡ y). c (ap (λ (z : Place). z.crossing) e))
