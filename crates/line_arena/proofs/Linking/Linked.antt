-- The lists of the lines, as a crossing is put into them or removed.
use Rattle.std.proofs.Common.{◌≡◌, ◌≢◌, ◌⊎◌, ℕ, ℤ, pos, ◌<ℤ◌, ◌≤ℤ◌, ◌-ℤ◌, Option, Some, None, inl, inr, refl, sym, ap, subst, ◌∙◌, arith}
use Rattle.std.proofs.lemmas.Int.{ints}
use Rattle.std.proofs.lemmas.Bool.{cases_eq}
use Rattle.plane_geom.specs.declared.point.Point.{Point}
use Rattle.plane_geom.specs.declared.point.Dir.{Dir}
use Rattle.plane_geom.specs.declared.point.Dir.TheVariants.{East, South, West, North}
use Rattle.plane_geom.specs.Point.{opposite}
use Rattle.plane_geom.specs.Along.{reach}
use Rattle.line_arena.specs.Lists.{AreApart, IsNext, Spot, Stands, line_along, without}
use Rattle.line_arena.proofs.Linking.Nearest.{IsPrevious}

pub reach-opposite : (d : Dir) (p : Point) → reach (opposite d) p ≡ (pos 0 -ℤ reach d p)
reach-opposite East p = refl
reach-opposite South p = refl
reach-opposite West p = omega (arith, ints)
reach-opposite North p = omega (arith, ints)

pub line_along-opposite : (d : Dir) (s : Spot) → line_along (opposite d) s ≡ line_along d s
line_along-opposite East s = refl
line_along-opposite South s = refl
line_along-opposite West s = refl
line_along-opposite North s = refl

turn_twice : (z : ℤ) → (pos 0 -ℤ (pos 0 -ℤ z)) ≡ z
turn_twice z = omega (arith, ints)

-- against the direction, a crossing stands at the negative of its coordinate
pub turned : (S : ℕ → Option Spot) (l : ℕ) (d : Dir) (c : ℕ) (z : ℤ) → Stands S l d c z → Stands S l (opposite d) c (pos 0 -ℤ z)
turned S l d c z h = record {
  spot = h.spot;
  is = h.is;
  line = line_along-opposite d h.spot ∙ h.line;
  along = reach-opposite d h.spot.point ∙ ap (λ w. pos 0 -ℤ w) h.along;
}

pub turned_back : (S : ℕ → Option Spot) (l : ℕ) (d : Dir) (c : ℕ) (z : ℤ) → Stands S l (opposite d) c z → Stands S l d c (pos 0 -ℤ z)
turned_back S l d c z h = record {
  spot = h.spot;
  is = h.is;
  line = sym (line_along-opposite d h.spot) ∙ h.line;
  along = sym (turn_twice (reach d h.spot.point)) ∙ ap (λ w. pos 0 -ℤ w) (sym (reach-opposite d h.spot.point) ∙ h.along);
}

-- what is nearest against the direction is nearest before
pub previous_of_next : (S : ℕ → Option Spot) (l : ℕ) (d : Dir) (p : Point) (answer : Option ℕ)
    → IsNext (Stands S l (opposite d)) (Some (reach (opposite d) p)) answer → IsPrevious (Stands S l d) (reach d p) answer
previous_of_next S l d p None h = λ c z here before.
    let e = reach-opposite d p in
    h c (pos 0 -ℤ z) (turned S l d c z here) (omega (arith, ints))
previous_of_next S l d p (Some q) h =
    let e = reach-opposite d p in
    let past : reach (opposite d) p <ℤ h.0 = h.2 in (
      pos 0 -ℤ h.0,
      turned_back S l d q h.0 h.1,
      omega (arith, ints),
      λ c z here before.
          let least : h.0 ≤ℤ (pos 0 -ℤ z) = h.3 c (pos 0 -ℤ z) (turned S l d c z here) (omega (arith, ints)) in
          omega (arith, ints),
    )

-- the spot of a crossing is its own
pub same_spot : (s t : Spot) (o : Option Spot) → o ≡ Some s → o ≡ Some t → s ≡ t
same_spot s t o e f = cc

pub without_other : (k : ℕ) (S : ℕ → Option Spot) (c : ℕ) → c ≢ k → without k S c ≡ S c
without_other k S c ne = grind (arith)

pub without_itself : (k : ℕ) (S : ℕ → Option Spot) (c : ℕ) → c ≡ k → without k S c ≡ None
without_itself k S c e = grind (arith)

pub without_some : (k : ℕ) (S : ℕ → Option Spot) (c : ℕ) (s : Spot) → without k S c ≡ Some s → (c ≢ k) × (S c ≡ Some s)
without_some k S c s h =
    elim (cases_eq c k) [
      | inl e ↦ absurd (grind (arith))
      | inr ne ↦ (ne, sym (without_other k S c ne) ∙ h)
    ]

module _ (S : ℕ → Option Spot) (k : ℕ) (d : Dir) where
  pub kept_in : (l c : ℕ) (z : ℤ) → Stands (without k S) l d c z → Stands S l d c z
  kept_in l c z h = record { spot = h.spot; is = (without_some k S c h.spot h.is).1; line = h.line; along = h.along }

  pub is_other : (l c : ℕ) (z : ℤ) → Stands (without k S) l d c z → c ≢ k
  is_other l c z h = (without_some k S c h.spot h.is).0

  pub kept_out : (l c : ℕ) (z : ℤ) → Stands S l d c z → c ≢ k → Stands (without k S) l d c z
  kept_out l c z h ne = record { spot = h.spot; is = without_other k S c ne ∙ h.is; line = h.line; along = h.along }

  module _ (spot : Spot) (is : S k ≡ Some spot) where
    pub own : Stands S (line_along d spot) d k (reach d spot.point)
    own = record { spot = spot; is = is; line = refl; along = refl }

    pub own_reach : (l : ℕ) (z : ℤ) → Stands S l d k z → z ≡ reach d spot.point
    own_reach l z h = sym h.along ∙ ap (λ s. reach d s.point) (same_spot h.spot spot (S k) h.is is)

    pub own_line : (l : ℕ) (z : ℤ) → Stands S l d k z → l ≡ line_along d spot
    own_line l z h = sym h.line ∙ ap (line_along d) (same_spot h.spot spot (S k) h.is is)

    pub grows : (l c : ℕ) (z : ℤ) → Stands S l d c z → Stands (without k S) l d c z ⊎ (z ≡ reach d spot.point)
    grows l c z h =
        elim (cases_eq c k) [
          | inl e ↦ inr (own_reach l z (subst (λ i. Stands S l d i z) e h))
          | inr ne ↦ inl (kept_out l c z h ne)
        ]

    -- on another line all is as before
    pub on_other : (l : ℕ) → l ≢ line_along d spot → (c : ℕ) (z : ℤ) → Stands S l d c z → Stands (without k S) l d c z
    on_other l ne c z h = kept_out l c z h (λ e. ne (own_line l z (subst (λ i. Stands S l d i z) e h)))

    module _ (apart : AreApart S d) where
      pub none_there : (c : ℕ) → Stands (without k S) (line_along d spot) d c (reach d spot.point) → ⊥
      none_there c h = is_other _ c _ h (apart _ c k _ (kept_in _ c _ h) own)

      pub alone : (c : ℕ) → Stands S (line_along d spot) d c (reach d spot.point) → c ≡ k
      alone c h = apart _ c k _ h own
