-- A line that is not near what differs between two floors is a kept line of both, or of neither.
use Rattle.std.proofs.Common.{◌≡◌, ◌⊎◌, inl, inr, ℤ, ◌≤ℤ◌, ◌<ℤ◌, true, false, get_or, Contains, refl, sym, subst, ◌∙◌, arith}
use Rattle.std.specs.Prelude.{Any}
use Rattle.std.proofs.lemmas.Int.{ints}
use Rattle.std.proofs.lemmas.List.Elements.{All-contains, Contains-get_or}
use Rattle.plane_geom.specs.declared.point.Point.{Point}
use Rattle.plane_geom.specs.declared.point.Way.{Way}
use Rattle.plane_geom.specs.declared.point.Way.TheVariants.{Vertical, Horizontal}
use Rattle.plane_geom.specs.declared.rect.Rect.{Rect}
use Rattle.plane_geom.specs.declared.rect.Solid.{Solid}
use Rattle.plane_geom.specs.declared.floor.Line.{Line}
use Rattle.plane_geom.specs.declared.floor.Floor.{Floor}
use Rattle.plane_geom.specs.Along.{across}
use Rattle.plane_geom.specs.Rect.{HasWithin, Meets}
use Rattle.plane_geom.specs.Floor.{AreOnOneWholeLine, Holds, IsFreePiece, IsKept, SharesSide, first_point, first_side, last_point, last_side}
use Rattle.sweep_lines.specs.Bars.{bar_of, far_corner, near_corner}
use Rattle.sweep_lines.specs.Kept.{is_within, is_near}
use Rattle.sweep_lines.proofs.Members.{among_of_any, among_of_contains, any_of_among, contains_of_among}
use Rattle.sweep_lines.proofs.Sides.{bar_of_side, blocks_of_meets}
use Rattle.sweep_lines.proofs.KeptAt.{held_across}
use Rattle.sweep_lines.proofs.KeptLines.{near_passes}
use Rattle.graph_repair.specs.Hull.{IsAloneWithin}

-- both corners of the solid lie in the rectangle
abbrev IsCovered : Rect → Solid → Type 0
IsCovered hull s = HasWithin hull (near_corner s.rect) × HasWithin hull (far_corner s.rect)

-- where a point of the rectangle lies across a way
across_hull : (hull : Rect) (way : Way) (p : Point) → HasWithin hull p → (first_side way hull ≤ℤ across way p) × (across way p ≤ℤ last_side way hull)
across_hull hull Vertical p w = (w.left, w.right)
across_hull hull Horizontal p w = (w.top, w.bottom)

module _ (hull : Rect) (l : Line) where
  near_at : (z : ℤ) → z ≡ l.at → (first_side l.way hull ≤ℤ z) × (z ≤ℤ last_side l.way hull) → is_near hull l ≡ true
  near_at z e h =
      near_passes hull l.way l
      (record { way_is = refl; from = subst (λ z. first_side l.way hull ≤ℤ z) e h.0; to = subst (λ z. z ≤ℤ last_side l.way hull) e h.1 })

  near_of_side : (s : Solid) → IsCovered hull s → ((bar_of l.way s.rect).begin ≡ l.at) ⊎ ((bar_of l.way s.rect).end ≡ l.at) → is_near hull l ≡ true
  near_of_side s w (inl e) = near_at (bar_of l.way s.rect).begin e (across_hull hull l.way (near_corner s.rect) w.0)
  near_of_side s w (inr e) = near_at (bar_of l.way s.rect).end e (across_hull hull l.way (far_corner s.rect) w.1)

  near_of_crossed : (s : Solid) → IsCovered hull s → (bar_of l.way s.rect).begin <ℤ l.at → l.at <ℤ (bar_of l.way s.rect).end → is_near hull l ≡ true
  near_of_crossed s w begun not_ended =
      let first : first_side l.way hull ≤ℤ (bar_of l.way s.rect).begin = (across_hull hull l.way (near_corner s.rect) w.0).0 in
      let last : (bar_of l.way s.rect).end ≤ℤ last_side l.way hull = (across_hull hull l.way (far_corner s.rect) w.1).1 in
      near_passes hull l.way l (record { way_is = refl; from = omega (arith, ints); to = omega (arith, ints) })

  module _ (a b : Floor) (differ : IsAloneWithin hull a b) (far : is_near hull l ≡ false) where
    not_near : is_near hull l ≡ true → ⊥
    not_near e = let both : true ≡ false = sym e ∙ far in cc

    -- what would make the line near is on both floors
    other_solid : (s : Solid) → Contains a.solids s → (IsCovered hull s → is_near hull l ≡ true) → Contains b.solids s
    other_solid s c near = elim (All-contains (λ s. Contains b.solids s ⊎ IsCovered hull s) a.solids s differ.solids c) as (λ _. Contains b.solids s) [
      | inl there ↦ there
      | inr covered ↦ absurd (not_near (near covered))
    ]

    other_anchor : (p : Point) → Contains a.anchors p → across l.way p ≡ l.at → Contains b.anchors p
    other_anchor p c e = elim (All-contains (λ p. Contains b.anchors p ⊎ (HasWithin hull p × HasWithin hull p)) a.anchors p differ.anchors c) as (λ _. Contains b.anchors p) [
      | inl there ↦ there
      | inr covered ↦ absurd (not_near (near_at (across l.way p) e (across_hull hull l.way p covered.0)))
    ]

    -- a piece that is free on the other floor is free on this one
    free_here : IsFreePiece b l → IsFreePiece a l
    free_here f = record {
      at = f.at;
      lo = f.lo;
      hi = f.hi;
      ordered = f.ordered;
      free = λ k d less meets.
          let s : Solid = get_or a.solids k d in
          let blocks = blocks_of_meets s.rect l.way l.at l.lo l.hi f.ordered meets in
          let there = other_solid s (Contains-get_or a.solids k d less) (λ w. near_of_crossed s w blocks.begun blocks.not_ended) in
          All-contains (λ s. Meets s.rect (first_point l) (last_point l) → ⊥) b.solids s f.free there meets;
    }

    side_there : Any (λ s. SharesSide l s.rect) a.solids → Any (λ s. SharesSide l s.rect) b.solids
    side_there x =
        let s : Solid = x.1 in
        let shares : SharesSide l s.rect = x.4 in
        let side = bar_of_side s.rect l.way l.at shares.0 shares.1 shares.2 in
        let there = other_solid s (contains_of_among a.solids s (among_of_any (λ s. SharesSide l s.rect) a.solids x)) (λ w. near_of_side s w side.0) in
        any_of_among (λ s. SharesSide l s.rect) b.solids s (among_of_contains b.solids s there) shares

    anchor_there : Any (Holds l) a.anchors → Any (Holds l) b.anchors
    anchor_there x =
        let p : Point = x.1 in
        let holds : Holds l p = x.4 in
        let there = other_anchor p (contains_of_among a.anchors p (among_of_any (Holds l) a.anchors x)) (held_across l.way l.at holds.along p holds.here).0 in
        any_of_among (Holds l) b.anchors p (among_of_contains b.anchors p there) holds

near_alike : (hull : Rect) (l m : Line) → AreOnOneWholeLine l m → is_near hull l ≡ is_near hull m
near_alike hull l m same = λ i. is_within (first_side (same.way i) hull) (last_side (same.way i) hull) (same.at i)

-- a kept line of the one floor that is not near is one of the other
pub kept_far : (hull : Rect) (a b : Floor) → IsAloneWithin hull a b → IsAloneWithin hull b a → (l : Line) → is_near hull l ≡ false → IsKept a l → IsKept b l
kept_far hull a b there back l far k = record {
  longest = record {
    piece = free_here hull l b a back far k.longest.piece;
    longest = λ m f same lo hi. k.longest.longest m (free_here hull m a b there (sym (near_alike hull l m same) ∙ far) f) same lo hi;
  };
  reason = elim k.reason as (λ _. ((l.lo <ℤ l.hi) × Any (λ s. SharesSide l s.rect) b.solids) ⊎ Any (Holds l) b.anchors) [
    | inl side ↦ inl (side.0, side_there hull l a b there far side.1)
    | inr anchor ↦ inr (anchor_there hull l a b there far anchor)
  ];
}
