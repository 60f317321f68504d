-- A solid that meets a step beside a run holds a step of the run inside, or has its side to there under it.
use Rattle.std.proofs.Common.{◌≡◌, ◌⊎◌, ℕ, ◌≤◌, pos, ◌+ℤ◌, ◌-ℤ◌, refl, sym, subst, inl, inr, arith}
use Rattle.std.proofs.lemmas.Int.{ints, by_lt_z}
use Rattle.plane_geom.specs.declared.point.Point.{Point}
use Rattle.plane_geom.specs.declared.point.Dir.{Dir}
use Rattle.plane_geom.specs.declared.point.Dir.TheVariants.{East, South, West, North}
use Rattle.plane_geom.specs.declared.point.Way.{Way}
use Rattle.plane_geom.specs.declared.floor.Line.{Line}
use Rattle.plane_geom.specs.declared.rect.Rect.{Rect}
use Rattle.plane_geom.specs.Point.{forward}
use Rattle.plane_geom.specs.Rect.{StepMeets, HasWithin}
use Rattle.plane_geom.specs.Floor.{Holds, SharesSide, SideOn}
use Rattle.walk_model.specs.Cost.{turn}
use Rattle.walk_laws.specs.Lines.{run_line}
use Rattle.walk_laws.specs.Sides.{SharesSideTo}

-- the line of a run holds each of its points
pub run_holds : (p : Point) (d : Dir) (n k : ℕ) → k ≤ n → Holds (run_line p d n) (forward d k p)
run_holds p East n k h = record { along = p.x +ℤ pos k; from = omega (arith, ints); to = omega (arith, ints); here = refl }
run_holds p South n k h = record { along = p.y +ℤ pos k; from = omega (arith, ints); to = omega (arith, ints); here = refl }
run_holds p West n k h = record { along = p.x -ℤ pos k; from = omega (arith, ints); to = omega (arith, ints); here = refl }
run_holds p North n k h = record { along = p.y -ℤ pos k; from = omega (arith, ints); to = omega (arith, ints); here = refl }

-- a side from which the solid lies in some direction is a side
pub shares_side : (side : Dir) (l : Line) (r : Rect) → SharesSideTo side l r → SharesSide l r
shares_side East l r h = (r.top, r.bottom, subst (λ (w : Way). SideOn r w l.at r.top r.bottom) (sym h.0) (inl h.1, refl, refl), h.2, h.3)
shares_side South l r h = (r.left, r.right, subst (λ (w : Way). SideOn r w l.at r.left r.right) (sym h.0) (inl h.1, refl, refl), h.2, h.3)
shares_side West l r h = (r.top, r.bottom, subst (λ (w : Way). SideOn r w l.at r.top r.bottom) (sym h.0) (inr h.1, refl, refl), h.2, h.3)
shares_side North l r h = (r.left, r.right, subst (λ (w : Way). SideOn r w l.at r.left r.right) (sym h.0) (inr h.1, refl, refl), h.2, h.3)

-- the unit square beside a step lies in the closed rectangle
pub record HasSquare (r : Rect) (p : Point) (d u : Dir) : Type 0 where
  pub near : HasWithin r p
  pub far : HasWithin r (forward u 1 (forward d 1 p))

-- what holds the square beside a step has the step inside, or its side to there under it
pub inside_or_side : (r : Rect) (p : Point) (d u : Dir) → turn u d ≡ 1 → HasSquare r p d u → StepMeets r p d ⊎ SharesSideTo u (run_line p d 1) r
inside_or_side r p East South h s = by_lt_z r.top p.y
    (λ l. inl (l, omega (arith, ints, s.far.bottom), s.near.left, s.far.right))
    (λ l. inr (refl, omega (arith, ints, s.near.top), omega (arith, ints, s.near.right), omega (arith, ints, s.far.right, s.near.left)))
inside_or_side r p East North h s = by_lt_z p.y r.bottom
    (λ l. inl (omega (arith, ints, s.far.top), l, s.near.left, s.far.right))
    (λ l. inr (refl, omega (arith, ints, s.near.bottom), omega (arith, ints, s.near.right), omega (arith, ints, s.far.right, s.near.left)))
inside_or_side r p West South h s = by_lt_z r.top p.y
    (λ l. inl (l, omega (arith, ints, s.far.bottom), s.far.left, s.near.right))
    (λ l. inr (refl, omega (arith, ints, s.near.top), omega (arith, ints, s.near.right), omega (arith, ints, s.far.left, s.near.left)))
inside_or_side r p West North h s = by_lt_z p.y r.bottom
    (λ l. inl (omega (arith, ints, s.far.top), l, s.far.left, s.near.right))
    (λ l. inr (refl, omega (arith, ints, s.near.bottom), omega (arith, ints, s.near.right), omega (arith, ints, s.far.left, s.near.left)))
inside_or_side r p South East h s = by_lt_z r.left p.x
    (λ l. inl (l, omega (arith, ints, s.far.right), s.near.top, s.far.bottom))
    (λ l. inr (refl, omega (arith, ints, s.near.left), omega (arith, ints, s.near.bottom), omega (arith, ints, s.far.bottom, s.near.top)))
inside_or_side r p South West h s = by_lt_z p.x r.right
    (λ l. inl (omega (arith, ints, s.far.left), l, s.near.top, s.far.bottom))
    (λ l. inr (refl, omega (arith, ints, s.near.right), omega (arith, ints, s.near.bottom), omega (arith, ints, s.far.bottom, s.near.top)))
inside_or_side r p North East h s = by_lt_z r.left p.x
    (λ l. inl (l, omega (arith, ints, s.far.right), s.far.top, s.near.bottom))
    (λ l. inr (refl, omega (arith, ints, s.near.left), omega (arith, ints, s.near.bottom), omega (arith, ints, s.far.top, s.near.top)))
inside_or_side r p North West h s = by_lt_z p.x r.right
    (λ l. inl (omega (arith, ints, s.far.left), l, s.far.top, s.near.bottom))
    (λ l. inr (refl, omega (arith, ints, s.near.right), omega (arith, ints, s.near.bottom), omega (arith, ints, s.far.top, s.near.top)))
inside_or_side _ _ _ _ h s = absurd (omega (arith, h))

-- a rectangle that meets another edge of the square holds the square
pub beside_square : (r : Rect) (p : Point) (d u : Dir) → turn u d ≡ 1 → StepMeets r (forward u 1 p) d → HasSquare r p d u
beside_square r p East East h m = absurd (omega (arith, h))
beside_square r p South South h m = absurd (omega (arith, h))
beside_square r p West West h m = absurd (omega (arith, h))
beside_square r p North North h m = absurd (omega (arith, h))
beside_square r p _ _ h m = record {
  near = record { left = omega (arith, ints, h, m.0, m.1, m.2, m.3); right = omega (arith, ints, h, m.0, m.1, m.2, m.3); top = omega (arith, ints, h, m.0, m.1, m.2, m.3); bottom = omega (arith, ints, h, m.0, m.1, m.2, m.3) };
  far = record { left = omega (arith, ints, h, m.0, m.1, m.2, m.3); right = omega (arith, ints, h, m.0, m.1, m.2, m.3); top = omega (arith, ints, h, m.0, m.1, m.2, m.3); bottom = omega (arith, ints, h, m.0, m.1, m.2, m.3) };
}

pub begin_square : (r : Rect) (p : Point) (d u : Dir) → turn u d ≡ 1 → StepMeets r p u → HasSquare r p d u
begin_square r p East East h m = absurd (omega (arith, h))
begin_square r p South South h m = absurd (omega (arith, h))
begin_square r p West West h m = absurd (omega (arith, h))
begin_square r p North North h m = absurd (omega (arith, h))
begin_square r p _ _ h m = record {
  near = record { left = omega (arith, ints, h, m.0, m.1, m.2, m.3); right = omega (arith, ints, h, m.0, m.1, m.2, m.3); top = omega (arith, ints, h, m.0, m.1, m.2, m.3); bottom = omega (arith, ints, h, m.0, m.1, m.2, m.3) };
  far = record { left = omega (arith, ints, h, m.0, m.1, m.2, m.3); right = omega (arith, ints, h, m.0, m.1, m.2, m.3); top = omega (arith, ints, h, m.0, m.1, m.2, m.3); bottom = omega (arith, ints, h, m.0, m.1, m.2, m.3) };
}

pub end_square : (r : Rect) (p : Point) (d u : Dir) → turn u d ≡ 1 → StepMeets r (forward d 1 p) u → HasSquare r p d u
end_square r p East East h m = absurd (omega (arith, h))
end_square r p South South h m = absurd (omega (arith, h))
end_square r p West West h m = absurd (omega (arith, h))
end_square r p North North h m = absurd (omega (arith, h))
end_square r p _ _ h m = record {
  near = record { left = omega (arith, ints, h, m.0, m.1, m.2, m.3); right = omega (arith, ints, h, m.0, m.1, m.2, m.3); top = omega (arith, ints, h, m.0, m.1, m.2, m.3); bottom = omega (arith, ints, h, m.0, m.1, m.2, m.3) };
  far = record { left = omega (arith, ints, h, m.0, m.1, m.2, m.3); right = omega (arith, ints, h, m.0, m.1, m.2, m.3); top = omega (arith, ints, h, m.0, m.1, m.2, m.3); bottom = omega (arith, ints, h, m.0, m.1, m.2, m.3) };
}
