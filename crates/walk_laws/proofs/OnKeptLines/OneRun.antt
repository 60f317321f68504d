-- Between two points of one free piece a part of a first walk is straight.
use Rattle.std.proofs.Common.{◌≡◌, ℕ, suc, zero, ◌+◌, ◌<◌, ℤ, ◌≤ℤ◌, None, List, replicate, get_or, All, refl, sym, ap, subst, ◌∙◌, inl, inr, arith}
use Rattle.std.proofs.lemmas.Int.{ints, by_lt_z}
use Rattle.plane_geom.specs.declared.point.Point.{Point}
use Rattle.plane_geom.specs.declared.point.Dir.{Dir}
use Rattle.plane_geom.specs.declared.point.Way.{Way}
use Rattle.plane_geom.specs.declared.point.Way.TheVariants.{Vertical, Horizontal}
use Rattle.plane_geom.specs.declared.floor.Line.{Line}
use Rattle.plane_geom.specs.declared.floor.Floor.{Floor}
use Rattle.plane_geom.specs.declared.rect.Solid.{Solid}
use Rattle.plane_geom.specs.Point.{IsStraight, forward, heading, distance}
use Rattle.plane_geom.specs.Rect.{Meets}
use Rattle.plane_geom.specs.Floor.{Holds, IsFreePiece, point_on}
use Rattle.plane_geom.proofs.Steps.{from_step}
use Rattle.plane_geom.proofs.Headings.{straight_end}
use Rattle.plane_geom.proofs.LongestPiece.{meets_barred, barred_meets}
use Rattle.walk_model.specs.declared.task.Task.{Task}
use Rattle.walk_model.specs.Walk.{after}
use Rattle.walk_model.specs.Order.{Triple, IsFirst}
use Rattle.walk_model.proofs.CornerByCorner.Scan.{forward-forward, forward-zero}
use Rattle.walk_laws.proofs.Steps.Clear.{IsClear, IsClearStep}
use Rattle.walk_laws.proofs.Replacing.Parts.{IsPart, straight_part}
use Rattle.walk_laws.proofs.OnKeptLines.KeptSteps.{meets_back}

-- what two points of a free piece have between them is free
between_free : (floor : Floor) (way : Way) (at lo hi y z : ℤ) → IsFreePiece floor (record { way = way; at = at; lo = lo; hi = hi }) → lo ≤ℤ y → y ≤ℤ hi → lo ≤ℤ z → z ≤ℤ hi →
    All (λ s. Meets s.rect (point_on way at y) (point_on way at z) → ⊥) floor.solids
between_free floor way at lo hi y z f a b c d k s inside m =
    let r = (get_or floor.solids k s).rect in
    by_lt_z z y
    (λ l. let w = barred_meets r way at z y (omega (arith, ints, l)) (meets_back r (point_on way at y) (point_on way at z) m) in
    f.free k s inside (meets_barred r way at lo hi w.0 f.ordered (omega (arith, ints, w.1, c)) (omega (arith, ints, w.2, b))))
    (λ l. let w = barred_meets r way at y z l m in
    f.free k s inside (meets_barred r way at lo hi w.0 f.ordered (omega (arith, ints, w.1, a)) (omega (arith, ints, w.2, d))))

clear_from_steps : (solids : List Solid) (p : Point) (d : Dir) (n : ℕ) → ((k : ℕ) → k < n → IsClearStep solids None (forward d k p) d) → IsClear solids None p (replicate n d)
clear_from_steps solids p d zero h = tt
clear_from_steps solids p d (suc n) h = (
  subst (λ x. IsClearStep solids None x d) (forward-zero d p) (h 0 (omega arith)),
  clear_from_steps solids (forward d 1 p) d n (λ k l. subst (λ x. IsClearStep solids None x d) (sym (forward-forward d k 1 p ∙ ap (λ m. forward d m p) (omega arith))) (h (k + 1) (omega arith))),
)

not_met_clear : (solids : List Solid) (p : Point) (d : Dir) (n : ℕ) → All (λ s. Meets s.rect p (forward d n p) → ⊥) solids → IsClear solids None p (replicate n d)
not_met_clear solids p d n h = clear_from_steps solids p d n (λ k l i s inside other m. h i s inside (from_step (get_or solids i s).rect p d n (k, l, m)))

straight_on : (way : Way) (at y z : ℤ) → IsStraight (point_on way at y) (point_on way at z)
straight_on Vertical at y z = inl refl
straight_on Horizontal at y z = inr refl

-- two points that one free piece holds
pub record AreJoined (solids : List Solid) (p q : Point) : Type 0 where
  pub straight : IsStraight p q
  pub clear : IsClear solids None p (replicate (distance p q) (heading p q))

pub joined_on_piece : (floor : Floor) (l : Line) (p q : Point) → IsFreePiece floor l → Holds l p → Holds l q → AreJoined floor.solids p q
joined_on_piece floor l p q f h k =
    let a = point_on l.way l.at h.along in
    let b = point_on l.way l.at k.along in
    let straight : IsStraight p q = subst (λ x. IsStraight x q) (sym h.here) (subst (IsStraight a) (sym k.here) (straight_on l.way l.at h.along k.along)) in
    let free : All (λ s. Meets s.rect p q → ⊥) floor.solids =
    subst (λ x. All (λ s. Meets s.rect x q → ⊥) floor.solids) (sym h.here) (subst (λ x. All (λ s. Meets s.rect a x → ⊥) floor.solids) (sym k.here)
    (between_free floor l.way l.at l.lo l.hi h.along k.along f h.from h.to k.from k.to)) in
    record {
      straight = straight;
      clear = not_met_clear floor.solids p (heading p q) (distance p q) (subst (λ x. All (λ s. Meets s.rect p x → ⊥) floor.solids) (sym (straight_end p q straight)) free);
    }

-- between two points of one free piece, a part of a first walk is straight
pub straight_on_piece : (floor : Floor) (task : Task) (t : Triple) → IsFirst floor.solids task t → (front part back : List Dir) → IsPart floor.solids task t front part back →
    (l : Line) → IsFreePiece floor l → Holds l (after t.walk.start front) → Holds l (after (after t.walk.start front) part) →
    part ≡ replicate (distance (after t.walk.start front) (after (after t.walk.start front) part)) (heading (after t.walk.start front) (after (after t.walk.start front) part))
straight_on_piece floor task t first front part back h l f a b =
    let p = after t.walk.start front in
    let q = after p part in
    let joined = joined_on_piece floor l p q f a b in
    straight_part floor.solids task t first front part back (heading p q) (distance p q) h (sym (straight_end p q joined.straight)) joined.clear
