-- Solids with the same numbers are one.
use Rattle.std.proofs.Common.{◌≡◌, Bool, true, ◌&&◌, ℤ, refl, sym, subst, ◌∙◌}
use Rattle.std.specs.Ordering.{int_eq}
use Rattle.std.proofs.lemmas.Bool.Decides.{Decides-int_eq}
use Rattle.plane_geom.specs.declared.rect.Solid.{Solid}
use Rattle.sweep_lines.proofs.KeptAt.{and_both, and_left, and_right}
use Rattle.graph_repair.proofs.hull.SolidPlaced.is_same.Goals as goal

-- what the program tests
abbrev same_rest : Solid → Solid → Bool
same_rest s t = int_eq s.rect.left t.rect.left && (int_eq s.rect.top t.rect.top && (int_eq s.rect.right t.rect.right && int_eq s.rect.bottom t.rect.bottom))

same_number : (a b : ℤ) → int_eq a b ≡ true → a ≡ b
same_number a b e = (Decides-int_eq a b).0 e

itself : (a : ℤ) → int_eq a a ≡ true
itself a = (Decides-int_eq a a).1 refl

one_solid : (s t : Solid) → (int_eq s.node t.node && same_rest s t) ≡ true → s ≡ t
one_solid s t e =
    let f = and_right (int_eq s.node t.node) (same_rest s t) e in
    let g = and_right (int_eq s.rect.left t.rect.left) _ f in
    let h = and_right (int_eq s.rect.top t.rect.top) _ g in
    let node = same_number s.node t.node (and_left _ (same_rest s t) e) in
    let left = same_number s.rect.left t.rect.left (and_left _ _ f) in
    let top = same_number s.rect.top t.rect.top (and_left _ _ g) in
    let right = same_number s.rect.right t.rect.right (and_left _ _ h) in
    let bottom = same_number s.rect.bottom t.rect.bottom (and_right (int_eq s.rect.right t.rect.right) _ h) in
    λ i. record { node = node i; rect = record { left = left i; top = top i; right = right i; bottom = bottom i } }

solid_itself : (s : Solid) → (int_eq s.node s.node && same_rest s s) ≡ true
solid_itself s =
    and_both (int_eq s.node s.node) (same_rest s s) (itself s.node)
    (and_both (int_eq s.rect.left s.rect.left) _ (itself s.rect.left)
    (and_both (int_eq s.rect.top s.rect.top) _ (itself s.rect.top)
    (and_both (int_eq s.rect.right s.rect.right) (int_eq s.rect.bottom s.rect.bottom) (itself s.rect.right) (itself s.rect.bottom))))

pub returns : goal.returns
returns c =
    let s : Solid = c.args.self.now in
    let t : Solid = c.args.other.now in (
      λ e. one_solid s t (sym c.eq.ensures ∙ e),
      λ e. c.eq.ensures ∙ subst (λ (t : Solid). (int_eq s.node t.node && same_rest s t) ≡ true) e (solid_itself s),
    )
