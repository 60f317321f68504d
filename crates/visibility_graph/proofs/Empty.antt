-- The empty arena stands for a floor without solids and anchors, and is complete.
use Rattle.std.proofs.Common.{◌≡◌, List, [], ◌<◌, length, sym, ap, subst, ◌∙◌, inl, inr, arith}
use Rattle.std.specs.Prelude.{Any}
use Rattle.std.specs.Ordering.{nat_cmp}
use Rattle.std.specs.FinMap.{empty, get, get-empty}
use Rattle.plane_geom.specs.declared.floor.Line.{Line}
use Rattle.plane_geom.specs.declared.floor.Floor.{Floor}
use Rattle.line_arena.specs.Arena.{Arena}
use Rattle.line_arena.specs.Stands.{HasLine, IsComplete, StandsFor}
use Rattle.visibility_graph.proofs.Lines.{not_none}

nothing_in : {X : Type 0} (P : X → Type 0) (xs : List X) → xs ≡ [] → Any P xs → ⊥
nothing_in P xs e a = let l : a.0 < 0 = subst (λ ys. a.0 < length ys) e a.2 in absurd (omega (arith, l))

pub no_line_in : (a : Arena) (l : Line) → a.lines ≡ empty → HasLine a l → ⊥
no_line_in a l e h = not_none l (sym (ap (λ m. get m h.0) e ∙ get-empty nat_cmp h.0) ∙ h.1)

pub complete_empty : (a : Arena) → a.lines ≡ empty → IsComplete a
complete_empty a e = λ v h m. absurd (no_line_in a m.down e (v, m.is_down))

pub empty_stands : (floor : Floor) (a : Arena) → floor.solids ≡ [] → floor.anchors ≡ [] → a.lines ≡ empty → StandsFor floor a
empty_stands floor a solids anchors lines = record {
  lines = λ l. (
    λ h. absurd (no_line_in a l lines h),
    λ k. elim k.reason as (λ _. HasLine a l) [
      | inl r ↦ absurd (nothing_in _ floor.solids solids r.1)
      | inr r ↦ absurd (nothing_in _ floor.anchors anchors r)
    ],
  );
  complete = complete_empty a lines;
}
