-- One pass over the lines that were reported and over others, both in the order of their numbers.
use Rattle.std.proofs.Common.{◌≡◌, ℕ, ◌<◌, Bool, true, false, inl, inr, cond, Some, None, List, [], ◌∷◌, map, refl, sym, ap, ap₂, ◌∙◌, subst, arith}
use Rattle.std.specs.Prelude.{◌==◌, not, is_some, filter}
use Rattle.std.specs.List.{AllByRecursion as Each}
use Rattle.std.proofs.lemmas.Bool.Decides.{eqb_tells}
use Rattle.walk_model.specs.declared.route.WrittenRoute.{WrittenRoute}
use Rattle.drawing.specs.Changes.{are_same_corners, gone_between, has_corners, is_changed, line_of}

-- the lines have numbers above this one
abbrev pub AreAbove : ℕ → List WrittenRoute → Type 0
AreAbove n ls = Each (λ (l : WrittenRoute). n < l.edge) ls

differs : (a b : ℕ) → (a ≡ b → ⊥) → (a == b) ≡ false
differs a b apart = elim (eqb_tells a b) as (λ _. (a == b) ≡ false) [ inl same ↦ absurd (apart same.1) | inr other ↦ other.0 ]

equals : (a b : ℕ) → a ≡ b → (a == b) ≡ true
equals a b same = elim (eqb_tells a b) as (λ _. (a == b) ≡ true) [ inl here ↦ here.0 | inr other ↦ absurd (other.1 same) ]

none_above : (n : ℕ) (ls : List WrittenRoute) → AreAbove n ls → line_of ls n ≡ None
none_above n [] h = refl
none_above n (l ∷ ls) h = rw (differs l.edge n (λ same. omega (arith, h.0, same))) (none_above n ls h.1)

-- what was reported of a connector below all lines makes no difference to them
pub changed_past : (b : WrittenRoute) (bs ls : List WrittenRoute) → AreAbove b.edge ls → map (is_changed (b ∷ bs)) ls ≡ map (is_changed bs) ls
changed_past b bs [] h = refl
changed_past b bs (l ∷ ls) h =
    ap₂ (λ t ts. t ∷ ts) (ap (λ t. not (has_corners (cond t (Some b) (line_of bs l.edge)) l.points)) (differs b.edge l.edge (λ same. omega (arith, h.0, same))))
    (changed_past b bs ls h.1)

abbrev has_none : List WrittenRoute → WrittenRoute → Bool
has_none ls b = not (is_some (line_of ls b.edge))

-- a line below all that were reported makes no difference to which of them are gone
filter_past : (l : WrittenRoute) (ls bs : List WrittenRoute) → AreAbove l.edge bs → filter (has_none (l ∷ ls)) bs ≡ filter (has_none ls) bs
filter_past l ls [] h = refl
filter_past l ls (b ∷ bs) h =
    ap₂ (λ t ts. cond (not (is_some t)) (b ∷ ts) ts) (ap (λ t. cond t (Some l) (line_of ls b.edge)) (differs l.edge b.edge (λ same. omega (arith, h.0, same))))
    (filter_past l ls bs h.1)

abbrev numbers : List WrittenRoute → List ℕ
numbers ls = map (λ l. l.edge) ls

-- the first connector that was reported is below all lines: it is gone
pub gone_first : (b : WrittenRoute) (bs ls : List WrittenRoute) → AreAbove b.edge ls → gone_between (b ∷ bs) ls ≡ b.edge ∷ gone_between bs ls
gone_first b bs ls h = ap (λ t. numbers (cond (not (is_some t)) (b ∷ filter (has_none ls) bs) (filter (has_none ls) bs))) (none_above b.edge ls h)

-- the first line is below all that were reported: it is new
pub gone_new : (l : WrittenRoute) (bs ls : List WrittenRoute) → AreAbove l.edge bs → gone_between bs (l ∷ ls) ≡ gone_between bs ls
gone_new l bs ls h = ap numbers (filter_past l ls bs h)

pub changed_new : (l : WrittenRoute) (bs ls : List WrittenRoute) → AreAbove l.edge bs → map (is_changed bs) (l ∷ ls) ≡ true ∷ map (is_changed bs) ls
changed_new l bs ls h = ap (λ t. not (has_corners t l.points) ∷ map (is_changed bs) ls) (none_above l.edge bs h)

-- both are of the same connector
pub gone_both : (b l : WrittenRoute) (bs ls : List WrittenRoute) → b.edge ≡ l.edge → AreAbove b.edge bs → gone_between (b ∷ bs) (l ∷ ls) ≡ gone_between bs ls
gone_both b l bs ls same h =
    ap (λ t. numbers (cond (not (is_some (cond t (Some l) (line_of ls b.edge)))) (b ∷ filter (has_none (l ∷ ls)) bs) (filter (has_none (l ∷ ls)) bs))) (equals l.edge b.edge (sym same))
    ∙ gone_new l bs ls (subst (λ n. AreAbove n bs) same h)

pub changed_both : (b l : WrittenRoute) (bs ls : List WrittenRoute) → b.edge ≡ l.edge → AreAbove l.edge ls
    → map (is_changed (b ∷ bs)) (l ∷ ls) ≡ not (are_same_corners b.points l.points) ∷ map (is_changed bs) ls
changed_both b l bs ls same h =
    ap₂ (λ t ts. t ∷ ts) (ap (λ t. not (has_corners (cond t (Some b) (line_of bs l.edge)) l.points)) (equals b.edge l.edge same))
    (changed_past b bs ls (subst (λ n. AreAbove n ls) (sym same) h))
