-- The numbers of a valid scene's edges differ, also as ids, and are below the next one.
use Rattle.std.proofs.Common.{◌≡◌, ◌≢◌, ℕ, ◌<◌, ◌≤◌, Bool, true, false, None, Some, List, ℤ, pos, suc, ◌+◌, refl, sym, ap, ◌∙◌, arith, int_eq}
use Rattle.std.specs.Prelude.{AllPairs, find, position, unsigned_abs, ◌==◌}
use Rattle.std.proofs.lemmas.Bool.{eqb-false}
use Rattle.std.proofs.lemmas.Bool.Decides.{Decides-int_eq, Decides-eqb}
use Rattle.std.proofs.lemmas.List.Elements.{recursion_from_All}
use Rattle.scene_model.specs.declared.edge.Edge.{Edge}
use Rattle.scene_model.specs.declared.edit.Edit.TheVariants.{AddEdge}
use Rattle.scene_model.specs.declared.edit.Inverse.TheVariants.{PutEdge, TakeEdge}
use Rattle.scene_model.specs.Scene.{Scene, edge_with}
use Rattle.scene_model.specs.Inverses.{put_edge}
use Rattle.std.specs.Option.{option_map_or}
use Rattle.scene_model.specs.Valid.{IsValid}
use Rattle.scene_model.specs.Edits.{refusal, refusals}
use Rattle.scene_model.proofs.Editing.Entries.{each_weaker, found_none}
use Rattle.scene_model.proofs.Editing.Refusals.{all_none, when_none}

pub numbers_apart : (s : Scene) → IsValid s → AllPairs (λ d e. pos d.number ≢ pos e.number) s.edges
numbers_apart s v i j d l m h = let rise = v.numbers_rise i j d l m in let same = ap unsigned_abs h in absurd (omega (arith, rise, same))

other_id : (n k : ℕ) (b : Bool) → int_eq (pos n) (pos k) ≡ b → n ≢ k → b ≡ false
other_id n k true e differ = absurd (differ (ap unsigned_abs ((Decides-int_eq (pos n) (pos k)).0 e)))
other_id n k false e differ = refl

-- no edge has the next number or a later one as its id
pub no_later : (s : Scene) (k : ℕ) → IsValid s → s.next_edge ≤ k → find (λ e. int_eq (pos e.number) (pos k)) s.edges ≡ None
no_later s k v l =
    found_none (λ e. int_eq (pos e.number) (pos k)) s.edges
    (each_weaker (λ e. e.number < s.next_edge) (λ e. int_eq (pos e.number) (pos k) ≡ false)
    (λ e m. other_id e.number k (int_eq (pos e.number) (pos k)) refl (λ h. absurd (omega (arith, l, m, h)))) s.edges
    (recursion_from_All (λ e. e.number < s.next_edge) s.edges v.below_next))

-- where an edge may be added there is a number after the next one
pub next_below : (s : Scene) (from to : ℤ) (from_class to_class : ℕ) → IsValid s → refusal (AddEdge from to from_class to_class) s ≡ None → s.next_edge < 4294967295
next_below s from to from_class to_class v free =
    let r = all_none (refusals (AddEdge from to from_class to_class) s) free in
    let other = eqb-false s.next_edge 4294967295 (when_none _ _ r.1.1.1.1.1.1.0) in
    let next = v.next in
    omega (arith, other, next)

same_tests : (b c : Bool) → (b ≡ true → c ≡ true) → (c ≡ true → b ≡ true) → b ≡ c
same_tests true c h k = sym (h refl)
same_tests false true h k = k refl
same_tests false false h k = refl

same_test : (n k : ℕ) → int_eq (pos n) (pos k) ≡ (n == k)
same_test n k =
    same_tests (int_eq (pos n) (pos k)) (n == k)
    (λ h. (Decides-eqb n k).1 (ap unsigned_abs ((Decides-int_eq (pos n) (pos k)).0 h)))
    (λ h. (Decides-int_eq (pos n) (pos k)).1 (ap pos ((Decides-eqb n k).0 h)))

-- to find by the number is to find by the id
pub number_place : (es : List Edge) (k : ℕ) → position (λ e. int_eq (pos e.number) (pos k)) es ≡ position (λ e. e.number == k) es
number_place es k = ap (λ (p : Edge → Bool). position p es) (λ i e. same_test e.number k i)

pub number_found : (es : List Edge) (k : ℕ) → find (λ e. int_eq (pos e.number) (pos k)) es ≡ find (λ e. e.number == k) es
number_found es k = ap (λ (p : Edge → Bool). find p es) (λ i e. same_test e.number k i)

one_more : (n : ℕ) → n + 1 ≡ suc n
one_more n = omega arith

-- a cut edge goes back to its place
pub put_there : (s : Scene) (k n : ℕ) (e : Edge) → edge_with s k ≡ Some e → position (λ d. int_eq (pos d.number) (pos k)) s.edges ≡ Some n → PutEdge (n + 1) e ≡ put_edge s k
put_there s k n e known at =
    let place : position (λ d. d.number == k) s.edges ≡ Some n = sym (number_place s.edges k) ∙ at in
    ap (λ m. PutEdge m e) (one_more n)
    ∙ ap (λ o. PutEdge (suc (option_map_or (λ m. m) o 0)) e) (sym place)
    ∙ ap (λ o. option_map_or (λ d. PutEdge (suc (option_map_or (λ m. m) (position (λ c. c.number == k) s.edges) 0)) d) o (TakeEdge k s.next_edge)) (sym known)
