-- A label is given, replaced or taken away, and each other one stays.
use Rattle.std.proofs.Common.{◌≡◌, ◌≢◌, ℕ, suc, ◌<◌, Bool, true, false, not, List, [], ◌∷◌, ◌++◌, length, get_or, Option, Some, None, refl, sym, subst, ◌∙◌, inl, inr, arith, int_eq}
use Rattle.std.specs.Prelude.{◌==◌, ℤ, filter, slice_set, option_map, if◌then◌else◌}
use Rattle.std.specs.List.{AllByRecursion as Each}
use Rattle.std.proofs.lemmas.Bool.{eqb-true, false≢true}
use Rattle.std.proofs.lemmas.Bool.Decides.{Decides-int_eq}
use Rattle.std.proofs.lemmas.List.Elements.{recursion_from_All}
use Rattle.std.proofs.lemmas.Option.{none-some}
use Rattle.gml_text.specs.Bytes.{quote}
use Rattle.gml_text.specs.Grammar.{Lacks}
use Rattle.gml_text.specs.Tree.{no_pairs}
use Rattle.scene_model.proofs.Directions.{tested}
use Rattle.scene_model.proofs.Directions.Tested.{yes, no}
use Rattle.gml_scene.specs.declared.labels.Label.{Label}
use Rattle.gml_scene.specs.Forms.{label_pairs}
use Rattle.gml_scene.specs.Labels.{AreTexts, IsRelabelled, given_label, label_place}
use Rattle.gml_scene.proofs.PairLists.{placed}
use Rattle.gml_scene.proofs.Places.{refuted}

-- an empty label has no pair
pub empty_label : (label : List ℕ) → (length label == 0) ≡ true → label_pairs label ≡ no_pairs
empty_label [] none = refl
empty_label (b ∷ bytes) none = absurd (let e = eqb-true (length (b ∷ bytes)) 0 none in omega (arith, e))

differ : (a b : ℤ) → a ≢ b → int_eq a b ≡ false
differ a b = refuted (int_eq a b) (Decides-int_eq a b)

-- the first label is the one that is asked for
first_label : (l : Label) (ls : List Label) (k : ℤ) → l.number ≡ k → given_label (l ∷ ls) k ≡ l.text
first_label l ls k same = rw ((Decides-int_eq l.number k).1 same) refl

-- or it is not
later_label : (l : Label) (ls : List Label) (k : ℤ) → l.number ≢ k → given_label (l ∷ ls) k ≡ given_label ls k
later_label l ls k other = rw (differ l.number k other) refl

-- one label more in front
in_front : (l : Label) (xs ys : List Label) (k : ℤ) → given_label xs k ≡ given_label ys k → given_label (l ∷ xs) k ≡ given_label (l ∷ ys) k
in_front l xs ys k same = elim (tested (int_eq l.number k)) as (λ _. given_label (l ∷ xs) k ≡ given_label (l ∷ ys) k) [
  | yes h ↦ rw h refl
  | no h ↦ rw h same
]

-- the place is one of a label with this number
pub placed_within : (ls : List Label) (n : ℤ) (i : ℕ) → label_place ls n ≡ Some i → i < length ls
placed_within [] n i is = absurd (none-some i is)
placed_within (x ∷ ls) n i is = elim (placed (int_eq x.number n) (label_place ls n) i is) [
  | inl c ↦ omega (arith, c.1)
  | inr c ↦ (let deeper = placed_within ls n c.1.0 c.1.1 in omega (arith, deeper, c.1.2))
]

pub placed_number : (ls : List Label) (n : ℤ) (i : ℕ) (d : Label) → label_place ls n ≡ Some i → (get_or ls i d).number ≡ n
placed_number [] n i d is = absurd (none-some i is)
placed_number (x ∷ ls) n i d is = elim (placed (int_eq x.number n) (label_place ls n) i is) as (λ _. (get_or (x ∷ ls) i d).number ≡ n) [
  | inl c ↦ subst (λ j. (get_or (x ∷ ls) j d).number ≡ n) (sym c.1) ((Decides-int_eq x.number n).0 c.0)
  | inr c ↦ subst (λ j. (get_or (x ∷ ls) j d).number ≡ n) (sym c.1.2) (placed_number ls n c.1.0 d c.1.1)
]

-- the label at the place is replaced
set_own : (ls : List Label) (i : ℕ) (l : Label) → label_place ls l.number ≡ Some i → given_label (slice_set ls i l) l.number ≡ l.text
set_own [] i l is = absurd (none-some i is)
set_own (x ∷ ls) i l is = elim (placed (int_eq x.number l.number) (label_place ls l.number) i is) as (λ _. given_label (slice_set (x ∷ ls) i l) l.number ≡ l.text) [
  | inl c ↦ subst (λ j. given_label (slice_set (x ∷ ls) j l) l.number ≡ l.text) (sym c.1) (first_label l ls l.number refl)
  | inr c ↦ subst (λ j. given_label (slice_set (x ∷ ls) j l) l.number ≡ l.text) (sym c.1.2) (rw c.0 (set_own ls c.1.0 l c.1.1))
]

set_other : (ls : List Label) (i : ℕ) (l : Label) (k : ℤ) → label_place ls l.number ≡ Some i → k ≢ l.number → given_label (slice_set ls i l) k ≡ given_label ls k
set_other [] i l k is other = absurd (none-some i is)
set_other (x ∷ ls) i l k is other = elim (placed (int_eq x.number l.number) (label_place ls l.number) i is) as (λ _. given_label (slice_set (x ∷ ls) i l) k ≡ given_label (x ∷ ls) k) [
  | inl c ↦
      (let same = (Decides-int_eq x.number l.number).0 c.0 in
      subst (λ j. given_label (slice_set (x ∷ ls) j l) k ≡ given_label (x ∷ ls) k) (sym c.1)
      (later_label l ls k (λ e. other (sym e)) ∙ sym (later_label x ls k (λ e. other (sym e ∙ same)))))
  | inr c ↦
      subst (λ j. given_label (slice_set (x ∷ ls) j l) k ≡ given_label (x ∷ ls) k) (sym c.1.2)
      (in_front x (slice_set ls c.1.0 l) ls k (set_other ls c.1.0 l k c.1.1 other))
]

pub label_replaced : (ls : List Label) (i : ℕ) (l : Label) → Lacks quote l.text → label_place ls l.number ≡ Some i → IsRelabelled l.number l.text ls (slice_set ls i l)
label_replaced ls i l lacks is = record { quotable = lacks; label = set_own ls i l is; others = λ k other. set_other ls i l k is other }

-- a first label of this number goes last
unplaced : (b : Bool) (o : Option ℕ) → (if b then Some 0 else option_map suc o) ≡ None → (b ≡ false) × (o ≡ None)
unplaced true o is = absurd (none-some 0 (sym is))
unplaced false None is = (refl, refl)
unplaced false (Some j) is = absurd (none-some (suc j) (sym is))

push_own : (ls : List Label) (l : Label) → label_place ls l.number ≡ None → given_label (ls ++ l ∷ []) l.number ≡ l.text
push_own [] l is = first_label l [] l.number refl
push_own (x ∷ ls) l is =
    let none = unplaced (int_eq x.number l.number) (label_place ls l.number) is in
    rw none.0 (push_own ls l none.1)

push_other : (ls : List Label) (l : Label) (k : ℤ) → k ≢ l.number → given_label (ls ++ l ∷ []) k ≡ given_label ls k
push_other [] l k other = later_label l [] k (λ e. other (sym e))
push_other (x ∷ ls) l k other = in_front x (ls ++ l ∷ []) ls k (push_other ls l k other)

pub label_added : (ls : List Label) (l : Label) → Lacks quote l.text → label_place ls l.number ≡ None → IsRelabelled l.number l.text ls (ls ++ l ∷ [])
label_added ls l lacks is = record { quotable = lacks; label = push_own ls l is; others = λ k other. push_other ls l k other }

-- the labels of other numbers
abbrev pub others : ℤ → List Label → List Label
others n ls = filter (λ l. not (int_eq l.number n)) ls

gone_own : (n : ℤ) (ls : List Label) → given_label (others n ls) n ≡ []
gone_own n [] = refl
gone_own n (x ∷ ls) = elim (tested (int_eq x.number n)) as (λ _. given_label (others n (x ∷ ls)) n ≡ []) [
  | yes h ↦ rw h (gone_own n ls)
  | no h ↦
      (let other : x.number ≢ n = λ e. false≢true (sym h ∙ (Decides-int_eq x.number n).1 e) in
      rw h (later_label x (others n ls) n other ∙ gone_own n ls))
]

gone_other : (n : ℤ) (ls : List Label) (k : ℤ) → k ≢ n → given_label (others n ls) k ≡ given_label ls k
gone_other n [] k other = refl
gone_other n (x ∷ ls) k other = elim (tested (int_eq x.number n)) as (λ _. given_label (others n (x ∷ ls)) k ≡ given_label (x ∷ ls) k) [
  | yes h ↦
      (let same = (Decides-int_eq x.number n).0 h in
      rw h (gone_other n ls k other ∙ sym (later_label x ls k (λ e. other (sym e ∙ same)))))
  | no h ↦ rw h (in_front x (others n ls) ls k (gone_other n ls k other))
]

pub label_gone : (n : ℤ) (ls : List Label) → IsRelabelled n [] ls (others n ls)
label_gone n ls = record { quotable = refl; label = gone_own n ls; others = λ k other. gone_other n ls k other }

-- a label that is found is a text
found_lacks : (ls : List Label) (k : ℤ) → Each (λ l. Lacks quote l.text) ls → Lacks quote (given_label ls k)
found_lacks [] k each = refl
found_lacks (x ∷ ls) k each = elim (tested (int_eq x.number k)) as (λ _. Lacks quote (given_label (x ∷ ls) k)) [
  | yes h ↦ rw h each.0
  | no h ↦ rw h (found_lacks ls k each.1)
]

pub labels_lack : (ls : List Label) (k : ℤ) → AreTexts ls → Lacks quote (given_label ls k)
labels_lack ls k all = found_lacks ls k (recursion_from_All (λ l. Lacks quote l.text) ls all)
