-- Trees numbered by their roots, one number after another.
use Rattle.std.proofs.Common.{◌≡◌, ◌≢◌, ℕ, ◌+◌, ◌<◌, ◌≤◌, List, [], ◌∷◌, ◌++◌, length, get_or, refl, sym, ap, subst, ◌∙◌, arith, below_more}
use Rattle.std.proofs.lemmas.List.{get_or_append_left, get_or_push, length_push}
use Rattle.channel_bundles.specs.Classes.{Connected, IsForest, LeadsUp, AreTreeNumbers}
use Rattle.channel_bundles.proofs.Trees.{connected_on, connected_link}

pub numbered_none : (above roots numbers : List ℕ) → length roots ≡ 0 → length numbers ≡ 0 → AreTreeNumbers above 0 roots numbers
numbered_none above roots numbers no_roots no_numbers = record {
  all = no_numbers;
  within = λ k h. absurd (omega arith);
  up = λ k h. absurd (omega arith);
  to_root = λ k h. absurd (omega arith);
  not_before = λ k h. absurd (omega arith);
  roots_within = λ m h. absurd (omega arith);
  own = λ m h. absurd (omega arith);
  rise = λ m n h g. absurd (omega arith);
}

-- the next number is a root
pub numbered_root : (above : List ℕ) (i : ℕ) (roots numbers : List ℕ) → AreTreeNumbers above i roots numbers → IsForest above → i < length above → get_or above i 0 ≡ i →
    AreTreeNumbers above (i + 1) (roots ++ i ∷ []) (numbers ++ length roots ∷ [])
numbered_root above i roots numbers are forest in_i root =
    let all = are.all in
    let made = numbers ++ length roots ∷ [] in
    let more = roots ++ i ∷ [] in
    let kept : (k : ℕ) → k < i → get_or made k 0 ≡ get_or numbers k 0 = λ k h. get_or_append_left numbers (length roots ∷ []) 0 k (omega arith) in
    let here : get_or made i 0 ≡ length roots = get_or_push numbers (length roots) 0 i are.all in
    let kept_root : (m : ℕ) → m < length roots → get_or more m 0 ≡ get_or roots m 0 = λ m h. get_or_append_left roots (i ∷ []) 0 m h in
    let last : get_or more (length roots) 0 ≡ i = get_or_push roots i 0 (length roots) refl in
    let more_count : length more ≡ length roots + 1 = length_push roots i in
    let at : (k : ℕ) → k < i → get_or more (get_or made k 0) 0 ≡ get_or roots (get_or numbers k 0) 0 =
    λ k h. ap (λ n. get_or more n 0) (kept k h) ∙ kept_root (get_or numbers k 0) (are.within k h) in
    let at_last : get_or more (get_or made i 0) 0 ≡ i = ap (λ n. get_or more n 0) here ∙ last in
    record {
      all = omega (arith, length_push numbers (length roots));
      within = below_more (λ k. get_or made k 0 < length more) i (λ k h. omega (arith, kept k h, are.within k h)) (omega arith);
      up = below_more (λ k. get_or made (get_or above k 0) 0 ≡ get_or made k 0) i
          (λ k h. kept (get_or above k 0) (omega (arith, forest k (omega arith))) ∙ are.up k h ∙ sym (kept k h))
          (ap (λ n. get_or made n 0) root);
      to_root = below_more (λ k. Connected (LeadsUp above) k (get_or more (get_or made k 0) 0)) i
          (λ k h. subst (λ n. Connected (LeadsUp above) k n) (sym (at k h)) (are.to_root k h))
          (subst (λ n. Connected (LeadsUp above) i n) (sym at_last) (Connected.same i));
      not_before = below_more (λ k. get_or more (get_or made k 0) 0 ≤ k) i (λ k h. omega (arith, at k h, are.not_before k h)) (omega arith);
      roots_within = λ m h. below_more (λ n. get_or more n 0 < i + 1) (length roots) (λ n g. omega (arith, kept_root n g, are.roots_within n g)) (omega arith) m (omega arith);
      own = λ m h. below_more (λ n. get_or made (get_or more n 0) 0 ≡ n) (length roots)
          (λ n g. ap (λ k. get_or made k 0) (kept_root n g) ∙ kept (get_or roots n 0) (are.roots_within n g) ∙ are.own n g)
          (ap (λ k. get_or made k 0) last ∙ here) m (omega arith);
      rise = λ m n before h. below_more (λ q. m < q → get_or more m 0 < get_or more q 0) (length roots)
          (λ q g less. omega (arith, kept_root q g, kept_root m (omega arith), are.rise m q less g))
          (λ less. omega (arith, kept_root m less, are.roots_within m less, last)) n (omega arith) before;
    }

-- the next number has the tree of what stands above it
pub numbered_more : (above : List ℕ) (i a : ℕ) (roots numbers : List ℕ) → AreTreeNumbers above i roots numbers → IsForest above → i < length above → a ≡ get_or above i 0 → a ≢ i →
    AreTreeNumbers above (i + 1) roots (numbers ++ get_or numbers a 0 ∷ [])
numbered_more above i a roots numbers are forest in_i is ne =
    let all = are.all in
    let tree = get_or numbers a 0 in
    let made = numbers ++ tree ∷ [] in
    let below : a < i = omega (arith, forest i in_i) in
    let kept : (k : ℕ) → k < i → get_or made k 0 ≡ get_or numbers k 0 = λ k h. get_or_append_left numbers (tree ∷ []) 0 k (omega arith) in
    let here : get_or made i 0 ≡ tree = get_or_push numbers tree 0 i are.all in
    let root_of : ℕ → ℕ = λ n. get_or roots n 0 in
    record {
      all = omega (arith, length_push numbers tree);
      within = below_more (λ k. get_or made k 0 < length roots) i (λ k h. omega (arith, kept k h, are.within k h)) (omega (arith, here, are.within a below));
      up = below_more (λ k. get_or made (get_or above k 0) 0 ≡ get_or made k 0) i
          (λ k h. kept (get_or above k 0) (omega (arith, forest k (omega arith))) ∙ are.up k h ∙ sym (kept k h))
          (ap (λ n. get_or made n 0) (sym is) ∙ kept a below ∙ sym here);
      to_root = below_more (λ k. Connected (LeadsUp above) k (get_or roots (get_or made k 0) 0)) i
          (λ k h. subst (λ n. Connected (LeadsUp above) k n) (ap root_of (sym (kept k h))) (are.to_root k h))
          (subst (λ n. Connected (LeadsUp above) i n) (ap root_of (sym here)) (connected_on i a (get_or roots tree 0) (connected_link i a (in_i, sym is)) (are.to_root a below)));
      not_before = below_more (λ k. get_or roots (get_or made k 0) 0 ≤ k) i
          (λ k h. omega (arith, ap root_of (kept k h), are.not_before k h))
          (omega (arith, ap root_of here, are.not_before a below));
      roots_within = λ m h. omega (arith, are.roots_within m h);
      own = λ m h. kept (get_or roots m 0) (are.roots_within m h) ∙ are.own m h;
      rise = are.rise;
    }
