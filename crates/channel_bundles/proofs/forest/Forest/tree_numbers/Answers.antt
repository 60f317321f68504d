-- A number is a root, or it has the tree of what stands above it.
use Rattle.std.proofs.Common.{◌≡◌, ◌≢◌, ℕ, ◌+◌, ◌<◌, List, [], ◌∷◌, ◌++◌, length, get_or, sym, ap, subst, ◌∙◌, arith}
use Rattle.std.proofs.lemmas.List.{get_or_read}
use Rattle.channel_bundles.specs.Classes.{IsForest, AreTreeNumbers}
use Rattle.channel_bundles.proofs.Numbering.{numbered_none, numbered_root, numbered_more}
use Rattle.channel_bundles.proofs.forest.Forest.tree_numbers.Goals as goal
use Rattle.channel_bundles.proofs.forest.Forest.tree_numbers.Goals.{then-above-number+in_ok-push+in_ok-push-2, else-above-number+in_ok-push-3}

pub loop-number-init : goal.loop-number-init
loop-number-init c = numbered_none _ _ _ (ap length c.in_ok-roots.ensures.items) (ap length c.in_ok-numbers.ensures.items)

root : (above : List ℕ) (i read tree : ℕ) (roots numbers more made : List ℕ) → AreTreeNumbers above i roots numbers → IsForest above → i < length above → read ≡ get_or above i read → read ≡ i →
    tree ≡ length roots → made ≡ numbers ++ tree ∷ [] → more ≡ roots ++ i ∷ [] → AreTreeNumbers above (i + 1) more made
root above i read tree roots numbers more made are forest in_i reads same is_tree is_made is_more =
    subst (λ xs. AreTreeNumbers above (i + 1) xs made) (sym is_more)
    (subst (λ xs. AreTreeNumbers above (i + 1) (roots ++ i ∷ []) xs) (sym (is_made ∙ ap (λ n. numbers ++ n ∷ []) is_tree))
    (numbered_root above i roots numbers are forest in_i (sym (get_or_read above i read in_i reads 0) ∙ same)))

more_of : (above : List ℕ) (i read tree : ℕ) (roots numbers more made : List ℕ) → AreTreeNumbers above i roots numbers → IsForest above → i < length above → read ≡ get_or above i read → read ≢ i →
    tree ≡ get_or numbers read tree → read < length numbers → made ≡ numbers ++ tree ∷ [] → more ≡ roots → AreTreeNumbers above (i + 1) more made
more_of above i read tree roots numbers more made are forest in_i reads differ is_tree in_read is_made is_more =
    subst (λ xs. AreTreeNumbers above (i + 1) xs made) (sym is_more)
    (subst (λ xs. AreTreeNumbers above (i + 1) roots xs) (sym (is_made ∙ ap (λ n. numbers ++ n ∷ []) (get_or_read numbers read tree in_read is_tree 0)))
    (numbered_more above i read roots numbers are forest in_i (get_or_read above i read in_i reads 0) differ))

pub loop-number-preserved : goal.loop-number-preserved
loop-number-preserved c =
    elim c.if-above-number.branch [
      | then-above-number+in_ok-push+in_ok-push-2 w ↦
          root _ _ _ w.len-then-above-number.result _ _ _ _ c.loop-number.invariant c.requires (omega arith) c.index-above.ensures w.if-above-number.true
          (omega (arith, w.len-then-above-number.ensures, c.loop-number.roots.ok.0)) (ap (λ v. v.items) w.numbers-is ∙ w.in_ok-push.ensures.items) (ap (λ v. v.items) w.roots-is ∙ w.in_ok-push-2.ensures.items)
      | else-above-number+in_ok-push-3 w ↦
          let differ = w.if-above-number.false in
          let at = c.loop-number.number in
          let in_at : at < length c.args.self.now.above.items = omega arith in
          let below : c.index-above.result.now < length c.loop-number.numbers.items =
          omega (arith, c.loop-number.invariant.all, c.requires at in_at, get_or_read c.args.self.now.above.items at c.index-above.result.now in_at c.index-above.ensures 0) in
          more_of _ _ _ _ _ _ _ _ c.loop-number.invariant c.requires in_at c.index-above.ensures w.if-above-number.false w.index-tree.ensures below
          (ap (λ v. v.items) w.numbers-is ∙ w.in_ok-push-3.ensures.items) (ap (λ v. v.items) w.roots-is)
    ]

pub returns : goal.returns
returns c =
    let above = c.args.self.now.above.items in
    let all : c.loop-number.number ≡ length above = omega arith in
    subst (λ n. AreTreeNumbers above n c.loop-number.roots.items c.loop-number.numbers.items) all c.loop-number.invariant
