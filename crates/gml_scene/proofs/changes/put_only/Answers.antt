-- The first pair with the key gets the value, and the others of the key are gone.
use Rattle.std.proofs.Common.{◌≡◌, ◌≢◌, ℕ, length, Some, refl, sym, ap, subst, ◌∙◌, arith}
use Rattle.std.specs.Prelude.{slice_get, insert, OnOk}
use Rattle.gml_text.specs.Tree.{keys}
use Rattle.gml_text.specs.View.{content, pairs}
use Rattle.gml_scene.proofs.PairLists.{IsFirst, made, others, room, put_only_here, put_only_missing}
use Rattle.gml_scene.proofs.changes.put_only.Goals as goal

pub returns-in_default : goal.returns-in_default
returns-in_default c =
    let ps = c.args.list.now.items in
    let key = c.args.key.now in
    let none = subst (λ qs. (k : ℕ) → slice_get (keys (pairs qs)) k ≢ Some key) c.deref.ensures.value c.in_default.ensures.none in
    subst (λ x. OnOk c.push.result (pairs c.push.new.list.items ≡ x)) (sym (put_only_missing ps key (content c.args.value) none)) c.push.ensures

pub insert-requires : goal.insert-requires
insert-requires c =
    let ps = c.args.list.now.items in
    let key = c.args.key.now in
    let i = c.in-Some.index in
    let found = subst (λ qs. slice_get (keys (pairs qs)) i ≡ Some key) c.deref.ensures.value c.in-Some.ensures.found in
    let first = subst (λ qs. IsFirst key qs i) c.deref.ensures.value c.in-Some.ensures.first in
    let few = room ps key i found first in
    let left = ap length c.remove_all.ensures.items in
    omega (arith, few, left, c.remove_all.new.list.ok.0)

pub returns : goal.returns
returns c =
    let ps = c.args.list.now.items in
    let key = c.args.key.now in
    let i = c.in-Some.index in
    let value = c.args.value in
    let found = subst (λ qs. slice_get (keys (pairs qs)) i ≡ Some key) c.deref.ensures.value c.in-Some.ensures.found in
    let first = subst (λ qs. IsFirst key qs i) c.deref.ensures.value c.in-Some.ensures.first in
    ap pairs c.in_ok-insert.ensures.items
    ∙ ap (λ qs. pairs (insert qs i (made c.in_ok-key.key value))) c.remove_all.ensures.items
    ∙ ap (λ k. pairs (insert (others key ps) i (made k value))) c.in_ok-key.ensures
    ∙ put_only_here ps key i (made key value) refl found first
