-- The first pair with the key gets the value.
use Rattle.std.proofs.Common.{◌≡◌, ◌≢◌, ℕ, Some, sym, subst, ◌∙◌, arith}
use Rattle.std.specs.Prelude.{slice_get, OnOk}
use Rattle.std.proofs.lemmas.Option.{same_Some}
use Rattle.gml_text.specs.Tree.{keys}
use Rattle.gml_text.specs.View.{content, pairs}
use Rattle.gml_text.proofs.Views.{keys_at}
use Rattle.diagram_read.proofs.Lists.{key_within}
use Rattle.gml_scene.proofs.PairLists.{IsFirst, made, put_here, put_missing}
use Rattle.gml_scene.proofs.changes.put.Goals as goal

pub index_mut-requires : goal.index_mut-requires
index_mut-requires c =
    let within = key_within c.deref.result.now c.in-Some.index c.args.key.now c.in-Some.ensures.found in
    omega (arith, within, c.deref.ensures.len)

pub returns-in-Some : goal.returns-in-Some
returns-in-Some c =
    let ps = c.args.list.now.items in
    let key = c.args.key.now in
    let i = c.in-Some.index in
    let p = c.index_mut.result.now in
    let found = subst (λ qs. slice_get (keys (pairs qs)) i ≡ Some key) c.deref.ensures.value c.in-Some.ensures.found in
    let first = subst (λ qs. IsFirst key qs i) c.deref.ensures.value c.in-Some.ensures.first in
    let same = same_Some p.key key (sym (keys_at ps i p (key_within ps i key found) c.index_mut.ensures.value) ∙ found) in
    put_here ps key i (made p.key c.args.value) same found first

pub returns-in-None : goal.returns-in-None
returns-in-None c =
    let ps = c.args.list.now.items in
    let key = c.args.key.now in
    let none = subst (λ qs. (k : ℕ) → slice_get (keys (pairs qs)) k ≢ Some key) c.deref.ensures.value c.in-None.ensures.none in
    subst (λ x. OnOk c.push.result (pairs c.push.new.list.items ≡ x)) (sym (put_missing ps key (content c.args.value) none)) c.push.ensures
