-- What the search finds is the answer with the number; where it finds nothing, there is none.
use Rattle.std.proofs.Common.{rules, ◌≡◌, None, Some, List, get_or, sym, subst, ◌∙◌}
use Rattle.std.specs.Ordering.{nat_cmp}
use Rattle.std.specs.declared.cmp.Ordering.TheVariants.{Equal}
use Rattle.std.proofs.lemmas.List.Sorted.{answers_always}
use Rattle.walk_model.specs.declared.route.Answer.{Answer}
use Rattle.scene_model.specs.Stale.{answer_of}
use Rattle.route_book.specs.Exchange.{AreByRisingEdge}
use Rattle.route_book.proofs.Answering.Ordered.{got, not_got}
use Rattle.route_book.proofs.answers.AnswerList.get.Goals as goal

pub returns-in-Ok : goal.returns-in-Ok
returns-in-Ok c =
    let ys : List Answer = c.deref.result.now in
    let r : Answer = c.index.result.now in
    let is : ys ≡ c.self.inside.items.items = c.deref.ensures.value in
    let order : AreByRisingEdge ys = subst AreByRisingEdge (sym is) c.self.invariant in
    let at : r ≡ get_or ys c.in-Ok.place r = subst (λ (zs : List Answer). r ≡ get_or zs c.in-Ok.place r) (sym is) c.index.ensures in
    let here = c.in-Ok.ensures.position (λ (a : Answer). a.edge) (answers_always _ _ _ (λ f a q g called. search rules)) in
    let equal : nat_cmp r.edge c.args.number ≡ Equal = subst (λ (b : Answer). nat_cmp b.edge c.args.number ≡ Equal) (sym at) (here r) in
    subst (λ (zs : List Answer). Some r ≡ answer_of zs c.args.number) (is ∙ c.self.view_is) (got ys c.args.number c.in-Ok.place r order c.in-Ok.ensures.bound at equal)

pub returns-in-Err : goal.returns-in-Err
returns-in-Err c =
    let ys : List Answer = c.deref.result.now in
    let is : ys ≡ c.self.inside.items.items = c.deref.ensures.value in
    let order : AreByRisingEdge ys = subst AreByRisingEdge (sym is) c.self.invariant in
    sym (subst (λ (zs : List Answer). answer_of zs c.args.number ≡ None) (is ∙ c.self.view_is)
    (not_got ys c.args.number c.in-Err.field-0 order (c.in-Err.ensures.position (λ (a : Answer). a.edge) (answers_always _ _ _ (λ f a q g called. search rules)))))
