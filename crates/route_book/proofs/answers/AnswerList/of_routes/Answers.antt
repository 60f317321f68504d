-- One number and its route more; in the end all of them.
use Rattle.std.proofs.Common.{◌≡◌, ◌<◌, Option, List, length, get_or, refl, sym, subst, ◌∙◌, arith}
use Rattle.std.proofs.lemmas.List.{get_or_default, take_all}
use Rattle.walk_model.specs.declared.route.Route.{Route}
use Rattle.walk_model.specs.declared.route.Answer.{Answer}
use Rattle.route_book.proofs.Answering.Ordered.{in_order}
use Rattle.route_book.proofs.Answering.Taken.{read_more, next_same, rest_same}
use Rattle.route_book.proofs.answers.AnswerList.of_routes.Goals as goal

pub loop-place-preserved : goal.loop-place-preserved
loop-place-preserved c =
    let kept = c.loop-place.invariant in
    let xs : List Answer = c.loop-place.items.items in
    let numbers = c.args.numbers.now in
    let rs : List (Option Route) = c.loop-place.routes.items in
    let all : List (Option Route) = c.args.routes.items in
    let i = c.loop-place.place in
    let route : Option Route = c.take-route.result in
    let lt : i < length numbers = c.loop-place-test.true in
    let same : length all ≡ length numbers = c.requires.same_length in
    let more : i < length all = omega arith in
    let there : route ≡ get_or rs i route = subst (λ (o : Option Route). o ≡ get_or rs i o) (sym c.take-route.ensures.value) c.index_mut.ensures.value in (
      rw c.in_ok-push.ensures.items (read_more (λ (x : Answer). x.edge) xs _ numbers i (get_or numbers i 0) lt kept.0 refl (get_or_default numbers i 0 (get_or numbers i 0) lt)),
      rw c.in_ok-push.ensures.items (read_more (λ (x : Answer). x.route) xs _ all i route more kept.1 refl (there ∙ next_same rs all i route kept.2)),
      rest_same rs all i c.take-route.new.self kept.2,
    )

pub invariant_of-result : goal.invariant_of-result
invariant_of-result c =
    in_order c.loop-place.items.items c.args.numbers.now (c.loop-place.invariant.0 ∙ take_all c.loop-place.place c.args.numbers.now c.loop-place-test.false) c.requires.order
