-- One answer more, which is another one.
use Rattle.std.proofs.Common.{◌≡◌, ◌<◌, ℕ, List, length, get_or, sym, ◌∙◌, arith}
use Rattle.std.proofs.lemmas.List.{get_or_read}
use Rattle.walk_model.specs.declared.route.Answer.{Answer}
use Rattle.route_book.proofs.Exchanging.{other_more}
use Rattle.route_book.proofs.exchange.compared.Goals as goal

pub loop-place-preserved : goal.loop-place-preserved
loop-place-preserved c =
    let here : List Answer = c.args.here.now in
    let there : List Answer = c.args.there.now in
    let n : ℕ = c.loop-place.place in
    let a : Answer = c.in_ok-copy.field-0 in
    let lt : n < length there = (let t = c.loop-place-test.true in let e = c.requires in omega (arith, t, e)) in
    let read = c.index-there-place-in-loop-place in
    let is : (d : Answer) → get_or there n d ≡ a = λ d. sym (c.in_ok-copy.ensures ∙ get_or_read there n read.result lt read.is d) in
    rw (c.in_ok-push.ensures.items, c.in_ok-push-2.ensures.items) (other_more here there n c.loop-place.places.items c.loop-place.away.items c.loop-place.invariant a is)
