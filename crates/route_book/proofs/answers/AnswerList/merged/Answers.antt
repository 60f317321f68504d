-- The newer answer of one number more; in the end of all of them, so they are in order.
use Rattle.std.proofs.Common.{◌≡◌, ◌<◌, ℕ, Some, List, length, get_or, take, subst, arith}
use Rattle.std.specs.List.{AllZip}
use Rattle.std.proofs.lemmas.List.{get_or_default, take_all}
use Rattle.walk_model.specs.declared.route.Answer.{Answer}
use Rattle.par_route.proofs.Zips.{zip_more}
use Rattle.route_book.specs.Search.{newer}
use Rattle.route_book.proofs.Answering.Ordered.{in_order, newer_own, zip_edges}
use Rattle.route_book.proofs.answers.AnswerList.merged.Goals as goal

pub loop-number-preserved : goal.loop-number-preserved
loop-number-preserved c =
    let numbers = c.args.numbers.now in
    let i = c.loop-number.number-index in
    let n : ℕ = get_or numbers i 0 in
    let lt : i < length numbers = c.loop-number-test.true in
    let copy : Answer = c.in_ok-copy.field-0 in
    let R : ℕ → Answer → Type 0 = λ m a. newer c.args.found.now c.args.self.now m ≡ Some a in
    let here : R n copy = grind (arith, c.newer.ensures, c.unwrap-answer.ensures, c.in_ok-copy.ensures) in
    rw c.in_ok-push.ensures.items (zip_more R numbers c.loop-number.items.items i n copy lt (get_or_default numbers i 0 n lt) c.loop-number.invariant here)

pub invariant_of-result : goal.invariant_of-result
invariant_of-result c =
    let numbers = c.args.numbers.now in
    let all : take c.loop-number.number-index numbers ≡ numbers = take_all c.loop-number.number-index numbers c.loop-number-test.false in
    in_order c.loop-number.items.items numbers
    (zip_edges (λ n a. newer c.args.found.now c.args.self.now n ≡ Some a) (newer_own c.args.found.now c.args.self.now) numbers c.loop-number.items.items
    (subst (λ (ns : List ℕ). AllZip (λ n a. newer c.args.found.now c.args.self.now n ≡ Some a) ns c.loop-number.items.items) all c.loop-number.invariant))
    c.requires.order
