-- Line by line.
use Rattle.std.proofs.Common.{◌≡◌, ◌<◌, List, ℕ, [], ◌∷◌, Ok, length, refl, ap, subst, arith}
use Rattle.std.proofs.lemmas.Bool.Decides.{nat_tests}
use Rattle.proof_text.specs.Reading.{State}
use Rattle.proof_text.proofs.Parting.{HaveRead, all_read, few_lines, goes_on, stuck}
use Rattle.proof_text.proofs.read.read_lines.Goals as goal

pub overflow_add-line : goal.overflow_add-line
overflow_add-line c =
    let s : State = (c.loop-rest.reader.done.items, c.loop-rest.reader.last) in
    let few = few_lines c.args.bytes.now c.loop-rest.rest.now c.loop-rest.line s c.loop-rest.invariant in
    let some : 0 < length c.loop-rest.rest.now = grind (arith, nat_tests, c.loop-rest-test.ensures) in
    omega (arith, few, some)

pub returns-in_default-clause-fault : goal.returns-in_default-clause-fault
returns-in_default-clause-fault c =
    let s : State = (c.loop-rest.reader.done.items, c.loop-rest.reader.last) in
    let some : 0 < length c.loop-rest.rest.now = grind (arith, nat_tests, c.loop-rest-test.ensures) in
    stuck c.args.bytes.now c.loop-rest.rest.now c.loop-rest.line s c.loop-rest.invariant (λ none. omega (arith, some, ap length none))
    (c.in_ok-after.ensures.stuck (ap Ok c.in_default.is))

pub loop-rest-preserved : goal.loop-rest-preserved
loop-rest-preserved c =
    let s : State = (c.loop-rest.reader.done.items, c.loop-rest.reader.last) in
    let t : State = (c.take_line.new.self.done.items, c.take_line.new.self.last) in
    goes_on c.args.bytes.now c.loop-rest.rest.now c.in-Some.after.now c.loop-rest.line s t c.loop-rest.invariant
    (rw c.in-Some.is at c.in_ok-after.ensures.goes_on)

empty : (xs : List ℕ) → length xs ≡ 0 → xs ≡ []
empty [] h = refl
empty (x ∷ xs) h = absurd (omega arith)

pub returns-clause-text : goal.returns-clause-text
returns-clause-text c =
    let s : State = (c.loop-rest.reader.done.items, c.loop-rest.reader.last) in
    let none : length c.loop-rest.rest.now ≡ 0 = grind (arith, nat_tests, c.loop-rest-test.ensures) in
    all_read c.args.bytes.now c.loop-rest.line s
    (subst (λ r. HaveRead c.args.bytes.now r c.loop-rest.line s) (empty c.loop-rest.rest.now none) c.loop-rest.invariant)
