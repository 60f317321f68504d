-- A label that is no lower than what is known changes nothing; another one is known from then on, and queued.
use Rattle.std.proofs.Common.{◌≡◌, ◌<◌, ◌≤◌, ℕ, ◌+◌, ◌*◌, Bool, if◌then◌else◌, Option, Some, ◌∷◌, length, get_or, heap_items, refl, sym, ap, subst, ◌∙◌, inl, inr, arith}
use Rattle.std.specs.Prelude.{All, Contains, sum_by}
use Rattle.std.proofs.Math.ListN.{set}
use Rattle.std.specs.declared.cmp.Reverse.{Reverse}
use Rattle.std.proofs.lemmas.Bool.{cases_lt, false≢true, lt-ltb}
use Rattle.std.proofs.lemmas.List.Sorted.{length_permutation}
use Rattle.std.proofs.lemmas.Nat.{mul-add-lt}
use Rattle.search_problem.specs.declared.queue.Candidate.{Candidate}
use Rattle.move_model.specs.declared.place.Place.{Place}
use Rattle.proof_search.specs.Labels.{empty_row, label_in, with_label}
use Rattle.proof_search.specs.Tables.{HasRow, row_of}
use Rattle.proof_search.specs.declared.label.Label.TheVariants.{Absent, Open}
use Rattle.proof_search.specs.declared.label.Label.{Label}
use Rattle.proof_model.specs.Rules.{Suffices}
use Rattle.search_problem.proofs.Queues.{push_all, push_has, push_keeps}
use Rattle.proof_search.specs.Scopes.{claim_of, label_for}
use Rattle.proof_search.specs.Search.{IsPlace, IsReachedAt, cost_at, cost_in, label_at, label_weight, row_weight}
use Rattle.proof_search.specs.declared.labels.Labels.{Labels}
use Rattle.proof_search.proofs.Offers.Offering.{opened, opened_spreads}
use Rattle.proof_search.proofs.Offers.Scopes.{known_suffices, none_suffices, reached_by, small_label}
use Rattle.proof_search.proofs.Offers.Weights.{lighter_label, lighter_rows}
use Rattle.proof_search.proofs.labels.Labels.offer.Goals as goal
use Rattle.proof_search.proofs.labels.Labels.offer.Goals.{After-put}

pub returns-in_default-clause-offered : goal.returns-in_default-clause-offered
returns-in_default-clause-offered c =
    let p = c.args.problem.now in
    let s = c.args.scope in
    let x = c.args.place.now in
    let none = sym c.label.ensures ∙ c.in_default.is in
    none_suffices s (cost_at c.args.self.now x) c.args.cost none (λ w e. small_label p s x c.requires.ready w (c.requires.searching.1.reached x w e))

pub returns-then-is_at_most-clause-offered : goal.returns-then-is_at_most-clause-offered
returns-then-is_at_most-clause-offered c =
    let s = c.args.scope in
    let known = c.if-is_at_most.ensures.0 refl in
    let is : cost_at c.args.self.now c.args.place.now ≡ Some known.0 = ap cost_in (sym c.label-2.ensures) ∙ known.1 in
    subst (λ (o : Option ℕ). Suffices (claim_of s) o c.args.cost) (sym is)
    (known_suffices s c.args.cost c.in-Some.cost known.0 (sym c.label.ensures ∙ c.in-Some.is) known.2)

-- the labels once the label is put
abbrev after : After-put → Labels
after c = record { table = c.put.new.self; queue = c.push.new.self }

label_is : (c : After-put) → label_for c.args.scope c.args.cost ≡ Some c.in-Some.cost
label_is c = sym c.label.ensures ∙ c.in-Some.is

-- the place is reached, and had no label or a higher one
reached : (c : After-put) → IsReachedAt c.args.problem.now c.args.scope c.args.place.now c.in-Some.cost
reached c = reached_by c.args.problem.now c.args.scope c.args.place.now c.args.cost c.in-Some.cost c.requires.coming (label_is c)

higher : (c : After-put) (w : ℕ) → cost_at c.args.self.now c.args.place.now ≡ Some w → c.in-Some.cost < w
higher c w e = elim (cases_lt c.in-Some.cost w) as (λ _. c.in-Some.cost < w) [
  | inl less ↦ less
  | inr upto ↦ absurd (false≢true (c.if-is_at_most.ensures.1 (w, ap cost_in c.label-2.ensures ∙ e, upto)))
]

-- the queue has the candidate and what it had before
abbrev candidate : After-put → Reverse (Candidate Place)
candidate c = record { 0 = record { bound = c.in-Some.cost; item = c.args.place.now } }

kept : (c : After-put) (d : Reverse (Candidate Place)) → Contains (heap_items c.args.self.now.queue.heap) d → Contains (heap_items c.push.new.self.heap) d
kept c = push_keeps (candidate c) (heap_items c.args.self.now.queue.heap) (heap_items c.push.new.self.heap) c.in_ok-push.ensures.ok

has : (c : After-put) → Contains (heap_items c.push.new.self.heap) (candidate c)
has c = push_has (candidate c) (heap_items c.args.self.now.queue.heap) (heap_items c.push.new.self.heap) c.in_ok-push.ensures.ok

places : (c : After-put) → All (λ d. IsPlace c.args.problem.now d.0.item) (heap_items c.push.new.self.heap)
places c =
    let old = heap_items c.args.self.now.queue.heap in
    let new = heap_items c.push.new.self.heap in
    let coming = c.requires.coming in
    push_all (candidate c) old new c.in_ok-push.ensures.ok (λ (d : Reverse (Candidate Place)). IsPlace c.args.problem.now d.0.item)
    c.requires.searching.1.candidates (record { at = coming.at; here = coming.here; stage = coming.stage })

pub returns-clause-searching : goal.returns-clause-searching
returns-clause-searching c = λ but searching.
    opened c.args.problem.now c.requires.ready c.args.scope c.args.self.now (after c) but searching c.args.place.now c.in-Some.cost c.with_cost.result
    c.with_cost.ensures (reached c)
    (λ w e. omega (arith, higher c w e)) c.put.ensures (kept c) (c.in-Some.cost, has c) (places c)

pub returns-clause-spreads : goal.returns-clause-spreads
returns-clause-spreads c =
    let s = c.requires.searching in
    opened_spreads c.args.problem.now c.requires.ready c.args.scope c.args.self.now (after c) s.0 s.1 c.args.place.now c.in-Some.cost c.with_cost.result
    c.with_cost.ensures (reached c)
    (λ w e. omega (arith, higher c w e)) c.put.ensures (kept c) (c.in-Some.cost, has c) (places c)

pub returns-clause-offered : goal.returns-clause-offered
returns-clause-offered c =
    let s = c.args.scope in
    let v = c.in-Some.cost in
    let is : cost_at (after c) c.args.place.now ≡ Some v = ap cost_in c.put.ensures.changed ∙ ap Some c.with_cost.ensures in
    subst (λ (o : Option ℕ). Suffices (claim_of s) o c.args.cost) (sym is) (known_suffices s c.args.cost v v (label_is c) (omega arith))

pub returns-clause-lighter : goal.returns-clause-lighter
returns-clause-lighter c =
    let s = c.args.scope in
    let old = c.args.self.now in
    let x = c.args.place.now in
    let v = c.with_cost.result in
    let rows = old.table.rows.items in
    let k = row_of old.table x in
    let places = old.table.places in
    let rooms = c.requires.searching.1.rooms in
    let stages = length c.args.problem.now.task.now.via + 1 in
    let within : x.crossing < places = omega (arith, c.index-number.ensures.number, c.index-number.ensures.within, rooms.places) in
    let room = mul-add-lt x.stage places x.crossing stages (omega (arith, c.requires.coming.stage)) within in
    let as_many : stages * places ≡ stages * c.args.problem.now.arena.now.places = ap (λ n. stages * n) rooms.places in
    let row : HasRow old.table x = record { crossing = within; stage = omega (arith, room, as_many, rooms.rows) } in
    let known : label_at old x ≡ label_in (get_or rows k empty_row) x.heading = ap
    (λ (b : Bool). if b then label_in (get_or rows k empty_row) x.heading else Absent) (lt-ltb x.crossing old.table.places row.crossing) in
    let small = small_label c.args.problem.now s x c.requires.ready c.in-Some.cost (reached c) in
    let label = lighter_label s (label_at old x) c.in-Some.cost small (higher c) in
    let first : label_weight s (Open v) + 1 ≤ label_weight s (label_at old x) = omega (arith, label, c.with_cost.ensures) in
    let lower = subst (λ (l : Label). label_weight s (Open v) + 1 ≤ label_weight s l) known first in
    let all = lighter_rows s rows k x.heading (Open v) 1 row.stage lower in
    let sum : sum_by (row_weight s) c.put.new.self.rows.items ≡ sum_by (row_weight s) (set rows k (with_label (get_or rows k empty_row) x.heading (Open v)))
    = ap (sum_by (row_weight s)) c.put.ensures.written in
    let count = length_permutation (candidate c ∷ heap_items old.queue.heap) (heap_items c.push.new.self.heap) c.in_ok-push.ensures.ok in
    omega (arith, all, sum, count)
