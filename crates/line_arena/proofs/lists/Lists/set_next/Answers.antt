-- One link is changed, at the line's end or at a crossing, and no other.
use Rattle.std.proofs.Common.{◌≡◌, ◌∙◌, Some, sym, subst}
use Rattle.slab.specs.Slab.{Updates}
use Rattle.line_arena.specs.Entries.{entry_at}
use Rattle.line_arena.specs.Lists.{Relinks}
use Rattle.line_arena.proofs.Linking.Relinked.{relinks_next, relinks_start}
use Rattle.line_arena.proofs.lists.Lists.set_next.Goals as goal

pub returns-in-None : goal.returns-in-None
returns-in-None c =
    let a = c.args.self.now in
    let e = c.get.result.now in
    let is = subst (λ i. entry_at a.lines i ≡ Some e) c.place.ensures c.get.ensures in
    let at = subst (λ i. entry_at a.lines i ≡ Some e) (sym c.place-in-None.ensures) is in
    let updates = subst (λ i. Updates a.lines.slab c.set.new.self.slab i (Some (e.0, c.with_start.result))) c.place-in-None.ensures (c.set.ensures.updates e at) in
    let same = subst (λ n. Updates a.lines.slab c.set.new.self.slab c.args.line (Some (e.0, n))) c.with_start.ensures updates in
    subst (λ f. Relinks a (record { lines = c.set.new.self; crossings = a.crossings }) c.args.line f c.args.dir c.args.to) (sym c.in-None.is ∙ c.crossing.ensures)
    (relinks_start a c.set.new.self c.args.line c.args.dir c.args.to e c.requires.runs is same c.set.ensures.len c.set.ensures.room)

pub returns-in-Some : goal.returns-in-Some
returns-in-Some c =
    let a = c.args.self.now in
    let e = c.get-in-Some.result.now in
    let k = c.in-Some.crossing in
    let new = c.set-in-Some.new.self in
    let is = subst (λ i. entry_at a.crossings i ≡ Some e) c.place-in-Some.ensures c.get-in-Some.ensures in
    let at = subst (λ i. entry_at a.crossings i ≡ Some e) (sym c.place-in-Some-2.ensures) is in
    let updates = subst (λ i. Updates a.crossings.slab new.slab i (Some (e.0, c.with_next.result))) c.place-in-Some-2.ensures (c.set-in-Some.ensures.updates e at) in
    let same = subst (λ n. Updates a.crossings.slab new.slab k (Some (e.0, n))) c.with_next.ensures updates in
    subst (λ f. Relinks a (record { lines = a.lines; crossings = new }) c.args.line f c.args.dir c.args.to) (sym c.in-Some.is ∙ c.crossing.ensures)
    (relinks_next a new c.args.line k c.args.dir c.args.to e is same c.set-in-Some.ensures.len c.set-in-Some.ensures.room c.set-in-Some.ensures.capacity)
