-- The walk goes on from a crossing before the point to the next one, and so it ends.
use Rattle.std.proofs.Common.{◌≡◌, ◌<◌, ◌∙◌, Some, subst, sym}
use Rattle.plane_geom.specs.Along.{IsFurther, reach}
use Rattle.line_arena.specs.Entries.{entry_at}
use Rattle.line_arena.specs.Lists.{IsFirstFrom, Stands, spot_at}
use Rattle.line_arena.proofs.Linking.Walk.{IsComing, coming_behind, coming_more, coming_next, found, found_none, left_at, left_falls, read_next, stands_live}
use Rattle.line_arena.proofs.lists.Lists.first_from.Goals as goal

pub next-next-requires-clause-from : goal.next-next-requires-clause-from
next-next-requires-clause-from c = λ k is.
    let a = c.args.self.now in
    let before = c.requires.before k is in
    stands_live a c.args.line c.args.dir k before.at before.stands

pub loop-crossing-init : goal.loop-crossing-init
loop-crossing-init c = coming_behind c.args.self.now c.args.line c.args.dir c.args.point c.requires.lists c.requires.runs c.args.from c.requires.before c.next-next.result c.next-next.ensures

pub returns-then-not-is_further : goal.returns-then-not-is_further
returns-then-not-is_further c =
    let a = c.args.self.now in
    let e = c.get.result.now in
    let is = subst (λ i. entry_at a.crossings i ≡ Some e) c.place.ensures c.get.ensures in
    let coming = subst (IsComing a c.args.line c.args.dir c.args.point) (sym c.crossing.ensures ∙ c.in-Some.is) c.loop-crossing.invariant in
    let not : IsFurther c.args.dir e.0 c.args.point → ⊥ = λ h. absurd (cc (c.is_further.ensures.1 h, c.if-not-is_further.true)) in
    subst (IsFirstFrom (Stands (spot_at a) c.args.line c.args.dir) (reach c.args.dir c.args.point)) (sym c.in-Some.is ∙ c.crossing.ensures)
    (found a c.args.line c.args.dir c.args.point c.requires.lists c.requires.runs c.in-Some.crossing e is coming not)

pub loop-crossing-smaller : goal.loop-crossing-smaller
loop-crossing-smaller c =
    let a = c.args.self.now in
    let e = c.get.result.now in
    let is = subst (λ i. entry_at a.crossings i ≡ Some e) c.place.ensures c.get.ensures in
    let coming = subst (IsComing a c.args.line c.args.dir c.args.point) (sym c.crossing.ensures ∙ c.in-Some.is) c.loop-crossing.invariant in
    let before : IsFurther c.args.dir e.0 c.args.point = c.is_further.ensures.0 c.if-not-is_further.false in
    let read = read_next a c.args.line c.in-Some.crossing c.args.dir e is c.next-next-in-Some.result c.next-next-in-Some.ensures in
    let next = coming_next a c.args.line c.args.dir c.args.point c.requires.lists c.requires.runs c.in-Some.crossing e is coming c.next-next-in-Some.result read in
    subst (λ o. left_at a c.args.dir c.args.point c.next-next-in-Some.result < left_at a c.args.dir c.args.point o) (sym c.in-Some.is ∙ c.crossing.ensures)
    (left_falls a c.args.line c.args.dir c.args.point c.in-Some.crossing e is before c.next-next-in-Some.result next)

pub loop-crossing-preserved : goal.loop-crossing-preserved
loop-crossing-preserved c =
    let a = c.args.self.now in
    let e = c.get.result.now in
    let is = subst (λ i. entry_at a.crossings i ≡ Some e) c.place.ensures c.get.ensures in
    let coming = subst (IsComing a c.args.line c.args.dir c.args.point) (sym c.crossing.ensures ∙ c.in-Some.is) c.loop-crossing.invariant in
    let before : IsFurther c.args.dir e.0 c.args.point = c.is_further.ensures.0 c.if-not-is_further.false in
    let read = read_next a c.args.line c.in-Some.crossing c.args.dir e is c.next-next-in-Some.result c.next-next-in-Some.ensures in
    coming_more a c.args.line c.args.dir c.args.point c.requires.lists c.requires.runs c.in-Some.crossing e is coming before c.next-next-in-Some.result read

pub returns : goal.returns
returns c =
    let a = c.args.self.now in
    rw c.none.ensures
    (found_none a c.args.line c.args.dir c.args.point c.requires.lists c.requires.runs
    (subst (IsComing a c.args.line c.args.dir c.args.point) (sym c.crossing.ensures ∙ c.in_default.is) c.loop-crossing.invariant))
