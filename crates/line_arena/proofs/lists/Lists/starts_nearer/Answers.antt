-- The crossings at which a list begins and ends are there.
use Rattle.std.proofs.Common.{◌≢◌, ◌∙◌, None, ap, sym, subst}
use Rattle.plane_geom.specs.Point.{opposite}
use Rattle.line_arena.specs.Entries.{entry_at}
use Rattle.line_arena.specs.Lists.{link}
use Rattle.line_arena.proofs.Linking.Walk.{runs_back, start_live}
use Rattle.line_arena.proofs.lists.Lists.starts_nearer.Goals as goal

-- the last crossing is there
pub get-requires : goal.get-requires
get-requires c =
    let a = c.args.self.now in
    let read = c.next-2.ensures ∙ ap (λ f. link a c.args.line f c.opposite.result) c.none-2.ensures ∙ ap (link a c.args.line None) c.opposite.ensures in
    subst (λ i. entry_at a.crossings i ≢ None) (sym c.place.ensures)
    (start_live a c.args.line (opposite c.args.dir) (runs_back a c.args.line c.args.dir c.requires.runs) c.requires.lists c.next-2.result read c.in-Some-Some.stop (sym c.crossing-stop.ensures ∙ c.in-Some-Some.is-1))

-- the first crossing is there
pub get-requires-2 : goal.get-requires-2
get-requires-2 c =
    let a = c.args.self.now in
    let read = c.next.ensures ∙ ap (λ f. link a c.args.line f c.args.dir) c.none.ensures in
    subst (λ i. entry_at a.crossings i ≢ None) (sym c.place-2.ensures)
    (start_live a c.args.line c.args.dir c.requires.runs c.requires.lists c.next.result read c.in-Some-Some.start (sym c.crossing-start.ensures ∙ c.in-Some-Some.is-0))
