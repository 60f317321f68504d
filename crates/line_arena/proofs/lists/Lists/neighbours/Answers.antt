-- Of two crossings next to each other, the point is beyond the first and not beyond the second.
use Rattle.std.proofs.Common.{◌∙◌, None, Some, ap, sym, subst}
use Rattle.plane_geom.specs.Point.{opposite}
use Rattle.plane_geom.specs.Along.{reach}
use Rattle.line_arena.specs.Lists.{IsFirstFrom, IsNext, Stands, link, spot_at}
use Rattle.line_arena.proofs.Linking.Walk.{across, free_back, last_back, none_on, opposite-twice, past_from, runs_back, start_live}
use Rattle.line_arena.proofs.lists.Lists.neighbours.Goals as goal
use Rattle.line_arena.proofs.lists.Lists.neighbours.Goals.{After-next-back, After-next-on}

on_past : (c : After-next-back) → IsNext (Stands (spot_at c.args.self.now) c.args.line c.args.dir) (Some (reach c.args.dir c.args.point)) c.first_from-on.result
on_past c = past_from (Stands (spot_at c.args.self.now) c.args.line c.args.dir) (reach c.args.dir c.args.point) c.requires.free c.first_from-on.result c.first_from-on.ensures

back_past : (c : After-next-on) → IsNext (Stands (spot_at c.args.self.now) c.args.line (opposite c.args.dir)) (Some (reach (opposite c.args.dir) c.args.point)) c.first_from-back.result
back_past c =
    let a = c.args.self.now in
    let e = opposite c.args.dir in
    past_from (Stands (spot_at a) c.args.line e) (reach e c.args.point) (free_back a c.args.line c.args.dir c.requires.runs c.requires.lists c.args.point c.requires.free) c.first_from-back.result
    (subst (λ e. IsFirstFrom (Stands (spot_at a) c.args.line e) (reach e c.args.point) c.first_from-back.result) c.opposite-else-starts_nearer.ensures c.first_from-back.ensures)

-- the line's last crossing is there
pub is_beyond-requires : goal.is_beyond-requires
is_beyond-requires c =
    let a = c.args.self.now in
    let d = c.args.dir in
    let read = c.next-last.ensures ∙ ap (λ f. link a c.args.line f c.opposite.result) c.none.ensures ∙ ap (link a c.args.line None) c.opposite.ensures in
    start_live a c.args.line (opposite d) (runs_back a c.args.line d c.requires.runs) c.requires.lists c.next-last.result read

pub returns-then-is_beyond-clause-back : goal.returns-then-is_beyond-clause-back
returns-then-is_beyond-clause-back c =
    let a = c.args.self.now in
    let read = c.next-last.ensures ∙ ap (λ f. link a c.args.line f c.opposite.result) c.none.ensures ∙ ap (link a c.args.line None) c.opposite.ensures in
    last_back a c.args.line c.args.dir c.requires.runs c.requires.lists c.args.point c.next-last.result read (c.is_beyond.ensures c.if-is_beyond.true)

pub returns-then-is_beyond-clause-on : goal.returns-then-is_beyond-clause-on
returns-then-is_beyond-clause-on c =
    let a = c.args.self.now in
    let read = c.next-last.ensures ∙ ap (λ f. link a c.args.line f c.opposite.result) c.none.ensures ∙ ap (link a c.args.line None) c.opposite.ensures in
    subst (IsNext (Stands (spot_at a) c.args.line c.args.dir) (Some (reach c.args.dir c.args.point))) (sym c.none-then-is_beyond.ensures)
    (none_on a c.args.line c.args.dir c.requires.runs c.requires.lists c.args.point c.next-last.result read (c.is_beyond.ensures c.if-is_beyond.true))

pub returns-then-starts_nearer-clause-on : goal.returns-then-starts_nearer-clause-on
returns-then-starts_nearer-clause-on c = on_past c

pub returns-then-starts_nearer-clause-back : goal.returns-then-starts_nearer-clause-back
returns-then-starts_nearer-clause-back c =
    let a = c.args.self.now in
    let read = c.next-back.ensures ∙ ap (link a c.args.line c.first_from-on.result) c.opposite-then-starts_nearer.ensures in
    subst (IsNext (Stands (spot_at a) c.args.line (opposite c.args.dir)) (Some (reach (opposite c.args.dir) c.args.point))) (sym read)
    (across a c.args.line c.args.dir c.requires.runs c.requires.lists c.args.point c.requires.free c.first_from-on.result (on_past c))

pub returns-else-starts_nearer-clause-back : goal.returns-else-starts_nearer-clause-back
returns-else-starts_nearer-clause-back c = back_past c

pub returns-else-starts_nearer-clause-on : goal.returns-else-starts_nearer-clause-on
returns-else-starts_nearer-clause-on c =
    let a = c.args.self.now in
    let d = c.args.dir in
    let p = c.args.point in
    let back = c.first_from-back.result in
    let on = across a c.args.line (opposite d) (runs_back a c.args.line d c.requires.runs) c.requires.lists p
    (free_back a c.args.line d c.requires.runs c.requires.lists p c.requires.free) back (back_past c) in
    subst (IsNext (Stands (spot_at a) c.args.line d) (Some (reach d p))) (sym c.next-on.ensures)
    (subst (λ e. IsNext (Stands (spot_at a) c.args.line e) (Some (reach e p)) (link a c.args.line back e)) (opposite-twice d) on)
