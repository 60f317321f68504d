-- A crossing that goes last on both its lines has none beyond it; otherwise its neighbours are looked for.
use Rattle.std.proofs.Common.{◌≢◌, ◌∙◌, None, Some, ap, sym, subst}
use Rattle.plane_geom.specs.Along.{reach}
use Rattle.plane_geom.specs.declared.point.Dir.TheVariants.{East, South, West, North}
use Rattle.line_arena.specs.Entries.{entry_at}
use Rattle.line_arena.specs.Lists.{IsNext, Stands, link, spot_at}
use Rattle.line_arena.proofs.Linking.Put.{spot_runs}
use Rattle.line_arena.proofs.Linking.Walk.{last_back, next_live, none_on, stands_live, start_live}
use Rattle.line_arena.proofs.lists.Lists.node_at.Goals as goal

-- the line's last crossing is there
pub is_beyond-requires : goal.is_beyond-requires
is_beyond-requires c =
    let a = c.args.self.now in
    start_live a c.args.vertical North (spot_runs a _ c.requires.spot North) c.requires.lists c.next-north.result (c.next-north.ensures ∙ ap (λ f. link a c.args.vertical f North) c.none.ensures)

pub is_beyond-requires-then-is_beyond : goal.is_beyond-requires-then-is_beyond
is_beyond-requires-then-is_beyond c =
    let a = c.args.self.now in
    start_live a c.args.horizontal West (spot_runs a _ c.requires.spot West) c.requires.lists c.next-west.result (c.next-west.ensures ∙ ap (λ f. link a c.args.horizontal f West) c.none-2.ensures)

pub returns-then-is_beyond-2-clause-next : goal.returns-then-is_beyond-2-clause-next
returns-then-is_beyond-2-clause-next c =
    let a = c.args.self.now in
    let p = c.args.point in
    let lists = c.requires.lists in
    let down = spot_runs a _ c.requires.spot South in
    let across = spot_runs a _ c.requires.spot East in
    let north = c.next-north.ensures ∙ ap (λ f. link a c.args.vertical f North) c.none.ensures in
    let west = c.next-west.ensures ∙ ap (λ f. link a c.args.horizontal f West) c.none-2.ensures in
    let below = c.is_beyond.ensures c.if-is_beyond.true in
    let right = c.is_beyond-then-is_beyond.ensures c.if-is_beyond-2.true in
    elim [
      | East ↦ subst (IsNext (Stands (spot_at a) c.args.horizontal East) (Some (reach East p))) (sym c.none-then-is_beyond-2.ensures) (none_on a c.args.horizontal East across lists p c.next-west.result west right)
      | South ↦ subst (IsNext (Stands (spot_at a) c.args.vertical South) (Some (reach South p))) (sym c.none-then-is_beyond-2-2.ensures) (none_on a c.args.vertical South down lists p c.next-north.result north below)
      | West ↦ last_back a c.args.horizontal East across lists p c.next-west.result west right
      | North ↦ last_back a c.args.vertical South down lists p c.next-north.result north below
    ]

pub neighbours-north-requires-clause-beside : goal.neighbours-north-requires-clause-beside
neighbours-north-requires-clause-beside c =
    let a = c.args.self.now in
    start_live a c.args.horizontal West (spot_runs a _ c.requires.spot West) c.requires.lists c.next-west.result (c.next-west.ensures ∙ ap (λ f. link a c.args.horizontal f West) c.none-2.ensures)

pub neighbours-west-requires-clause-beside : goal.neighbours-west-requires-clause-beside
neighbours-west-requires-clause-beside c =
    let a = c.args.self.now in
    next_live (Stands (spot_at a) c.args.vertical North) (λ k. entry_at a.crossings k ≢ None) (stands_live a c.args.vertical North) (Some (reach North c.args.point)) c.neighbours-north.result.0 c.neighbours-north.ensures.back

pub neighbours-north-requires-clause-free : goal.neighbours-north-requires-clause-free
neighbours-north-requires-clause-free c = c.requires.free South

pub neighbours-west-requires-clause-free : goal.neighbours-west-requires-clause-free
neighbours-west-requires-clause-free c = c.requires.free East

pub returns-clause-next : goal.returns-clause-next
returns-clause-next c = elim [
  | East ↦ c.neighbours-west.ensures.on
  | South ↦ c.neighbours-north.ensures.on
  | West ↦ c.neighbours-west.ensures.back
  | North ↦ c.neighbours-north.ensures.back
]
