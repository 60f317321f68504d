-- A run sweeps no part of a solid where its walls stop it.
use Rattle.std.proofs.Common.{sym, subst}
use Rattle.std.specs.Prelude.{All}
use Rattle.channel_bundles.specs.Walls.{StopsBefore, StopsBehind, greater, lesser}
use Rattle.channel_bundles.proofs.Facing.{AreWide, Rise, stopped_by_all, walls_are_wide}
use Rattle.channel_bundles.proofs.limits.clear_of.Goals as goal

pub up_to_first-requires-clause-rise : goal.up_to_first-requires-clause-rise
up_to_first-requires-clause-rise c = subst Rise (sym c.deref.ensures.value) c.requires.walls.onward.rise

pub up_to_first-requires-clause-wide : goal.up_to_first-requires-clause-wide
up_to_first-requires-clause-wide c =
    subst AreWide (sym c.deref.ensures.value) (walls_are_wide (greater c.args.run.now.way) c.args.walls.now.solids.now c.args.walls.now.onward.items c.requires.walls.onward c.requires.walls.solids)

pub from_first-requires-clause-rise : goal.from_first-requires-clause-rise
from_first-requires-clause-rise c = subst Rise (sym c.deref-2.ensures.value) c.requires.walls.backward.rise

pub from_first-requires-clause-wide : goal.from_first-requires-clause-wide
from_first-requires-clause-wide c =
    subst AreWide (sym c.deref-2.ensures.value) (walls_are_wide (lesser c.args.run.now.way) c.args.walls.now.solids.now c.args.walls.now.backward.items c.requires.walls.backward c.requires.walls.solids)

pub returns : goal.returns
returns c =
    let run = c.args.run.now in
    let walls = c.args.walls.now in
    λ z.
    let free = stopped_by_all run.way walls run z c.requires.walls c.requires.clear in
    let up = c.up_to_first.ensures z in
    let from = c.from_first.ensures z in (
      λ r.
          let f = from.0 r in
          let u = up.0 f.0 in
          (record { low = u.0.0; high = u.0.1 }, free.0 (subst (All (StopsBefore run z)) c.deref.ensures.value u.1, subst (All (StopsBehind run z)) c.deref-2.ensures.value f.1)),
      λ is.
          let stops = free.1 is.1 in
          from.1 (up.1 ((is.0.low, is.0.high), subst (All (StopsBefore run z)) (sym c.deref.ensures.value) stops.0), subst (All (StopsBehind run z)) (sym c.deref-2.ensures.value) stops.1),
    )
