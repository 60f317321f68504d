-- The new crossing has its neighbours, and they get it as their neighbour.
use Rattle.std.proofs.Common.{ℕ, Some, ap, refl, sym, subst}
use Rattle.std.specs.Option.{option_map}
use Rattle.plane_geom.specs.Along.{reach}
use Rattle.plane_geom.specs.declared.point.Dir.{Dir}
use Rattle.plane_geom.specs.declared.point.Point.{Point}
use Rattle.line_arena.specs.declared.lists.Lists.{Lists}
use Rattle.line_arena.specs.declared.node.Node.{Node}
use Rattle.line_arena.specs.Node.{next_of}
use Rattle.line_arena.specs.Lists.{AreLinked, IsNext, IsSound, KnowsNeighbours, Stands, line_at, spot_at, spot_of, without}
use Rattle.line_arena.proofs.Linking.Joined.{line_of-spot}
use Rattle.line_arena.proofs.Linking.Put.{free_at, knows_with, linked_with, new_point, node_spot, sound_same, sound_with}
use Rattle.line_arena.proofs.lists.Lists.put_crossing.Goals as goal
use Rattle.line_arena.proofs.lists.Lists.put_crossing.Goals.{After-insert}

pub node_at-node-requires-clause-free : goal.node_at-node-requires-clause-free
node_at-node-requires-clause-free c =
    let a = c.args.self.now in
    free_at (line_at a) (spot_at a) c.requires.lists.sound _ c.meeting_point-point.ensures c.requires.new_pair

-- the lines, and the crossings with the new one
abbrev lists_here : After-insert → Lists
lists_here c = record { lines = c.args.self.now.lines; crossings = c.insert.new.self }

-- all is sound, this crossing knows its neighbours, and the others are linked
record IsPutIn (a : Lists) (k : ℕ) : Type 0 where
  sound : IsSound (line_at a) (spot_at a)
  knows : KnowsNeighbours a k
  linked : (d : Dir) → AreLinked a (without k (spot_at a)) d

-- so it is once the new crossing is in
put_in : (c : After-insert) → IsPutIn (lists_here c) c.insert.result
put_in c =
    let a = c.args.self.now in
    let b = lists_here c in
    let e : Point × Node = (c.meeting_point-point.result, c.node_at-node.result) in
    let at = node_spot (line_at a) c.meeting_point-point.result c.args.vertical c.args.horizontal c.node_at-node.result c.node_at-node.ensures.vertical c.node_at-node.ensures.horizontal c.meeting_point-point.ensures in
    let gone = ap (option_map spot_of) c.insert.ensures.new_id in
    let new = new_point (line_at a) (spot_at a) c.requires.lists.sound _ c.meeting_point-point.ensures c.requires.new_pair in
    record {
      sound = sound_with a b c.insert.result e c.requires.lists at gone new refl c.insert.ensures.updates;
      knows = knows_with a b c.insert.result e c.requires.lists at gone new refl c.insert.ensures.updates
          (λ d. subst (λ l. IsNext (Stands (spot_at a) l d) (Some (reach d e.0)) (next_of d e.1)) (line_of-spot d e) (c.node_at-node.ensures.next d));
      linked = linked_with a b c.insert.result e c.requires.lists at gone new refl c.insert.ensures.updates;
    }

pub link_all-requires-clause-knows : goal.link_all-requires-clause-knows
link_all-requires-clause-knows c =
    let at = (goal.at.link_all-requires-clause-knows c).After-insert in
    subst (KnowsNeighbours (lists_here at)) (sym c.new-crossing.ensures) (put_in at).knows

pub link_all-requires-clause-others : goal.link_all-requires-clause-others
link_all-requires-clause-others c =
    let at = (goal.at.link_all-requires-clause-others c).After-insert in
    subst (λ k. (d : Dir) → AreLinked (lists_here at) (without k (spot_at (lists_here at))) d) (sym c.new-crossing.ensures) (put_in at).linked

pub returns-clause-lists : goal.returns-clause-lists
returns-clause-lists c =
    let at = (goal.at.returns-clause-lists c).After-insert in
    record { sound = sound_same (lists_here at) c.link_all.new.self c.link_all.ensures.places (put_in at).sound; linked = c.link_all.ensures.linked }
