-- The list of all kept lines of a floor.
use Rattle.std.proofs.Common.{List}
use Rattle.std.specs.Prelude.{Contains}
use Rattle.std.proofs.lemmas.List.Elements.{All-contains}
use Rattle.plane_geom.specs.declared.floor.Line.{Line}
use Rattle.plane_geom.specs.declared.floor.Floor.{Floor}
use Rattle.plane_geom.specs.Floor.{IsKept}
use Rattle.plane_geom.proofs.Pieces.{longest_apart}
use Rattle.line_arena.specs.Arena.{Arena}
use Rattle.line_arena.specs.Stands.{IsComplete, StandsFor}
use Rattle.sweep_lines.specs.Kept.{AreAllKept}
use Rattle.visibility_graph.specs.Fill.{AreApart, AreLines}

module _ (floor : Floor) (ls : List Line) (all : AreAllKept floor ls) where
  pub is_kept : (l : Line) → Contains ls l → IsKept floor l
  is_kept l c = (All-contains (λ m. IsKept floor m × Unit {0}) ls l all.kept c).0

  pub kept_apart : AreApart (Contains ls)
  kept_apart = λ l m p c d whole on there. longest_apart floor l m p (is_kept l c).longest (is_kept m d).longest whole on there

  pub stands_for : (a : Arena) → AreLines a ls → IsComplete a → StandsFor floor a
  stands_for a lines complete = record {
    lines = λ l. (λ h. is_kept l ((lines l).0 h), λ k. (lines l).1 (all.all l k tt));
    complete = complete;
  }
