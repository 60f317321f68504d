-- A line that is not refused can be judged.
use Rattle.std.proofs.Common.{◌≡◌, ◌≢◌, ℕ, ◌+◌, ◌*◌, ◌&&◌, Bool, not, true, false, List, [], ◌∷◌, length, Option, None, Some, refl, sym, subst, ◌∙◌, arith, int_eq, ltb-false, true≢false}
use Rattle.std.specs.Prelude.{ℤ, ◌≤ℤ◌, All, IsSomeAnd, int_lt, nat_lt, option_map, position}
use Rattle.std.specs.List.{AllByRecursion as Each}
use Rattle.std.proofs.lemmas.Bool.Decides.{Decides-int_eq}
use Rattle.std.proofs.lemmas.Int.{ints}
use Rattle.std.proofs.lemmas.List.Elements.{All-from_recursion}
use Rattle.plane_geom.specs.declared.point.Point.{Point}
use Rattle.plane_geom.specs.Point.{IsCoordinate, PointIsOnSheet, is_coordinate, sheet_end, sheet_start}
use Rattle.walk_model.specs.Line.{IsPolyline}
use Rattle.scene_model.specs.declared.edge.Edge.{Edge}
use Rattle.scene_model.specs.declared.fault.SceneFault.{SceneFault}
use Rattle.scene_model.specs.declared.fault.SceneFault.TheVariants.{SameNode, OutOfRange, TooMany}
use Rattle.scene_model.specs.Edits.{at_edge, unknown_edge, when}
use Rattle.scene_model.specs.Scene.{Scene, edge_with, is_loop}
use Rattle.scene_model.proofs.Editing.Refusals.{AreNone, all_none, known_edge, map_none, none_at, said_at, when_none}
use Rattle.drawing.specs.Checks.{is_off_sheet, unjudged}

different : (a b : ℤ) → int_eq a b ≡ false → a ≢ b
different a b h e = true≢false (sym ((Decides-int_eq a b).1 e) ∙ h)

both : (b c : Bool) → not (b && c) ≡ false → (b ≡ true) × (c ≡ true)
both true true h = (refl, refl)
both true false h = absurd (true≢false h)
both false c h = absurd (true≢false h)

neither : (b c : Bool) → (not b && not c) ≡ true → (b ≡ false) × (c ≡ false)
neither false false h = (refl, refl)
neither false true h = absurd (true≢false (sym h))
neither true c h = absurd (true≢false (sym h))

not_below : (a b : ℤ) → int_lt a b ≡ false → b ≤ℤ a
not_below a b h = omega (arith, ints, h)

coordinate : (z : ℤ) → is_coordinate z ≡ true → IsCoordinate z
coordinate z h = let t = neither (int_lt z sheet_start) (int_lt sheet_end z) h in record { low = not_below z sheet_start t.0; high = not_below sheet_end z t.1 }

on_sheet : (corners : List Point) → Each (λ p. is_off_sheet p ≡ false) corners → Each PointIsOnSheet corners
on_sheet [] h = tt
on_sheet (p ∷ ps) h = let t = both (is_coordinate p.x) (is_coordinate p.y) h.0 in (record { x = coordinate p.x t.0; y = coordinate p.y t.1 }, on_sheet ps h.1)

module _ (s : Scene) (number : ℕ) (corners : List Point) (free : unjudged s number corners ≡ None) where
  abbrev looped : Edge → Option SceneFault
  looped e = when (is_loop e) (SameNode e.from)

  none : AreNone (unknown_edge s number ∷ at_edge s number looped ∷ when (nat_lt 40000000 (length corners)) (TooMany 40000000)
      ∷ option_map (λ place. OutOfRange (2 * place + 3)) (position is_off_sheet corners) ∷ [])
  none = all_none (unknown_edge s number ∷ at_edge s number looped ∷ when (nat_lt 40000000 (length corners)) (TooMany 40000000)
      ∷ option_map (λ place. OutOfRange (2 * place + 3)) (position is_off_sheet corners) ∷ []) free

  -- the edge is there
  pub there : (e : Edge) × (edge_with s number ≡ Some e)
  there = known_edge s number none.0

  -- and is no loop
  pub has_task : IsSomeAnd (edge_with s number) (λ e. e.from ≢ e.to)
  has_task =
      let e = there.0 in
      subst (λ o. IsSomeAnd o (λ e. e.from ≢ e.to)) (sym there.1)
      (different e.from e.to (when_none (is_loop e) (SameNode e.from) (said_at (edge_with s number) e looped there.1 none.1.0)))

  -- the corners are those of a line
  pub polyline : IsPolyline corners
  polyline = record {
    within = All-from_recursion PointIsOnSheet corners (on_sheet corners (none_at is_off_sheet corners (map_none (λ place. OutOfRange (2 * place + 3)) (position is_off_sheet corners) none.1.1.1.0)));
    few = ltb-false 40000000 (length corners) (when_none (nat_lt 40000000 (length corners)) (TooMany 40000000) none.1.1.0);
  }
