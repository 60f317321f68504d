-- The lines and crossings of the grid of the tests.
use Rattle.std.proofs.Common.{◌≡◌, ◌⊎◌, ℕ, ◌<◌, pos, ◌<ℤ◌, Option, Some, None, cond, inl, inr, refl, sym, ap, ◌∙◌, arith}
use Rattle.std.proofs.lemmas.Int.{ints}
use Rattle.std.proofs.lemmas.Bool.{cases_Bool}
use Rattle.std.proofs.lemmas.Cmp.{nat_cmp_total}
use Rattle.std.specs.Ordering.{nat_cmp, eq_by_cmp}
use Rattle.std.specs.FinMap.{FinMap, empty, get, insert, get-empty, get-insert}
use Rattle.plane_geom.specs.declared.point.Point.{Point}
use Rattle.plane_geom.specs.declared.point.Way.TheVariants.{Vertical, Horizontal}
use Rattle.plane_geom.specs.declared.floor.Line.{Line}
use Rattle.plane_geom.specs.Floor.{AreOnOneWholeLine}
use Rattle.line_arena.specs.Arena.{Arena, Meet, StandsAt}
use Rattle.line_arena.specs.Fixtures.{grid_line_of, grid_point_of}

some_line : (x y : Line) → ◌≡◌ {A = Option Line} (Some x) (Some y) → x ≡ y
some_line x y e = cc

none_line : (m : Line) → ◌≡◌ {A = Option Line} None (Some m) → ⊥
none_line m e = cc

pub in_empty : (map : FinMap nat_cmp Line) (i : ℕ) (m : Line) → map ≡ empty → get map i ≡ Some m → ⊥
in_empty map i m e is = none_line m (sym (get-empty nat_cmp i) ∙ ap (λ x. get x i) (sym e) ∙ is)

-- what is in a map after an insert was put in or was there
pub in_insert : (map : FinMap nat_cmp Line) (k i : ℕ) (line m : Line) → get (insert map k line) i ≡ Some m → (line ≡ m) ⊎ (get map i ≡ Some m)
in_insert map k i line m is =
    elim (cases_Bool (eq_by_cmp nat_cmp i k)) [
      | inl t ↦ inl (some_line line m (sym (get-insert nat_cmp_total map k line i ∙ ap (λ b. cond b (Some line) (get map i)) t) ∙ is))
      | inr f ↦ inr (sym (get-insert nat_cmp_total map k line i ∙ ap (λ b. cond b (Some line) (get map i)) f) ∙ is)
    ]

pub other_ways : (at : ℕ) (m : Line) → grid_line_of Vertical at ≡ m → AreOnOneWholeLine m (grid_line_of Horizontal at) → ⊥
other_ways at m e whole = different (ap (λ l. l.way) e ∙ whole.way)
  where
    different : Vertical ≡ Horizontal → ⊥
    different h = cc

pub not_before : (at : ℕ) (m : Line) (line : Line) → m.at <ℤ pos at → line.at ≡ pos at → AreOnOneWholeLine m line → ⊥
not_before at m line before is whole = let e = whole.at in omega (arith, ints)

pub meet_grid : (v : Arena) (i j column row : ℕ) → get v.lines i ≡ Some (grid_line_of Vertical column) → get v.lines j ≡ Some (grid_line_of Horizontal row)
    → column < 30 → row < 30 → Meet v i j
meet_grid v i j column row is_i is_j c r = record {
  down = grid_line_of Vertical column;
  across = grid_line_of Horizontal row;
  is_down = is_i;
  is_across = is_j;
  down_runs = refl;
  across_runs = refl;
  point = grid_point_of column row;
  on_down = record { along = pos row; from = omega (arith, ints); to = omega (arith, ints); here = refl };
  on_across = record { along = pos column; from = omega (arith, ints); to = omega (arith, ints); here = refl };
}

pub new_grid : (v : Arena) (i j column row : ℕ) → get v.lines i ≡ Some (grid_line_of Vertical column) → get v.lines j ≡ Some (grid_line_of Horizontal row)
    → column < 30 → row < 30 → ((c : ℕ) → StandsAt v c (grid_point_of column row) → ⊥) → (c : ℕ) → get v.crossings c ≡ Some (record { vertical = i; horizontal = j }) → ⊥
new_grid v i j column row is_i is_j c r none k is = none k (record {
  pair = record { vertical = i; horizontal = j };
  is = is;
  down = grid_line_of Vertical column;
  across = grid_line_of Horizontal row;
  is_down = is_i;
  is_across = is_j;
  on_down = record { along = pos row; from = omega (arith, ints); to = omega (arith, ints); here = refl };
  on_across = record { along = pos column; from = omega (arith, ints); to = omega (arith, ints); here = refl };
})

-- where lines and crossings are the same, so is where crossings stand
pub stands_same : (v u : Arena) (k : ℕ) (p : Point) → u.lines ≡ v.lines → u.crossings ≡ v.crossings → StandsAt u k p → StandsAt v k p
stands_same v u k p lines crossings h = record {
  pair = h.pair;
  is = ap (λ m. get m k) (sym crossings) ∙ h.is;
  down = h.down;
  across = h.across;
  is_down = ap (λ m. get m h.pair.vertical) (sym lines) ∙ h.is_down;
  is_across = ap (λ m. get m h.pair.horizontal) (sym lines) ∙ h.is_across;
  on_down = h.on_down;
  on_across = h.on_across;
}
