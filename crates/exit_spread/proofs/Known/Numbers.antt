-- The lists of an arena number the lines through its crossings.
use Rattle.std.proofs.Common.{◌≡◌, ℕ, Some, refl, sym, ap, subst, ◌∙◌}
use Rattle.std.specs.Prelude.{slice_get}
use Rattle.std.specs.FinMap.{get}
use Rattle.plane_geom.specs.declared.floor.Line.{Line}
use Rattle.plane_geom.specs.declared.point.Dir.{Dir}
use Rattle.plane_geom.specs.declared.point.Dir.TheVariants.{East, South, West, North}
use Rattle.plane_geom.specs.Along.{rising, way_of}
use Rattle.line_arena.specs.Arena.{Arena, IsArena, Pair, line_along}
use Rattle.line_lists.specs.Lists.{AreListsOf, HasNumber, Lists, number_of}
use Rattle.line_lists.proofs.Finished.{one_id}
use Rattle.line_lists.proofs.OnLine.{same_line}
use Rattle.exit_spread.specs.Ways.{AreNumbered}

-- a line is the same both ways along
rising_along : (d : Dir) (pair : Pair) → line_along (rising (way_of d)) pair ≡ line_along d pair
rising_along East pair = refl
rising_along South pair = refl
rising_along West pair = refl
rising_along North pair = refl

-- the line of the crossing along the direction has the number
pub numbered_line : (a : Arena) (lists : Lists) → AreListsOf a lists → (c : ℕ) (d : Dir) (pair : Pair) → get a.crossings c ≡ Some pair →
    HasNumber a lists (line_along d pair) (number_of lists c (way_of d))
numbered_line a lists of c d pair is =
    subst (λ id. HasNumber a lists id (number_of lists c (way_of d))) (rising_along d pair) (of.numbers c pair (way_of d) is)

pub lists_number : (a : Arena) (lists : Lists) → IsArena a → AreListsOf a lists → AreNumbered a (number_of lists)
lists_number a lists arena are = record {
  one = λ b c d e here there is_here is_there.
      let h = numbered_line a lists are b d here is_here in
      let k = numbered_line a lists are c e there is_there in (
        λ same.
            let lines : h.0 ≡ k.0 = same_line h.0 k.0 (sym h.1.listed ∙ ap (λ n. slice_get lists.lines n) same ∙ k.1.listed) in
            one_id a arena (line_along d here) (line_along e there) h.0 h.1.is (k.1.is ∙ ap (λ (l : Line). Some l) (sym lines)),
        λ same.
            let lines : h.0 ≡ k.0 = same_line h.0 k.0 (sym h.1.is ∙ ap (get a.lines) same ∙ k.1.is) in
            are.once (number_of lists b (way_of d)) (number_of lists c (way_of e)) h.0 h.1.listed (k.1.listed ∙ ap (λ (l : Line). Some l) (sym lines)),
      );
}
