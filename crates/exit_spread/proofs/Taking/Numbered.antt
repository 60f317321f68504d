-- Rows of lines, by the numbers of the lines through crossings.
use Rattle.std.proofs.Common.{◌≡◌, ℕ, ◌<◌, zero, suc, Some, length, refl, sym, ap, ◌∙◌, inl, inr, arith}
use Rattle.std.specs.Prelude.{slice_index_or}
use Rattle.std.specs.FinMap.{get}
use Rattle.std.proofs.lemmas.Bool.{cases_lt}
use Rattle.std.proofs.lemmas.List.{get_or_past}
use Rattle.plane_geom.specs.declared.floor.Line.{Line}
use Rattle.plane_geom.specs.declared.point.Point.{Point}
use Rattle.plane_geom.specs.declared.point.Dir.{Dir}
use Rattle.plane_geom.specs.declared.point.Dir.TheVariants.{East, South, West, North}
use Rattle.plane_geom.specs.declared.point.Way.{Way}
use Rattle.plane_geom.specs.declared.point.Way.TheVariants.{Vertical, Horizontal}
use Rattle.plane_geom.specs.Along.{way_of}
use Rattle.line_arena.specs.Arena.{Arena, IsArena, StandsAt, line_along}
use Rattle.line_arena.proofs.Arenas.ArenaLaws.{held_in, placed}
use Rattle.line_lists.specs.Lists.{AreListsOf, Lists, number_of}
use Rattle.line_lists.specs.Numbers.{no_numbers, number_in}
use Rattle.exit_rows.specs.Rows.{side}
use Rattle.exit_spread.specs.Ways.{AreNumbered}
use Rattle.exit_spread.proofs.Known.Numbers.{lists_number}

-- a heading is determined by its way and its side
abbrev heading_of : Way → ℕ → Dir
heading_of Vertical zero = North
heading_of Vertical (suc n) = South
heading_of Horizontal zero = West
heading_of Horizontal (suc n) = East

heading_again : (d : Dir) → heading_of (way_of d) (side d) ≡ d
heading_again East = refl
heading_again South = refl
heading_again West = refl
heading_again North = refl

module _ (a : Arena) (arena : IsArena a) (number_of : ℕ → Way → ℕ) (numbered : AreNumbered a number_of) where
  -- lines with one number lie one way
  pub one_way : (b c : ℕ) (d h : Dir) (p q : Point) → StandsAt a b p → StandsAt a c q → number_of b (way_of d) ≡ number_of c (way_of h) → way_of d ≡ way_of h
  one_way b c d h p q at_p at_q same =
      let u = placed a b p arena at_p in
      let v = placed a c q arena at_q in
      let k = held_in a b p d u in
      let m = held_in a c q h v in
      let ids : line_along d u.pair ≡ line_along h v.pair = (numbered.one b c d h u.pair v.pair u.is v.is).0 same in
      let lines : k.line ≡ m.line = let both : Some k.line ≡ Some m.line = sym k.is ∙ ap (get a.lines) ids ∙ m.is in cc in
      sym k.way ∙ ap (λ (l : Line). l.way) lines ∙ m.way

  pub one_heading : (b c : ℕ) (d h : Dir) (p q : Point) → StandsAt a b p → StandsAt a c q → number_of b (way_of d) ≡ number_of c (way_of h) → side d ≡ side h → d ≡ h
  one_heading b c d h p q at_p at_q same sides =
      let way = one_way b c d h p q at_p at_q same in
      sym (heading_again d) ∙ (λ i. heading_of (way i) (sides i)) ∙ heading_again h

-- the number of a crossing is one of those for which there is a place
pub crossing_below : (a : Arena) → IsArena a → (lists : Lists) → AreListsOf a lists → (c : ℕ) (q : Point) → StandsAt a c q → c < a.places
crossing_below a arena lists are c q here = elim (cases_lt c (length lists.numbers)) as (λ _. c < a.places) [
  | inl less ↦ (let places = are.places in omega (arith, less, places))
  | inr past ↦ (
      let none : slice_index_or lists.numbers c no_numbers ≡ no_numbers = get_or_past lists.numbers c no_numbers past in
      let both : number_of lists c Horizontal ≡ number_of lists c Vertical = ap (number_in Horizontal) none ∙ sym (ap (number_in Vertical) none) in
      absurd (let wrong : Horizontal ≡ Vertical = one_way a arena (number_of lists) (lists_number a lists arena are) c c East South q q here here both in cc))
]
