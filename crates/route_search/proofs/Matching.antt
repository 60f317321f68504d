-- The lists of an arena match it, and what matches it are its lists.
use Rattle.std.proofs.Common.{◌≡◌, ◌≢◌, ℕ, ◌==◌, Option, Some, None, List, refl, sym, ap, subst, ◌∙◌}
use Rattle.std.specs.FinMap.{get}
use Rattle.std.specs.Option.{option_map}
use Rattle.std.proofs.lemmas.List.Elements.{All-weaker}
use Rattle.std.proofs.lemmas.List.Folds.{Any-from_list_any, list_any-from_Any}
use Rattle.std.proofs.lemmas.Bool.Decides.{Decides-eqb}
use Rattle.std.proofs.lemmas.Option.{same_Some}
use Rattle.plane_geom.specs.declared.point.Point.{Point}
use Rattle.plane_geom.specs.declared.floor.Line.{Line}
use Rattle.plane_geom.specs.Along.{rising}
use Rattle.plane_geom.specs.Floor.{point_on}
use Rattle.line_arena.specs.Arena.{Arena, IsArena, Pair, StandsAt, line_along}
use Rattle.line_arena.proofs.Arenas.ArenaLaws.{placed, some_point}
use Rattle.line_lists.specs.Lists.{AreListsOf, AreStopsOf, HasNumber, IsStopOf, Lists, stops_of}
use Rattle.line_lists.specs.declared.stop.Stop.{Stop}
use Rattle.route_search.specs.Matching.{AreMatchingLists, AreMatchingStops, HasMatchingNumber, IsMatchingStop, point_across, point_with}

-- a crossing has one point
pub point_is : (a : Arena) (c : ℕ) (q : Point) → IsArena a → StandsAt a c q → point_with a (get a.crossings c) ≡ Some q
point_is a c q arena here =
    let u = placed a c q arena here in
    ap (point_with a) u.is ∙ (λ i. point_across (u.is_down i) (u.is_across i)) ∙ (λ i. Some (record { x = sym u.x i; y = sym u.y i }))

some_not_none : (o : Option Line) (l : Line) → o ≡ Some l → o ≢ None
some_not_none o l is none = absurd (let wrong : ◌≡◌ {A = Option Line} (Some l) None = sym is ∙ none in cc)

is_some : (o : Option Line) → o ≢ None → (l : Line) × (o ≡ Some l)
is_some None h = absurd (h refl)
is_some (Some l) h = (l, refl)

is_pair : (o : Option Pair) (f : Pair → ℕ) (id : ℕ) → option_map f o ≡ Some id → (p : Pair) × (o ≡ Some p) × (f p ≡ id)
is_pair None f id h = absurd (let wrong : ◌≡◌ {A = Option ℕ} None (Some id) = h in cc)
is_pair (Some p) f id h = (p, refl, same_Some (f p) id h)

module _ (a : Arena) (arena : IsArena a) (lists : Lists) where
  number_matches : (id n : ℕ) → HasNumber a lists id n → HasMatchingNumber a lists id n
  number_matches id n h = record { same = h.1.listed ∙ sym h.1.is; there = some_not_none (get a.lines id) h.0 h.1.is }

  number_is : (id n : ℕ) → HasMatchingNumber a lists id n → HasNumber a lists id n
  number_is id n h = let some = is_some (get a.lines id) h.there in (some.0, record { is = some.1; listed = h.same ∙ some.1 })

  stop_matches : (id : ℕ) (line : Line) (s : Stop) → IsStopOf a id line s → IsMatchingStop a id line s
  stop_matches id line s h = record {
    on = ap (option_map (line_along (rising line.way))) h.is ∙ ap Some h.here;
    at = point_is a s.crossing (point_on line.way line.at s.along) arena h.stands;
  }

  stop_is : (id : ℕ) (line : Line) (s : Stop) → IsMatchingStop a id line s → IsStopOf a id line s
  stop_is id line s h =
      let pair = is_pair (get a.crossings s.crossing) (line_along (rising line.way)) id h.on in
      let at = some_point a s.crossing pair.0 arena pair.1 in
      let point : at.0 ≡ point_on line.way line.at s.along = same_Some at.0 (point_on line.way line.at s.along) (sym (point_is a s.crossing at.0 arena at.1) ∙ h.at) in
      record { pair = pair.0; is = pair.1; here = pair.2; stands = subst (StandsAt a s.crossing) point at.1 }

  stops_match : (id : ℕ) (line : Line) (stops : List Stop) → AreStopsOf a id line stops → AreMatchingStops a id line stops
  stops_match id line stops h = record {
    each = All-weaker (IsStopOf a id line) (IsMatchingStop a id line) (stop_matches id line) stops h.each;
    all = λ c on. let any = h.all c on in list_any-from_Any (λ s. s.crossing == c) stops (any.0, any.1, any.2, any.3, (Decides-eqb any.1.crossing c).1 any.4);
    rise = h.rise;
  }

  stops_are : (id : ℕ) (line : Line) (stops : List Stop) → AreMatchingStops a id line stops → AreStopsOf a id line stops
  stops_are id line stops h = record {
    each = All-weaker (IsMatchingStop a id line) (IsStopOf a id line) (stop_is id line) stops h.each;
    all = λ c on. let any = Any-from_list_any (λ s. s.crossing == c) stops (h.all c on) in (any.0, any.1, any.2, any.3, (Decides-eqb any.1.crossing c).0 any.4);
    rise = h.rise;
  }

  pub lists_match : AreListsOf a lists → AreMatchingLists a lists
  lists_match h = record {
    of_number = h.of_number;
    of_line = h.of_line;
    once = h.once;
    stops = λ id n line is. stops_match id line (stops_of lists n) (h.stops id n line is);
    across = λ id n line is k d lt pair there. number_matches _ _ (h.across id n line is k d lt pair there);
    numbers = λ c pair way is. number_matches _ _ (h.numbers c pair way is);
    places = h.places;
  }

  pub lists_are : AreMatchingLists a lists → AreListsOf a lists
  lists_are h = record {
    of_number = h.of_number;
    of_line = h.of_line;
    once = h.once;
    stops = λ id n line is. stops_are id line (stops_of lists n) (h.stops id n line is);
    across = λ id n line is k d lt pair there. number_is _ _ (h.across id n line is k d lt pair there);
    numbers = λ c pair way is. number_is _ _ (h.numbers c pair way is);
    places = h.places;
  }
