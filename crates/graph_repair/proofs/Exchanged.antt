-- The graph stands for the other floor once some lines have gone and others have come, and the repair leads back.
use Rattle.std.proofs.Common.{◌≡◌, ◌⊎◌, inl, inr, ℕ, ◌+◌, ◌-◌, ◌≤◌, Bool, false, List, ◌++◌, length, get_or, refl, sym, ap, subst, ◌∙◌, arith}
use Rattle.std.specs.Prelude.{Contains, All}
use Rattle.std.specs.FinMap.{get, len}
use Rattle.std.proofs.lemmas.List.{length-append}
use Rattle.std.proofs.lemmas.List.Elements.{Contains-append_left, Contains-append_right, Contains-append_cases, Contains-get_or}
use Rattle.plane_geom.specs.declared.floor.Line.{Line}
use Rattle.plane_geom.specs.declared.floor.Floor.{Floor}
use Rattle.plane_geom.specs.Floor.{IsKept}
use Rattle.plane_geom.proofs.Pieces.{longest_apart}
use Rattle.line_arena.specs.Arena.{Arena, IsArena}
use Rattle.line_arena.specs.Stands.{HasLine, StandsFor}
use Rattle.visibility_graph.specs.Drawing.{Drawing}
use Rattle.visibility_graph.specs.Meeting.{coming, meets, pairs_by}
use Rattle.line_arena.specs.Count.{counted_by}
use Rattle.visibility_graph.specs.Fill.{AreLines, ArePut, CanPut}
use Rattle.graph_repair.specs.Change.{AreAlone, AreShared, Change, IsWriteCount, LeadsFrom}
use Rattle.graph_repair.specs.Take.{AreTaken}
use Rattle.graph_repair.proofs.Listing.{distinct_parts, distinct_shared, in_a_part, in_one_part, of_a_part}
use Rattle.graph_repair.proofs.Pairs.{crossing_count, line_count, pairs_joined}

pub turned : (a b : Floor) (ls : List Line) → AreShared a b ls → AreShared b a ls
turned a b ls s = record { listed = λ l. (λ c. let k = (s.listed l).0 c in (k.1, k.0), λ k. (s.listed l).1 (k.1, k.0)); ordered = s.ordered }

-- an arena that stands for a floor holds the lines of the two parts
module _ (a b : Floor) (stay here : List Line) (shared : AreShared a b stay) (alone : AreAlone a b here) (arena : Arena) (stands : StandsFor a arena) where
  pub two_parts : AreLines arena (stay ++ here)
  two_parts = λ l. (
    λ h. elim (in_a_part a b stay here shared alone l ((stands.lines l).0 h)) as (λ _. Contains (stay ++ here) l) [
      | inl s ↦ Contains-append_left stay here l s
      | inr x ↦ Contains-append_right stay here l x
    ],
    λ c. (stands.lines l).1 (of_a_part a b stay here shared alone l (Contains-append_cases stay here l c)),
  )

  pub line_size : IsArena arena → len arena.lines ≡ length stay + length here
  line_size laws = line_count arena (stay ++ here) laws two_parts (distinct_parts a b stay here shared alone) ∙ length-append stay here

  pub crossing_size : IsArena arena → len arena.crossings ≡ pairs_by meets stay + coming here stay
  crossing_size laws = crossing_count arena (stay ++ here) laws two_parts (distinct_parts a b stay here shared alone) stands.complete ∙ pairs_joined stay here

  pub all_there : All (HasLine arena) here
  all_there = λ k d l. (stands.lines (get_or here k d)).1 (of_a_part a b stay here shared alone (get_or here k d) (inr (Contains-get_or here k d l)))

  -- the lines of the floor alone have gone
  module _ (left : Arena) (taken : AreTaken arena left here) where
    pub lines_left : AreLines left stay
    lines_left = λ l. (
      λ h.
          let was = (taken.stands l).0 h in
          elim (in_a_part a b stay here shared alone l ((stands.lines l).0 was.0)) as (λ _. Contains stay l) [
            | inl s ↦ s
            | inr x ↦ absurd (was.1 x)
          ],
      λ s. (taken.stands l).1 ((stands.lines l).1 (of_a_part a b stay here shared alone l (inl s)), in_one_part a b stay here shared alone l s),
    )

    module _ (there : List Line) (other : AreAlone b a there) where
      in_b : (l : Line) → Contains there l ⊎ Contains stay l → IsKept b l
      in_b l c = elim c as (λ _. IsKept b l) [ inl t ↦ ((other.listed l).0 t).0 | inr s ↦ ((shared.listed l).0 s).1 ]

      -- those of the other floor may come
      pub may_come : IsArena left → length stay + length there ≤ len arena.lines + arena.spare_lines → pairs_by meets stay + coming there stay ≤ len arena.crossings + arena.spare_crossings → CanPut left there stay
      may_come laws line_places crossing_places =
          let lines = line_count left stay laws lines_left (distinct_shared a b stay shared) in
          let crossings = crossing_count left stay laws lines_left (distinct_shared a b stay shared) taken.complete in
          record {
            lines = lines_left;
            complete = taken.complete;
            new_ordered = other.ordered;
            stay_ordered = shared.ordered;
            strange = λ l s t. ((other.listed l).0 t).1 ((shared.listed l).0 s).0;
            long = λ k d l. ((other.listed (get_or there k d)).0 (Contains-get_or there k d l)).0.longest.piece.ordered;
            apart = λ l m p x y whole on on_too. longest_apart b l m p (in_b l x).longest (in_b m y).longest whole on on_too;
            room_for_lines = omega (arith, lines, line_places, taken.line_places);
            room_for_crossings = omega (arith, crossings, crossing_places, taken.crossing_places);
          }

      -- they have come
      module _ (last : Arena) (put : ArePut left last there (coming there stay)) where
        pub stands_there : StandsFor b last
        stands_there = record {
          lines = λ l. (
            λ h. elim ((put.stands l).0 h) as (λ _. IsKept b l) [
              | inl was ↦ in_b l (inr ((lines_left l).0 was))
              | inr t ↦ in_b l (inl t)
            ],
            λ k. elim (in_a_part b a stay there (turned a b stay shared) other l k) as (λ _. HasLine last l) [
              | inl s ↦ (put.stands l).1 (inl ((lines_left l).1 s))
              | inr t ↦ (put.stands l).1 (inr t)
            ],
          );
          complete = put.complete;
        }

        pub leads_back : (applied : Bool) → IsArena arena → LeadsFrom (record { floor = b; arena = last }) (record { floor = a; stay = stay; here = there; there = here; applied = applied })
        leads_back applied laws =
            let lines = line_size laws in
            let crossings = crossing_size laws in
            record {
              stay = turned a b stay shared;
              here = other;
              there = alone;
              line_places = omega (arith, lines, taken.line_places, put.line_entries, put.spare_lines);
              crossing_places = omega (arith, crossings, taken.crossing_places, put.crossing_entries, put.spare_crossings);
            }

        pub written_all : (n : ℕ) × IsWriteCount a b n × (last.written ≡ counted_by n arena.written)
        written_all = (
          length there + coming there stay,
          record { stay = stay; come = there; are_stay = shared; are_come = other; count = refl },
          put.written ∙ ap (counted_by (length there + coming there stay)) taken.written,
        )

-- the condition of a repair, read at its parts
pub leads_at : (graph : Drawing) (floor : Floor) (arena : Arena) (change seen : Change) → floor ≡ graph.floor → arena ≡ graph.arena → seen ≡ change → LeadsFrom graph change → LeadsFrom (record { floor = floor; arena = arena }) seen
leads_at graph floor arena change seen e f g leads =
    let at : LeadsFrom graph seen = subst (LeadsFrom graph) (sym g) leads in
    let parts : graph ≡ record { floor = floor; arena = arena } = λ i. record { floor = (sym e) i; arena = (sym f) i } in
    subst (λ (d : Drawing). LeadsFrom d seen) parts at

-- an arena with the same lines and crossings stands for the same floor
pub stands_still : (floor : Floor) (a b : Arena) → b.lines ≡ a.lines → b.crossings ≡ a.crossings → StandsFor floor a → StandsFor floor b
stands_still floor a b lines crossings stands = record {
  lines = λ l. (
    λ h. (stands.lines l).0 (h.0, ap (λ m. get m h.0) (sym lines) ∙ h.1),
    λ k. let h = (stands.lines l).1 k in (h.0, ap (λ m. get m h.0) lines ∙ h.1),
  );
  complete = λ v h m.
      let c = stands.complete v h (record {
        down = m.down;
        across = m.across;
        is_down = ap (λ x. get x v) (sym lines) ∙ m.is_down;
        is_across = ap (λ x. get x h) (sym lines) ∙ m.is_across;
        down_runs = m.down_runs;
        across_runs = m.across_runs;
        point = m.point;
        on_down = m.on_down;
        on_across = m.on_across;
      }) in
      (c.0, ap (λ x. get x c.0) crossings ∙ c.1);
}

-- the room that a plan makes is that of the other floor
pub leads_first : (graph : Drawing) (b : Floor) (stay here there : List Line) (arena : Arena) → AreShared graph.floor b stay → AreAlone graph.floor b here → AreAlone b graph.floor there → IsArena graph.arena → StandsFor graph.floor graph.arena
    → arena.lines ≡ graph.arena.lines → arena.crossings ≡ graph.arena.crossings → length there - length here ≤ arena.spare_lines → coming there stay - coming here stay ≤ arena.spare_crossings
    → LeadsFrom (record { floor = graph.floor; arena = arena }) (record { floor = b; stay = stay; here = here; there = there; applied = false })
leads_first graph b stay here there arena shared alone other laws stands lines crossings room_for_lines room_for_crossings =
    let line_number = line_size graph.floor b stay here shared alone graph.arena stands laws in
    let crossing_number = crossing_size graph.floor b stay here shared alone graph.arena stands laws in
    let same_lines = ap len lines in
    let same_crossings = ap len crossings in
    record {
      stay = shared;
      here = alone;
      there = other;
      line_places = omega (arith, line_number, same_lines, room_for_lines);
      crossing_places = omega (arith, crossing_number, same_crossings, room_for_crossings);
    }
