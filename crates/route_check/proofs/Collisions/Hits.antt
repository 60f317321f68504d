-- The first hit of a line, solid by solid.
use Rattle.std.proofs.Common.{◌≡◌, ◌↔◌, ℕ, ◌<◌, ◌≤◌, pos, Option, Some, None, MatchOption, List, [], ◌∷◌, ◌++◌, length, refl, sym, inl, inr, arith, subst, Contains}
use Rattle.std.proofs.lemmas.List.Elements.{Contains-push_cases}
use Rattle.std.proofs.lemmas.Option.{slice_get_within}
use Rattle.plane_geom.specs.declared.point.Point.{Point}
use Rattle.plane_geom.specs.declared.rect.Solid.{Solid}
use Rattle.walk_model.specs.declared.task.Choice.{Choice}
use Rattle.walk_model.specs.Walk.{MeetsAt}
use Rattle.walk_model.specs.Line.{steps_through, walk_through}
use Rattle.route_check.specs.declared.steps.Steps.{Steps}
use Rattle.route_check.specs.declared.hit.Hit.{Hit}
use Rattle.route_check.specs.declared.hit.Meeting.{Meeting}
use Rattle.route_check.specs.Steps.{IsAmong}
use Rattle.route_check.specs.Hit.{IsFirstMeeting, MeetsNone}
use Rattle.route_check.proofs.Collisions.Places.{contains_at, slice_get-push_left, slice_get-push_last, slice_get-push_below}
use Rattle.route_check.specs.Verdict.{StepHits, HitsFirst, HitsNone, MayMeet}

-- the code's default where a list has no such solid
abbrev pub no_solid : Solid
no_solid = record { node = pos 0; rect = record { left = pos 0; top = pos 0; right = pos 0; bottom = pos 0 } }

-- the first hit of these solids, if there is one, is at step number `limit`; otherwise that is the number of steps
abbrev pub HitSoFar : List Solid → Choice → Choice → Point → List Point → Option Hit → ℕ → Type 0
HitSoFar solids s e first rest None limit = (limit ≡ length (steps_through first rest)) × HitsNone solids s (walk_through first rest) e
HitSoFar solids s e first rest (Some hit) limit =
    (f : HitsFirst solids (first ∷ rest) s (walk_through first rest) e hit.segment hit.node) × (f.step ≡ limit)

module _ (s e : Choice) (first : Point) (rest : List Point) where
  -- before that step there is no hit
  unhit : (solids : List Solid) (hit : Option Hit) (limit : ℕ) → HitSoFar solids s e first rest hit limit
      → (limit ≤ length (steps_through first rest)) × ((k : ℕ) → k < limit → (o : Solid) → Contains solids o → StepHits s (walk_through first rest) e k o → ⊥)
  unhit solids None limit (is, none) = (omega (arith, is), λ k h. none k (omega (arith, is)))
  unhit solids (Some hit) limit (f, is) = (omega (arith, is, f.within), λ k h. f.first_step k (omega (arith, is)))

  -- one more solid after the others: `asked` are the steps before that step which may not meet it
  module _ (solids : List Solid) (o : Solid) (limit : ℕ) (asked : Steps)
      (is : (k : ℕ) → IsAmong asked k ↔ (((k < length (steps_through first rest)) × (MayMeet s (walk_through first rest) e k o.node → ⊥)) × (k < limit))) where
    -- a hit of the last solid is a meeting that was asked for
    is_asked : (other : Solid) → o ≡ other → (k : ℕ) → k < length (steps_through first rest) → k < limit → StepHits s (walk_through first rest) e k other → IsAmong asked k × MeetsAt o.rect (walk_through first rest) k
    is_asked other new k within before hits =
        let of_last : StepHits s (walk_through first rest) e k o = subst (λ (x : Solid). StepHits s (walk_through first rest) e k x) (sym new) hits in
        ((is k).1 ((within, of_last.1), before), of_last.0)

    pub hit_sooner : (hit : Option Hit) → HitSoFar solids s e first rest hit limit → (m : Meeting) → IsFirstMeeting o.rect asked first rest m
        → HitSoFar (solids ++ o ∷ []) s e first rest (Some (record { segment = m.segment; node = o.node })) m.step
    hit_sooner hit so m meets =
        let among = (is m.step).0 meets.among in
        let before = (unhit solids hit limit so).1 in (
          record {
            step = m.step;
            within = among.0.0;
            place = length solids;
            solid = o;
            at_place = slice_get-push_last solids o;
            hits = (meets.meets, among.0.1);
            first_step = λ k h other in' hits. elim (Contains-push_cases solids o other in') as (λ _. ⊥) [
              | inl old ↦ before k (omega (arith, among.1)) other old hits
              | inr new ↦ (let asked_for = is_asked other new k (omega (arith, among.0.0)) (omega (arith, among.1)) hits in
                  meets.none_before k asked_for.0 h asked_for.1)
            ];
            first_solid = λ j h other at hits. before m.step among.1 other (contains_at solids j other (slice_get-push_below solids o other j h at)) hits;
            on_segment = meets.on_segment;
            of_node = refl;
          },
          refl,
        )

    pub hit_no_sooner : (hit : Option Hit) → HitSoFar solids s e first rest hit limit → MeetsNone o.rect asked first rest → HitSoFar (solids ++ o ∷ []) s e first rest hit limit
    hit_no_sooner None (counted, none) meets = (
      counted,
      λ k within other in' hits. elim (Contains-push_cases solids o other in') as (λ _. ⊥) [
        | inl old ↦ none k within other old hits
        | inr new ↦ (let asked_for = is_asked other new k within (omega (arith, counted)) hits in meets k asked_for.0 within asked_for.1)
      ],
    )
    hit_no_sooner (Some hit) (f, at_limit) meets =
        let place = slice_get_within solids f.place f.solid f.at_place in (
          record {
            step = f.step;
            within = f.within;
            place = f.place;
            solid = f.solid;
            at_place = slice_get-push_left solids o f.solid f.place f.at_place;
            hits = f.hits;
            first_step = λ k h other in' hits. elim (Contains-push_cases solids o other in') as (λ _. ⊥) [
              | inl old ↦ f.first_step k h other old hits
              | inr new ↦ (let within : k < length (steps_through first rest) = omega (arith, f.within) in
                  let asked_for = is_asked other new k within (omega (arith, at_limit)) hits in meets k asked_for.0 within asked_for.1)
            ];
            first_solid = λ j h other at hits. f.first_solid j h other (slice_get-push_below solids o other j (omega arith) at) hits;
            on_segment = f.on_segment;
            of_node = f.of_node;
          },
          at_limit,
        )

pub first_hit_of : (solids : List Solid) (s e : Choice) (first : Point) (rest : List Point) (hit : Option Hit) (limit : ℕ) → HitSoFar solids s e first rest hit limit
    → MatchOption hit (HitsNone solids s (walk_through first rest) e) (λ h. HitsFirst solids (first ∷ rest) s (walk_through first rest) e h.segment h.node)
first_hit_of solids s e first rest None limit so = so.1
first_hit_of solids s e first rest (Some hit) limit so = so.0
