-- One link is set.
use Rattle.std.proofs.Common.{◌≡◌, ◌≢◌, ℕ, Option, Some, None, inl, inr, refl, sym, ap, ◌∙◌}
use Rattle.std.specs.Prelude.{option_and_then}
use Rattle.std.specs.Option.{option_map}
use Rattle.std.proofs.lemmas.Bool.{cases_eq}
use Rattle.slab.specs.Slab.{Updates, get, slab_len}
use Rattle.plane_geom.specs.declared.point.Point.{Point}
use Rattle.plane_geom.specs.declared.point.Dir.{Dir}
use Rattle.plane_geom.specs.declared.point.Dir.TheVariants.{East, South, West, North}
use Rattle.plane_geom.specs.declared.floor.Line.{Line}
use Rattle.line_arena.specs.declared.lists.Lists.{Lists}
use Rattle.line_arena.specs.declared.node.Ends.{Ends}
use Rattle.line_arena.specs.declared.node.Node.{Node}
use Rattle.plane_geom.specs.Along.{way_of}
use Rattle.line_arena.specs.Entries.{Entered, entry_at}
use Rattle.line_arena.specs.Node.{next_of, start_of, with_next, with_start}
use Rattle.line_arena.specs.Lists.{Relinks, RunsAlong, line_at, link, spot_of}

start_of-same : (d : Dir) (to : Option ℕ) (e : Ends) → start_of d (with_start d to e) ≡ to
start_of-same East to e = refl
start_of-same South to e = refl
start_of-same West to e = refl
start_of-same North to e = refl

next_of-same : (d : Dir) (to : Option ℕ) (n : Node) → next_of d (with_next d to n) ≡ to
next_of-same East to n = refl
next_of-same South to n = refl
next_of-same West to n = refl
next_of-same North to n = refl

spot_of-with_next : (p : Point) (d : Dir) (to : Option ℕ) (n : Node) → spot_of (p, with_next d to n) ≡ spot_of (p, n)
spot_of-with_next p East to n = refl
spot_of-with_next p South to n = refl
spot_of-with_next p West to n = refl
spot_of-with_next p North to n = refl

-- the begin against the direction stays
start_of-other : (d e : Dir) (to : Option ℕ) (n : Ends) → way_of e ≡ way_of d → e ≢ d → start_of e (with_start d to n) ≡ start_of e n
start_of-other East East to n same ne = absurd (ne refl)
start_of-other East South to n same ne = absurd (cc same)
start_of-other East West to n same ne = refl
start_of-other East North to n same ne = absurd (cc same)
start_of-other South East to n same ne = absurd (cc same)
start_of-other South South to n same ne = absurd (ne refl)
start_of-other South West to n same ne = absurd (cc same)
start_of-other South North to n same ne = refl
start_of-other West East to n same ne = refl
start_of-other West South to n same ne = absurd (cc same)
start_of-other West West to n same ne = absurd (ne refl)
start_of-other West North to n same ne = absurd (cc same)
start_of-other North East to n same ne = absurd (cc same)
start_of-other North South to n same ne = refl
start_of-other North West to n same ne = absurd (cc same)
start_of-other North North to n same ne = absurd (ne refl)

next_of-other : (d e : Dir) (to : Option ℕ) (n : Node) → e ≢ d → next_of e (with_next d to n) ≡ next_of e n
next_of-other East East to n ne = absurd (ne refl)
next_of-other East South to n ne = refl
next_of-other East West to n ne = refl
next_of-other East North to n ne = refl
next_of-other South East to n ne = refl
next_of-other South South to n ne = absurd (ne refl)
next_of-other South West to n ne = refl
next_of-other South North to n ne = refl
next_of-other West East to n ne = refl
next_of-other West South to n ne = refl
next_of-other West West to n ne = absurd (ne refl)
next_of-other West North to n ne = refl
next_of-other North East to n ne = refl
next_of-other North South to n ne = refl
next_of-other North West to n ne = refl
next_of-other North North to n ne = absurd (ne refl)

same_line : (s t : Line) (o : Option Line) → o ≡ Some s → o ≡ Some t → s ≡ t
same_line s t o e f = cc

-- a list begins with another crossing
pub relinks_start : (a : Lists) (lines : Entered Line Ends) (l : ℕ) (d : Dir) (to : Option ℕ) (e : Line × Ends) → RunsAlong a l d
    → entry_at a.lines l ≡ Some e → Updates a.lines.slab lines.slab l (Some (e.0, with_start d to e.1))
    → slab_len lines.slab ≡ slab_len a.lines.slab → lines.room ≡ a.lines.room
    → Relinks a (record { lines = lines; crossings = a.crossings }) l None d to
relinks_start a lines l d to e runs is updates len room = record {
  places = record {
    lines = λ m.
        elim (cases_eq m l) [
          | inl same ↦ ap (λ i. option_map (λ x. x.0) (get lines.slab i)) same ∙ ap (option_map (λ x. x.0)) updates.changed ∙ sym (ap (λ i. option_map (λ x. x.0) (entry_at a.lines i)) same ∙ ap (option_map (λ x. x.0)) is)
          | inr ne ↦ ap (option_map (λ x. x.0)) (updates.others m ne)
        ];
    spots = λ c. refl;
    line_count = len;
    crossing_count = refl;
    line_room = room;
    crossing_room = refl;
    places = refl;
  };
  changed = ap (option_and_then (λ x. start_of d x.1)) updates.changed ∙ start_of-same d to e.1;
  other_directions = λ f other. record {
    starts = λ m line line_is way.
        elim (cases_eq m l) [
          | inl same ↦
              let both : runs.line ≡ line = same_line runs.line line (line_at a l) runs.is (ap (line_at a) (sym same) ∙ line_is) in
              let ways : way_of f ≡ way_of d = sym way ∙ ap (λ x. x.way) (sym both) ∙ runs.way in
              ap (λ i. option_and_then (λ x. start_of f x.1) (get lines.slab i)) same
              ∙ ap (option_and_then (λ x. start_of f x.1)) updates.changed
              ∙ start_of-other d f to e.1 ways other
              ∙ sym (ap (λ i. option_and_then (λ x. start_of f x.1) (entry_at a.lines i)) same ∙ ap (option_and_then (λ x. start_of f x.1)) is)
          | inr ne ↦ ap (option_and_then (λ x. start_of f x.1)) (updates.others m ne)
        ];
    nexts = λ m c. refl;
  };
  other_crossings = λ m f ne. elim f as (λ f. f ≢ None → link (record { lines = lines; crossings = a.crossings }) m f d ≡ link a m f d) [
    | None ↦ λ h. absurd (h refl)
    | Some c ↦ λ h. refl
  ] ne;
  other_lines = λ m ne. ap (option_and_then (λ x. start_of d x.1)) (updates.others m ne);
}

-- a crossing is followed by another one
pub relinks_next : (a : Lists) (crossings : Entered Point Node) (l c : ℕ) (d : Dir) (to : Option ℕ) (e : Point × Node)
    → entry_at a.crossings c ≡ Some e → Updates a.crossings.slab crossings.slab c (Some (e.0, with_next d to e.1))
    → slab_len crossings.slab ≡ slab_len a.crossings.slab → crossings.room ≡ a.crossings.room → crossings.slab.capacity ≡ a.crossings.slab.capacity
    → Relinks a (record { lines = a.lines; crossings = crossings }) l (Some c) d to
relinks_next a crossings l c d to e is updates len room capacity = record {
  places = record {
    lines = λ m. refl;
    spots = λ k.
        elim (cases_eq k c) [
          | inl same ↦
              ap (λ i. option_map spot_of (get crossings.slab i)) same
              ∙ ap (option_map spot_of) updates.changed
              ∙ ap Some (spot_of-with_next e.0 d to e.1)
              ∙ sym (ap (λ i. option_map spot_of (entry_at a.crossings i)) same ∙ ap (option_map spot_of) is)
          | inr ne ↦ ap (option_map spot_of) (updates.others k ne)
        ];
    line_count = refl;
    crossing_count = len;
    line_room = refl;
    crossing_room = room;
    places = capacity;
  };
  changed = ap (option_and_then (λ x. next_of d x.1)) updates.changed ∙ next_of-same d to e.1;
  other_directions = λ f other. record {
    starts = λ m line line_is way. refl;
    nexts = λ m k.
        elim (cases_eq k c) [
          | inl same ↦
              ap (λ i. option_and_then (λ x. next_of f x.1) (get crossings.slab i)) same
              ∙ ap (option_and_then (λ x. next_of f x.1)) updates.changed
              ∙ next_of-other d f to e.1 other
              ∙ sym (ap (λ i. option_and_then (λ x. next_of f x.1) (entry_at a.crossings i)) same ∙ ap (option_and_then (λ x. next_of f x.1)) is)
          | inr ne ↦ ap (option_and_then (λ x. next_of f x.1)) (updates.others k ne)
        ];
  };
  other_crossings = λ m f ne. elim f as (λ f. f ≢ Some c → link (record { lines = a.lines; crossings = crossings }) m f d ≡ link a m f d) [
    | None ↦ λ h. refl
    | Some k ↦ λ h. ap (option_and_then (λ x. next_of d x.1)) (updates.others k (λ same. h (ap Some same)))
  ] ne;
  other_lines = λ m ne. refl;
}
