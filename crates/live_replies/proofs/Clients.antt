-- A client that applies the changes knows the lines after.
use Rattle.std.proofs.Common.{◌≡◌, ℕ, ◌<◌, Bool, true, false, cond, Option, None, Some, List, [], ◌∷◌, ◌++◌, inl, inr, refl, sym, ap, ap₂, ◌∙◌, arith, if◌then◌else◌, map}
use Rattle.std.specs.Prelude.{◌==◌, ◌&&◌, filter, is_some, not}
use Rattle.std.specs.List.{AllByRecursion as Each}
use Rattle.std.specs.Ordering.{int_eq}
use Rattle.std.proofs.lemmas.Bool.{cases_Bool, eqb-true, false≢true}
use Rattle.std.proofs.lemmas.Bool.Decides.{Decides-int_eq, eqb_tells}
use Rattle.std.proofs.lemmas.Option.{none-some}
use Rattle.plane_geom.specs.declared.point.Point.{Point}
use Rattle.walk_model.specs.declared.route.Answer.{Answer}
use Rattle.walk_model.specs.declared.route.WrittenRoute.{WrittenRoute}
use Rattle.scene_model.specs.Scene.{Scene}
use Rattle.scene_model.specs.Valid.{IsValid}
use Rattle.scene_model.proofs.Editing.Entries.{Pairs, each_weaker, found_cases, found_none, found_passes, none_cases, pairs_from}
use Rattle.nudge_phases.proofs.SceneLines.{good_raws, line_edges}
use Rattle.nudge_phases.specs.Nudged.{AreLines}
use Rattle.gml_scene.proofs.LinesOf.{lines_are_routes}
use Rattle.drawing.specs.Changes.{are_same_corners, asked_of, gone_between, has_corners, is_changed, line_of}
use Rattle.live_replies.specs.Changes.{Change, gone, drawn, changes, drawn_of}
use Rattle.live_replies.specs.Client.{ChangesKeepClients, applied, with_change, without}

-- how a change, and how many, change what is known of one connector
abbrev known_after : ℕ → Option WrittenRoute → Change → Option WrittenRoute
known_after edge known (gone number) = if number == edge then None else known
known_after edge known (drawn l) = if l.edge == edge then Some l else known

abbrev known_after_all : ℕ → Option WrittenRoute → List Change → Option WrittenRoute
known_after_all edge known [] = known
known_after_all edge known (c ∷ cs) = known_after_all edge (known_after edge known c) cs

differs : (a b : ℕ) → (a ≡ b → ⊥) → (a == b) ≡ false
differs a b apart = elim (eqb_tells a b) as (λ _. (a == b) ≡ false) [ inl same ↦ absurd (apart same.1) | inr other ↦ other.0 ]

none_either : (t : Bool) → cond t None None ≡ (let none : Option WrittenRoute = None in none)
none_either true = refl
none_either false = refl

-- the lines without a connector's
of_without : (number edge : ℕ) (lines : List WrittenRoute) → line_of (without number lines) edge ≡ cond (number == edge) None (line_of lines edge)
of_without number edge [] = sym (none_either (number == edge))
of_without number edge (l ∷ lines) = elim (eqb_tells l.edge number) as (λ _. line_of (without number (l ∷ lines)) edge ≡ cond (number == edge) None (line_of (l ∷ lines) edge)) [
  | inl here ↦ rw here.0 (of_without number edge lines ∙ (elim (cases_Bool (number == edge)) as (λ _. cond (number == edge) None (line_of lines edge) ≡ cond (number == edge) None (line_of (l ∷ lines) edge)) [
    | inl same ↦ rw same refl
    | inr other ↦ rw other (sym (ap (λ t. cond t (Some l) (line_of lines edge)) (ap (λ n. n == edge) here.1 ∙ other)))
  ]))
  | inr other ↦ rw other.0 (elim (eqb_tells l.edge edge) as (λ _. line_of (l ∷ without number lines) edge ≡ cond (number == edge) None (line_of (l ∷ lines) edge)) [
    | inl here ↦ rw (here.0, differs number edge (λ same. other.1 (here.1 ∙ sym same))) refl
    | inr there ↦ rw there.0 (of_without number edge lines)
  ])
]

of_change : (edge : ℕ) (lines : List WrittenRoute) (c : Change) → line_of (with_change lines c) edge ≡ known_after edge (line_of lines edge) c
of_change edge lines (gone number) = of_without number edge lines
of_change edge lines (drawn l) = elim (cases_Bool (l.edge == edge)) as (λ _. line_of (l ∷ without l.edge lines) edge ≡ cond (l.edge == edge) (Some l) (line_of lines edge)) [
  | inl here ↦ rw here refl
  | inr there ↦ rw there (of_without l.edge edge lines ∙ ap (λ t. cond t None (line_of lines edge)) there)
]

of_applied : (edge : ℕ) (lines : List WrittenRoute) (cs : List Change) → line_of (applied lines cs) edge ≡ known_after_all edge (line_of lines edge) cs
of_applied edge lines [] = refl
of_applied edge lines (c ∷ cs) = of_applied edge (with_change lines c) cs ∙ ap (λ known. known_after_all edge known cs) (of_change edge lines c)

one_by_one : (edge : ℕ) (known : Option WrittenRoute) (cs ds : List Change) → known_after_all edge known (cs ++ ds) ≡ known_after_all edge (known_after_all edge known cs) ds
one_by_one edge known [] ds = refl
one_by_one edge known (c ∷ cs) ds = one_by_one edge (known_after edge known c) cs ds

-- a change of another connector changes nothing
gone_elsewhere : (edge number : ℕ) (known : Option WrittenRoute) → (number == edge) ≡ false → known_after edge known (gone number) ≡ known
gone_elsewhere edge number known there = ap (λ t. cond t None known) there

drawn_elsewhere : (edge : ℕ) (l : WrittenRoute) (known : Option WrittenRoute) → (l.edge == edge) ≡ false → known_after edge known (drawn l) ≡ known
drawn_elsewhere edge l known there = ap (λ t. cond t (Some l) known) there

-- the connectors that are gone, and the lines that changed
abbrev all_gone : List WrittenRoute → List WrittenRoute → List Change
all_gone after before = map gone (gone_between before after)

abbrev all_drawn : List WrittenRoute → List WrittenRoute → List Change
all_drawn before after = drawn_of after (map (is_changed before) after)

-- the first of those that were reported stays, or is gone
module _ (after before : List WrittenRoute) (b : WrittenRoute) where
  abbrev rest : List WrittenRoute
  rest = filter (λ l. not (is_some (line_of after l.edge))) before

  first_gone : {t : Bool} → is_some (line_of after b.edge) ≡ t → all_gone after (b ∷ before) ≡ map gone (map (λ l. l.edge) (cond (not t) (b ∷ rest) rest))
  first_gone is = ap (λ t. map gone (map (λ l. l.edge) (cond (not t) (b ∷ rest) rest))) is

-- the first of those after stands among those before, or is drawn
first_drawn : (before after : List WrittenRoute) (a : WrittenRoute) {t : Bool} → has_corners (line_of before a.edge) a.points ≡ t
    → all_drawn before (a ∷ after) ≡ cond (not t) (drawn a ∷ all_drawn before after) (all_drawn before after)
first_drawn before after a is = ap (λ t. cond (not t) (drawn a ∷ all_drawn before after) (all_drawn before after)) is

-- a line that is not known is not known after others are gone
none_more : (edge : ℕ) (after before : List WrittenRoute) → known_after_all edge None (all_gone after before) ≡ None
none_more edge after [] = refl
none_more edge after (b ∷ before) =
    elim (cases_Bool (is_some (line_of after b.edge))) as (λ _. known_after_all edge None (all_gone after (b ∷ before)) ≡ None) [
      | inl stays ↦ ap (known_after_all edge None) (first_gone after before b stays) ∙ none_more edge after before
      | inr goes ↦ ap (known_after_all edge None) (first_gone after before b goes)
          ∙ ap (λ known. known_after_all edge known (all_gone after before)) (none_either (b.edge == edge)) ∙ none_more edge after before
    ]

-- a connector that has a line after: what is known of it stays while others are gone
line_stays : (edge : ℕ) (after before : List WrittenRoute) (known : Option WrittenRoute) (l : WrittenRoute) → line_of after edge ≡ Some l
    → known_after_all edge known (all_gone after before) ≡ known
line_stays edge after [] known l has = refl
line_stays edge after (b ∷ before) known l has =
    elim (cases_Bool (is_some (line_of after b.edge))) as (λ _. known_after_all edge known (all_gone after (b ∷ before)) ≡ known) [
      | inl stays ↦ ap (known_after_all edge known) (first_gone after before b stays) ∙ line_stays edge after before known l has
      | inr goes ↦ (let there = differs b.edge edge (λ same. false≢true (sym goes ∙ ap (λ n. is_some (line_of after n)) same ∙ ap is_some has)) in
          ap (known_after_all edge known) (first_gone after before b goes)
          ∙ ap (λ k. known_after_all edge k (all_gone after before)) (gone_elsewhere edge b.edge known there) ∙ line_stays edge after before known l has)
    ]

-- a connector that has no line after: it is gone if it was known
line_goes : (edge : ℕ) (after before : List WrittenRoute) (known : Option WrittenRoute) → line_of after edge ≡ None → known ≡ line_of before edge
    → known_after_all edge known (all_gone after before) ≡ None
line_goes edge after [] known none is = is
line_goes edge after (b ∷ before) known none is = elim (eqb_tells b.edge edge) as (λ _. known_after_all edge known (all_gone after (b ∷ before)) ≡ None) [
  | inl here ↦ ap (known_after_all edge known) (first_gone after before b (ap (λ n. is_some (line_of after n)) here.1 ∙ ap is_some none))
      ∙ ap (λ t. known_after_all edge (cond t None known) (all_gone after before)) here.0 ∙ none_more edge after before
  | inr there ↦ (let later = line_goes edge after before known none (is ∙ ap (λ t. cond t (Some b) (line_of before edge)) there.0) in
      elim (cases_Bool (is_some (line_of after b.edge))) as (λ _. known_after_all edge known (all_gone after (b ∷ before)) ≡ None) [
        | inl stays ↦ ap (known_after_all edge known) (first_gone after before b stays) ∙ later
        | inr goes ↦ ap (known_after_all edge known) (first_gone after before b goes)
            ∙ ap (λ k. known_after_all edge k (all_gone after before)) (gone_elsewhere edge b.edge known there.0) ∙ later
      ])
]

-- no line of the connector is drawn
not_drawn : (edge : ℕ) (before after : List WrittenRoute) (known : Option WrittenRoute) → line_of after edge ≡ None
    → known_after_all edge known (all_drawn before after) ≡ known
not_drawn edge before [] known none = refl
not_drawn edge before (a ∷ after) known none =
    let apart = none_cases (a.edge == edge) a (line_of after edge) none in
    let later = not_drawn edge before after known apart.1 in
    elim (cases_Bool (has_corners (line_of before a.edge) a.points)) as (λ _. known_after_all edge known (all_drawn before (a ∷ after)) ≡ known) [
      | inl reported ↦ ap (known_after_all edge known) (first_drawn before after a reported) ∙ later
      | inr new ↦ ap (known_after_all edge known) (first_drawn before after a new)
          ∙ ap (λ k. known_after_all edge k (all_drawn before after)) (drawn_elsewhere edge a known apart.0) ∙ later
    ]

-- a line that was reported stands among those before
left_true : (s t : Bool) → (s && t) ≡ true → s ≡ true
left_true true t h = refl
left_true false t h = absurd (false≢true h)

right_true : (s t : Bool) → (s && t) ≡ true → t ≡ true
right_true true t h = h
right_true false t h = absurd (false≢true h)

same_point : (p q : Point) → (int_eq p.x q.x && int_eq p.y q.y) ≡ true → p ≡ q
same_point p q h =
    let x = (Decides-int_eq p.x q.x).0 (left_true (int_eq p.x q.x) (int_eq p.y q.y) h) in
    let y = (Decides-int_eq p.y q.y).0 (right_true (int_eq p.x q.x) (int_eq p.y q.y) h) in
    ap₂ (λ m n. let r : Point = record { x = m; y = n } in r) x y

same_corners : (ps qs : List Point) → are_same_corners ps qs ≡ true → ps ≡ qs
same_corners [] [] h = refl
same_corners [] (q ∷ qs) h = absurd (false≢true h)
same_corners (p ∷ ps) [] h = absurd (false≢true h)
same_corners (p ∷ ps) (q ∷ qs) h =
    let here = left_true (int_eq p.x q.x && int_eq p.y q.y) (are_same_corners ps qs) h in
    let later = right_true (int_eq p.x q.x && int_eq p.y q.y) (are_same_corners ps qs) h in
    ap₂ (λ r rs. r ∷ rs) (same_point p q here) (same_corners ps qs later)

same_line : (a b : WrittenRoute) → a.edge ≡ b.edge → a.points ≡ b.points → a ≡ b
same_line a b edge points = ap₂ (λ n ps. let l : WrittenRoute = record { edge = n; points = ps } in l) edge points

reported_found : (before : List WrittenRoute) (a : WrittenRoute) (known : Option WrittenRoute) → line_of before a.edge ≡ known → has_corners known a.points ≡ true → known ≡ Some a
reported_found before a None is h = absurd (false≢true h)
reported_found before a (Some b) is h =
    ap Some (same_line b a (eqb-true b.edge a.edge (found_passes (λ (l : WrittenRoute). l.edge == a.edge) before b is)) (same_corners b.points a.points h))

reported_is : (before : List WrittenRoute) (a : WrittenRoute) → has_corners (line_of before a.edge) a.points ≡ true → line_of before a.edge ≡ Some a
reported_is before a reported = reported_found before a (line_of before a.edge) refl reported

abbrev Rises : WrittenRoute → WrittenRoute → Type 0
Rises a b = a.edge < b.edge

none_later : (edge : ℕ) (a : WrittenRoute) (after : List WrittenRoute) → a.edge ≡ edge → Each (Rises a) after → line_of after edge ≡ None
none_later edge a after here rises = found_none (λ (l : WrittenRoute). l.edge == edge) after
    (each_weaker (Rises a) (λ (l : WrittenRoute). (l.edge == edge) ≡ false) (λ l above. differs l.edge edge (λ same. omega (arith, here, above, same))) after rises)

-- a connector that has a line after: it is drawn, or it was known
line_drawn : (edge : ℕ) (before after : List WrittenRoute) (known : Option WrittenRoute) (l : WrittenRoute) → Pairs Rises after → line_of after edge ≡ Some l
    → known ≡ line_of before edge → known_after_all edge known (all_drawn before after) ≡ Some l
line_drawn edge before [] known l rise has is = absurd (none-some l has)
line_drawn edge before (a ∷ after) known l rise has is = elim (found_cases (a.edge == edge) a l (line_of after edge) has)
    as (λ _. known_after_all edge known (all_drawn before (a ∷ after)) ≡ Some l) [
      | inl here ↦ (let same = eqb-true a.edge edge here.0 in let none = none_later edge a after same rise.0 in
          elim (cases_Bool (has_corners (line_of before a.edge) a.points)) as (λ _. known_after_all edge known (all_drawn before (a ∷ after)) ≡ Some l) [
            | inl reported ↦ ap (known_after_all edge known) (first_drawn before after a reported)
                ∙ not_drawn edge before after known none ∙ is ∙ ap (line_of before) (sym same) ∙ reported_is before a reported ∙ ap Some here.1
            | inr new ↦ ap (known_after_all edge known) (first_drawn before after a new)
                ∙ ap (λ t. known_after_all edge (cond t (Some a) known) (all_drawn before after)) here.0
                ∙ not_drawn edge before after (Some a) none ∙ ap Some here.1
          ])
      | inr there ↦ (let later = line_drawn edge before after known l rise.1 there.1 is in
          elim (cases_Bool (has_corners (line_of before a.edge) a.points)) as (λ _. known_after_all edge known (all_drawn before (a ∷ after)) ≡ Some l) [
            | inl reported ↦ ap (known_after_all edge known) (first_drawn before after a reported) ∙ later
            | inr new ↦ ap (known_after_all edge known) (first_drawn before after a new)
                ∙ ap (λ k. known_after_all edge k (all_drawn before after)) (drawn_elsewhere edge a known there.0) ∙ later
          ])
    ]

-- what is known after the changes: the line after, or none
known_then : (edge : ℕ) (before after : List WrittenRoute) (known line : Option WrittenRoute) → Pairs Rises after → line_of after edge ≡ line → known ≡ line_of before edge
    → known_after_all edge (known_after_all edge known (all_gone after before)) (all_drawn before after) ≡ line
known_then edge before after known None rise none is =
    ap (λ k. known_after_all edge k (all_drawn before after)) (line_goes edge after before known none is) ∙ not_drawn edge before after None none
known_then edge before after known (Some l) rise has is =
    ap (λ k. known_after_all edge k (all_drawn before after)) (line_stays edge after before known l has) ∙ line_drawn edge before after known l rise has is

-- the numbers of the lines of a scene rise, since they are those of its connectors in order
lines_rise : (s : Scene) (answers : List Answer) (lines : List WrittenRoute) → IsValid s → AreLines s answers lines → Pairs Rises lines
lines_rise s answers lines valid are =
    let good = good_raws s answers valid are.right are.nudged.raw are.nudged.are_raw in
    let numbers = line_edges s answers are.nudged.raw s.settings.nudge lines good are.nudged.nudged in
    pairs_from Rises lines (lines_are_routes s answers lines valid are.right numbers).rising

pub clients_kept : ChangesKeepClients
clients_kept s client before after valid are knows edge =
    of_applied edge client (changes (asked_of before after)) ∙ one_by_one edge (line_of client edge) (all_gone after before) (all_drawn before after)
    ∙ known_then edge before after (line_of client edge) (line_of after edge) (lines_rise s.world.present s.book after valid are.are_lines) refl (knows edge)
