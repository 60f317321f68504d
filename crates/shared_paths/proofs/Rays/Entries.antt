-- The first entry of a ray, by the direction in which its route goes on.
use Rattle.std.proofs.Common.{◌≡◌, ◌≢◌, ℤ, Option, None, Some, List, [], ◌∷◌, ◌+◌, ◌-◌, ◌<◌, ◌≤◌, false, drop, get_or, length, map, take, refl, sym, ap, ◌∙◌, arith}
use Rattle.std.specs.Prelude.{reverse, slice_get, if◌then◌else◌}
use Rattle.std.proofs.lemmas.List.{reverse-append, take_all, take_more}
use Rattle.std.proofs.lemmas.Option.{get_or_from_slice_get, slice_get_within}
use Rattle.plane_geom.specs.declared.point.Dir.{Dir}
use Rattle.plane_geom.specs.Point.{opposite}
use Rattle.segment_order.specs.declared.run.Run.{Run}
use Rattle.segment_order.specs.declared.side.Side.{Side}
use Rattle.segment_order.specs.declared.side.Side.TheVariants.{Left, Right}
use Rattle.segment_order.specs.declared.ray.Entry.{Entry}
use Rattle.segment_order.specs.declared.ray.Entry.TheVariants.{Stop}
use Rattle.segment_order.specs.Ray.{entries, entries_after, is_heading, ray, reach_in, turned_round}
use Rattle.segment_order.specs.Side.{near_side, turn_to}
use Rattle.shared_paths.specs.Pairs.{first_of}
use Rattle.shared_paths.specs.Views.{entry_at, entry_towards}

first_at : (near : Side) (z : ℤ) (t : Option Side) (rest : List Entry) → first_of (entries_after near z t rest) ≡ entry_at near z t
first_at near z None rest = refl
first_at near z (Some side) rest = refl

-- the first entry of one who goes on along these runs
pub first_along : (d : Dir) (z : ℤ) (r : Run) (rs : List Run) → first_of (entries (near_side d) d z (r ∷ rs)) ≡ entry_at (near_side d) z (turn_to d r.heading)
first_along d z r rs = first_at (near_side d) z (turn_to d r.heading) (entries (near_side d) r.heading (reach_in r.heading r) rs)

-- the last of some elements is the first of them turned round
last_first : {X : Type 0} (xs : List X) (x : X) → slice_get xs (length xs - 1) ≡ Some x → reverse xs ≡ x ∷ reverse (take (length xs - 1) xs)
last_first xs x is =
    let n = length xs - 1 in
    let inside : n < length xs = slice_get_within xs n x is in
    let whole : length xs ≤ n + 1 = omega arith in
    ap reverse (sym (take_all (n + 1) xs whole) ∙ take_more xs n x inside) ∙ reverse-append (take n xs) (get_or xs n x ∷ [])
    ∙ ap (λ y. y ∷ reverse (take n xs)) (get_or_from_slice_get xs n x x is)

-- the first entry of one who goes back, where this run stands last before
pub first_back : (route : List Run) (r : Run) (d : Dir) (x : Run) → is_heading r.heading d ≡ false →
    slice_get (take (r.place - 1) route) (length (take (r.place - 1) route) - 1) ≡ Some x → first_of (ray route r d) ≡ entry_towards r d (Some (opposite x.heading))
first_back route r d x away is =
    let z = reach_in d r in
    let before = take (r.place - 1) route in
    ap (λ b. first_of (entries (near_side d) d z (if b then drop r.place route else map turned_round (reverse before)))) away
    ∙ ap (λ rs. first_of (entries (near_side d) d z (map turned_round rs))) (last_first before x is)
    ∙ first_along d z (turned_round x) (map turned_round (reverse (take (length before - 1) before)))

-- an entry is that of some turn, or of none
some_turn : (d : Dir) (z : ℤ) (rs : List Run) → (t : Option Side) × (first_of (entries (near_side d) d z rs) ≡ entry_at (near_side d) z t)
some_turn d z [] = (None, refl)
some_turn d z (r ∷ rs) = (turn_to d r.heading, first_along d z r rs)

as_far : (near : Side) (y z : ℤ) (t u : Option Side) → entry_at near y t ≡ entry_at near z u → entry_at near y t ≢ Stop → y ≡ z
as_far near y z None u e s = absurd (s refl)
as_far near y z (Some side) None e s = absurd (s e)
as_far Left y z (Some Left) (Some Left) e s = cc
as_far Left y z (Some Right) (Some Right) e s = cc
as_far Right y z (Some Left) (Some Left) e s = cc
as_far Right y z (Some Right) (Some Right) e s = cc
as_far near y z t u e s = cc

-- routes that do the same, and do not stop, leave their runs as far
pub one_reach : (a b : List Run) (r s : Run) (d : Dir) → first_of (ray a r d) ≡ first_of (ray b s d) → first_of (ray a r d) ≢ Stop → reach_in d r ≡ reach_in d s
one_reach a b r s d same turns =
    let one = some_turn d (reach_in d r) (if is_heading r.heading d then drop r.place a else map turned_round (reverse (take (r.place - 1) a))) in
    let other = some_turn d (reach_in d s) (if is_heading s.heading d then drop s.place b else map turned_round (reverse (take (s.place - 1) b))) in
    as_far (near_side d) (reach_in d r) (reach_in d s) one.0 other.0 (sym one.1 ∙ same ∙ other.1) (λ stop. turns (one.1 ∙ stop))
