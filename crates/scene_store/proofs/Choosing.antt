-- The choice at a place among those of the pins of a class.
use Rattle.std.proofs.Common.{◌≡◌, ◌≢◌, ℕ, suc, zero, ◌+◌, Bool, true, false, Some, List, [], ◌∷◌, ◌++◌, map, length, ap, ◌∙◌, arith, cond}
use Rattle.std.specs.Prelude.{ℤ, ◌==◌, filter, slice_get, option_map}
use Rattle.std.proofs.lemmas.Bool.{eq-eqb, ne_eqb}
use Rattle.std.proofs.lemmas.List.{length-map}
use Rattle.std.proofs.lemmas.Option.{slice_get-map}
use Rattle.plane_geom.specs.declared.point.Dir.{Dir}
use Rattle.walk_model.specs.declared.task.Choice.{Choice}
use Rattle.scene_model.specs.declared.node.Node.{Node}
use Rattle.scene_model.specs.declared.pin.Pin.{Pin}
use Rattle.scene_model.specs.Routing.{choice, choices_of, directions}

-- in the first list, and after it
get_left : {X : Type 0} (xs ys : List X) (k : ℕ) (x : X) → slice_get xs k ≡ Some x → slice_get (xs ++ ys) k ≡ Some x
get_left [] ys k x at = cc
get_left (a ∷ xs) ys zero x at = at
get_left (a ∷ xs) ys (suc k) x at = get_left xs ys k x at

get_right : {X : Type 0} (xs ys : List X) (k past : ℕ) → k ≡ length xs + past → slice_get (xs ++ ys) k ≡ slice_get ys past
get_right [] ys k past far = ap (slice_get ys) (let e : k ≡ past = omega (arith, far) in e)
get_right (a ∷ xs) ys zero past far = absurd (omega (arith, far))
get_right (a ∷ xs) ys (suc k) past far = get_right xs ys k past (omega (arith, far))

module _ (buffer : ℤ) (n : Node) (class : ℕ) where
  -- the choices of those pins that have the class
  abbrev pub choices_among : List Pin → List Choice
  choices_among ps = choices_of buffer n (filter (λ p. p.class == class) ps)

  abbrev own : Pin → List Choice
  own p = map (choice buffer n p) (directions p.dirs)

  tested : (p : Pin) (ps : List Pin) (b : Bool) → (p.class == class) ≡ b → choices_among (p ∷ ps) ≡ choices_of buffer n (cond b (p ∷ filter (λ q. q.class == class) ps) (filter (λ q. q.class == class) ps))
  tested p ps b is = ap (λ c. choices_of buffer n (cond c (p ∷ filter (λ q. q.class == class) ps) (filter (λ q. q.class == class) ps))) is

  -- the place is one of the pin's own
  pub among_own : (p : Pin) (ps : List Pin) (k : ℕ) (d : Dir) → p.class ≡ class → slice_get (directions p.dirs) k ≡ Some d → slice_get (choices_among (p ∷ ps)) k ≡ Some (choice buffer n p d)
  among_own p ps k d same at =
      ap (λ cs. slice_get cs k) (tested p ps true (eq-eqb p.class class same))
      ∙ get_left (own p) (choices_among ps) k (choice buffer n p d) (slice_get-map (choice buffer n p) (directions p.dirs) k ∙ ap (option_map (choice buffer n p)) at)

  -- the place is past the pin's own
  pub past_own : (p : Pin) (ps : List Pin) (k past : ℕ) → p.class ≡ class → k ≡ length (directions p.dirs) + past → slice_get (choices_among (p ∷ ps)) k ≡ slice_get (choices_among ps) past
  past_own p ps k past same far =
      let count = length-map (directions p.dirs) (choice buffer n p) in
      ap (λ cs. slice_get cs k) (tested p ps true (eq-eqb p.class class same))
      ∙ get_right (own p) (choices_among ps) k past (omega (arith, far, count))

  -- the pin has another class
  pub past_other : (p : Pin) (ps : List Pin) (k : ℕ) → p.class ≢ class → slice_get (choices_among (p ∷ ps)) k ≡ slice_get (choices_among ps) k
  past_other p ps k other = ap (λ cs. slice_get cs k) (tested p ps false (ne_eqb p.class class other))
