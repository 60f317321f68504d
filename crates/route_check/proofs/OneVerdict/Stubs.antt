-- Two choices with whose stub one walk begins, or ends, have one stub.
use Rattle.std.proofs.Common.{◌≡◌, ℕ, ◌+◌, ◌-◌, ◌<◌, ◌≤◌, List, length, take, drop, get_or, refl, sym, ap, subst, ◌∙◌, inl, inr, arith, AllPairs, Contains}
use Rattle.std.proofs.lemmas.Bool.{cases_order}
use Rattle.std.proofs.lemmas.List.{length-replicate, length-take, length-drop, get_or-take, get_or-drop, get_or-replicate, get_or_default, same_lists}
use Rattle.std.proofs.lemmas.List.Elements.{All-contains}
use Rattle.plane_geom.specs.declared.point.Dir.{Dir}
use Rattle.plane_geom.specs.declared.point.Dir.TheVariants.{East, South, West, North}
use Rattle.plane_geom.specs.Point.{opposite}
use Rattle.walk_model.specs.declared.task.Choice.{Choice}
use Rattle.walk_model.specs.Walk.{Walk, step_at, end_of}
use Rattle.walk_model.specs.Choice.{stub_length, IsChoice, AreChoices}
use Rattle.walk_model.specs.Legal.{Leaves, Arrives}

-- to turn back twice is to go on
pub opposite-opposite : (d : Dir) → opposite (opposite d) ≡ d
opposite-opposite East = refl
opposite-opposite South = refl
opposite-opposite West = refl
opposite-opposite North = refl

-- the first steps of a walk are a stub where each of them goes its way
module _ (w : Walk) (c : Choice) where
  pub leaves_within : Leaves w c → stub_length c ≤ length w.steps
  leaves_within l = omega (arith, ap length l.stub, length-take (stub_length c) w.steps, length-replicate (stub_length c) c.dir)

  pub leaves_step : Leaves w c → (k : ℕ) → k < stub_length c → step_at w k ≡ c.dir
  leaves_step l k h =
      sym (get_or-take (stub_length c) w.steps k East h) ∙ ap (λ (ds : List Dir). get_or ds k East) l.stub ∙ get_or-replicate (stub_length c) k c.dir East h

  pub leaves_from : w.start ≡ c.pin → stub_length c ≤ length w.steps → ((k : ℕ) → k < stub_length c → step_at w k ≡ c.dir) → Leaves w c
  leaves_from pin within ahead =
      let n = stub_length c in
      let same : length (take n w.steps) ≡ n = omega (arith, length-take n w.steps) in
      record {
        pin = pin;
        stub = same_lists _ _ (same ∙ sym (length-replicate n c.dir)) (λ k d h.
            let in' : k < n = omega arith in
            let there : k < length w.steps = omega arith in
            get_or-take n w.steps k d in' ∙ get_or_default w.steps k d East there ∙ ahead k in' ∙ sym (get_or-replicate n k c.dir d in'));
      }

-- the last steps of a walk are a reversed stub where each of them goes back its way
module _ (w : Walk) (c : Choice) where
  pub arrives_within : Arrives w c → stub_length c ≤ length w.steps
  arrives_within a = omega (arith, ap length a.stub, length-drop (length w.steps - stub_length c) w.steps, length-replicate (stub_length c) (opposite c.dir))

  pub arrives_step : Arrives w c → (k : ℕ) → length w.steps - stub_length c ≤ k → k < length w.steps → step_at w k ≡ opposite c.dir
  arrives_step a k low high =
      let n = length w.steps - stub_length c in
      let i = k - n in
      let on : n + i ≡ k = omega arith in
      let in' : i < stub_length c = omega (arith, arrives_within a) in
      ap (step_at w) (sym on) ∙ sym (get_or-drop n w.steps i East) ∙ ap (λ (ds : List Dir). get_or ds i East) a.stub
      ∙ get_or-replicate (stub_length c) i (opposite c.dir) East in'

  pub arrives_from : end_of w ≡ c.pin → stub_length c ≤ length w.steps → ((k : ℕ) → length w.steps - stub_length c ≤ k → k < length w.steps → step_at w k ≡ opposite c.dir) → Arrives w c
  arrives_from pin within behind =
      let n = stub_length c in
      let m = length w.steps - n in
      let same : length (drop m w.steps) ≡ n = omega (arith, length-drop m w.steps) in
      record {
        pin = pin;
        stub = same_lists _ _ (same ∙ sym (length-replicate n (opposite c.dir))) (λ k d h.
            let in' : k < n = omega arith in
            let there : m + k < length w.steps = omega arith in
            get_or-drop m w.steps k d ∙ get_or_default w.steps (m + k) d East there ∙ behind (m + k) (omega arith) there ∙ sym (get_or-replicate n k (opposite c.dir) d in'));
      }

-- what holds of any two elements of a list, either way around, and of each with itself
pub of_two : {X : Type 0} (R : X → X → Type 0) → ((x : X) → R x x) → ((x y : X) → R x y → R y x) → (xs : List X) (x y : X) → AllPairs R xs → Contains xs x → Contains xs y → R x y
of_two {X} R itself turned xs x y pairs (i, h, e) (j, g, f) =
    let y_at : get_or xs j x ≡ y = get_or_default xs j x y g ∙ f in
    let first : i < j → R x y = λ below. let r : R (get_or xs i x) (get_or xs j x) = pairs i j x below g in rw (e, y_at) at r in
    let last : j < i → R x y = λ above. let r : R (get_or xs j x) (get_or xs i x) = pairs j i x above h in turned y x (rw (y_at, e) at r) in
    elim (cases_order i j) as (λ _. R x y) [
      | inl same ↦ (let both : x ≡ y = sym e ∙ ap (λ (k : ℕ). get_or xs k x) same ∙ y_at in subst (R x) both (itself x))
      | inr order ↦ elim order as (λ _. R x y) [ inl below ↦ first below | inr above ↦ last above ]
    ]

-- two stubs of one end that lie at one place: of one length, and of one node
pub record SameStub (c d : Choice) : Type 0 where
  pub length : stub_length c ≡ stub_length d
  pub node : c.node ≡ d.node

module _ (cs : List Choice) (are : AreChoices cs) (c d : Choice) (in_c : Contains cs c) (in_d : Contains cs d) where
  pub same_stub : c.pin ≡ d.pin → c.dir ≡ d.dir → SameStub c d
  same_stub pin dir =
      let port : c.port ≡ d.port = of_two (λ (x y : Choice). x.pin ≡ y.pin → x.dir ≡ y.dir → x.port ≡ y.port) (λ x _ _. refl) (λ x y r p q. sym (r (sym p) (sym q))) cs c d are.one_port in_c in_d pin dir in
      record {
        length = cc;
        node = of_two (λ (x y : Choice). x.node ≡ y.node) (λ x. refl) (λ x y. sym) cs c d are.one_node in_c in_d;
      }

  -- a walk begins with one stub at most
  pub one_start : (w : Walk) → Leaves w c → Leaves w d → SameStub c d
  one_start w l m =
      let is = All-contains IsChoice cs c are.each in_c in
      let is' = All-contains IsChoice cs d are.each in_d in
      same_stub (sym l.pin ∙ m.pin) (sym (leaves_step w c l 0 is.apart) ∙ leaves_step w d m 0 is'.apart)

  -- and ends with one at most
  pub one_end : (w : Walk) → Arrives w c → Arrives w d → SameStub c d
  one_end w a b =
      let is = All-contains IsChoice cs c are.each in_c in
      let is' = All-contains IsChoice cs d are.each in_d in
      let last : opposite c.dir ≡ opposite d.dir =
      sym (arrives_step w c a (length w.steps - 1) (omega (arith, is.apart)) (omega (arith, is.apart, arrives_within w c a)))
      ∙ arrives_step w d b (length w.steps - 1) (omega (arith, is'.apart)) (omega (arith, is.apart, arrives_within w c a)) in
      same_stub (sym a.pin ∙ b.pin) (sym (opposite-opposite c.dir) ∙ ap opposite last ∙ opposite-opposite d.dir)
