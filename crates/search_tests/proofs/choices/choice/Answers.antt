-- The port is where the stub leads.
use Rattle.std.proofs.Common.{◌≡◌, ℕ, sym, ap, ◌∙◌, arith, ◌≤◌, ℤ, FitsSigned, w16}
use Rattle.std.proofs.lemmas.Int.{to_z-of_z, ints}
use Rattle.plane_geom.specs.Point.{distance, forward, PointIsOnSheet}
use Rattle.plane_geom.proofs.Headings.{forward_distance}
use Rattle.plane_geom.specs.declared.point.Dir.{Dir}
use Rattle.plane_geom.specs.declared.point.Dir.TheVariants.{East, South, West, North}
use Rattle.search_tests.proofs.choices.choice.Goals as goal

-- short stubs at small coordinates stay on the sheet
stub_end : (d : Dir) (n : ℕ) (x y : ℤ) → n ≤ 256 → FitsSigned w16 x → FitsSigned w16 y → PointIsOnSheet (forward d n (record { x = x; y = y }))
stub_end East n x y s h g = record { x = record { low = omega (arith, ints); high = omega (arith, ints) }; y = record { low = omega (arith, ints); high = omega (arith, ints) } }
stub_end South n x y s h g = record { x = record { low = omega (arith, ints); high = omega (arith, ints) }; y = record { low = omega (arith, ints); high = omega (arith, ints) } }
stub_end West n x y s h g = record { x = record { low = omega (arith, ints); high = omega (arith, ints) }; y = record { low = omega (arith, ints); high = omega (arith, ints) } }
stub_end North n x y s h g = record { x = record { low = omega (arith, ints); high = omega (arith, ints) }; y = record { low = omega (arith, ints); high = omega (arith, ints) } }

pub returns : goal.returns
returns c =
    let pin = c.point-pin.result in
    let long : distance pin c.forward.result ≡ c.args.steps = ap (distance pin) c.forward.ensures ∙ forward_distance c.args.dir c.args.steps pin in
    let x = c.ranges.x in let y = c.ranges.y in
    let exact = simp to_z-of_z at c.point-pin.ensures.exact in
    record {
      pin = c.point-pin.ensures.within;
      port = rw (c.forward.ensures, exact) (stub_end c.args.dir c.args.steps c.args.x c.args.y c.requires.few x y);
      straight = c.forward.ensures ∙ ap (λ (n : ℕ). forward c.args.dir n pin) (sym long);
      apart = omega arith;
      cost = omega arith;
    }
