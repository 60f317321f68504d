-- Heights of two sides and of what stands over them.
use Rattle.std.proofs.Common.{◌≡◌, ℕ, ◌+◌, ◌*◌, ◌^◌, ◌≤◌, max, inl, inr, arith, add-one}
use Rattle.std.proofs.lemmas.Bool.{cases_lt}
use Rattle.std.proofs.Math.Nat.{mul-le-mul_left, pow-le-pow_right, pow-suc}
use Rattle.interval_index.specs.Height.{DifferByAtMost, IsLow}

-- what is at most a * a and at most 2 * b * b is at most 2 * a * b
product_between : (x a b : ℕ) → x ≤ a * a → x ≤ 2 * (b * b) → x ≤ 2 * (a * b)
product_between x a b h k =
    elim (cases_lt (2 * b) a) [
      | inl few ↦ let more : b * (2 * b) ≤ b * a = mul-le-mul_left b (omega arith) in omega arith
      | inr many ↦ let more : a * a ≤ a * (2 * b) = mul-le-mul_left a many in omega arith
    ]

-- the powers of two at the heights x and y, where x is the higher one by at most 1
power_over : (x y a b : ℕ) → x ≤ a * a → y ≤ b * b → x ≤ 2 * y → 2 * x ≤ (a + b) * (a + b)
power_over x y a b h k d =
    let between = product_between x a b h (omega arith) in
    omega arith

double : (h : ℕ) → 2 ^ (h + 1) ≡ 2 * 2 ^ h
double h = rw (add-one, pow-suc) (omega arith)

power_near : (h k : ℕ) → h ≤ k + 1 → 2 ^ h ≤ 2 * 2 ^ k
power_near h k d = let less : 2 ^ h ≤ 2 ^ (k + 1) = pow-le-pow_right (omega arith) d in omega (arith, double k)

pub low_over : (hl hr l r : ℕ) → IsLow hl l → IsLow hr r → DifferByAtMost 1 hl hr → IsLow (max hl hr + 1) (l + r + 1)
low_over hl hr l r a b d =
    elim (cases_lt hl hr) [
      | inl right ↦
          let e : max hl hr ≡ hr = omega arith in
          let over = power_over (2 ^ hr) (2 ^ hl) (r + 1) (l + 1) b.logarithmic a.logarithmic (power_near hr hl d.1) in
          rw e (record { few = omega (arith, a.few, b.few); logarithmic = omega (arith, double hr) })
      | inr left ↦
          let e : max hl hr ≡ hl = omega arith in
          let over = power_over (2 ^ hl) (2 ^ hr) (l + 1) (r + 1) a.logarithmic b.logarithmic (power_near hl hr d.0) in
          rw e (record { few = omega (arith, a.few, b.few); logarithmic = omega (arith, double hl) })
    ]
