-- Which steps may not meet the solid of a node.
use Rattle.std.proofs.Common.{◌≡◌, ◌↔◌, ℕ, ◌-◌, ◌<◌, ◌≤◌, ◌⊎◌, ℤ, length, inl, inr, arith}
use Rattle.std.proofs.lemmas.Bool.{cases_lt}
use Rattle.walk_model.specs.declared.task.Choice.{Choice}
use Rattle.walk_model.specs.Walk.{Walk}
use Rattle.walk_model.specs.Choice.{stub_length}
use Rattle.route_check.specs.declared.steps.Steps.{Steps}
use Rattle.route_check.specs.Steps.{IsAmong}
use Rattle.route_check.specs.Verdict.{MayMeet, at_start, at_end}

-- the steps begin after the stub of the node, if the start is of it, and end before its stub, if the end is of it
pub closed_is : (s : Choice) (w : Walk) (e : Choice) (node : ℤ) (n : ℕ) (c : Steps) → length w.steps ≡ n
    → ((node ≡ s.node) × (c.begin ≡ stub_length s)) ⊎ ((node ≡ s.node → ⊥) × (c.begin ≡ 0))
    → ((node ≡ e.node) × (c.end ≡ n - stub_length e)) ⊎ ((node ≡ e.node → ⊥) × (c.end ≡ n))
    → (k : ℕ) → IsAmong c k ↔ ((k < n) × (MayMeet s w e k node → ⊥))
closed_is s w e node n c counted from to k = (
  λ (low, high). (
    elim to as (λ _. k < n) [ inl t ↦ omega arith | inr t ↦ omega arith ],
    λ may. elim may as (λ _. ⊥) [
      | at_start on is ↦ elim from as (λ _. ⊥) [ inl f ↦ omega arith | inr f ↦ f.0 is ]
      | at_end on is ↦ elim to as (λ _. ⊥) [ inl t ↦ omega arith | inr t ↦ t.0 is ]
    ],
  ),
  λ (within, not). (
    elim from as (λ _. c.begin ≤ k) [
      | inl f ↦ elim (cases_lt k (stub_length s)) as (λ _. c.begin ≤ k) [ inl on ↦ absurd (not (at_start on f.0)) | inr off ↦ omega arith ]
      | inr f ↦ omega arith
    ],
    elim to as (λ _. k < c.end) [
      | inl t ↦ elim (cases_lt k (n - stub_length e)) as (λ _. k < c.end) [ inl off ↦ omega arith | inr on ↦ absurd (not (at_end (omega arith) t.0)) ]
      | inr t ↦ omega arith
    ],
  ),
)
