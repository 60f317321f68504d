-- What a label says of a walk that was offered to its place.
use Rattle.std.proofs.Common.{◌≡◌, ℕ, ◌<◌, ◌≤◌, Bool, true, false, if◌then◌else◌, Option, None, Some, refl, sym, subst, ◌∙◌, inl, inr, arith}
use Rattle.std.proofs.lemmas.Bool.{cases_lt, lt-ltb, le-ltb}
use Rattle.plane_geom.specs.declared.floor.Floor.{Floor}
use Rattle.walk_model.specs.declared.task.Task.{Task}
use Rattle.move_model.specs.declared.place.Place.{Place}
use Rattle.search_problem.specs.Problems.{IsReady}
use Rattle.search_problem.specs.declared.problem.Problem.{Problem}
use Rattle.proof_model.specs.LeastLabels.{IsLabelReached}
use Rattle.proof_model.specs.Places as floors
use Rattle.proof_model.specs.Rules.{Suffices}
use Rattle.proof_search.specs.declared.scope.Scope.{Scope}
use Rattle.proof_search.specs.declared.scope.Scope.TheVariants.{Below, Every}
use Rattle.proof_search.specs.Scopes.{ComesBy, claim_of, label_for, most_of}
use Rattle.proof_search.specs.Search.{IsComing, IsReachedAt}

-- a dearer walk needs no more
pub suffices_more : (s : Scope) (o : Option ℕ) (m n : ℕ) → m ≤ n → Suffices (claim_of s) o m → Suffices (claim_of s) o n
suffices_more (Below most) o m n le h = omega (arith, h, le)
suffices_more Every o m n le h = h

-- a lower label says as much as what was there
pub lower_suffices : (s : Scope) (o : Option ℕ) (v cost : ℕ) → v < most_of s → ((w : ℕ) → o ≡ Some w → v ≤ w) → Suffices (claim_of s) o cost
    → Suffices (claim_of s) (Some v) cost
lower_suffices (Below most) None v cost small lower h = omega (arith, small, h)
lower_suffices (Below most) (Some w) v cost small lower h = omega (arith, lower w refl, h)
lower_suffices Every o v cost small lower h = refl

same_some : (v w : ℕ) → ◌≡◌ {A = Option ℕ} (Some v) (Some w) → v ≡ w
same_some v w e = cc

-- a walk that gives a label, and one that gives none
below_label : (b : Bool) (v w : ℕ) → (if b then Some v else None) ≡ Some w → (b ≡ true) × (v ≡ w)
below_label true v w e = (refl, same_some v w e)
below_label false v w e = absurd (let both : ◌≡◌ {A = Option ℕ} None (Some w) = e in cc)

pub label_is : (most cost v : ℕ) → label_for (Below most) cost ≡ Some v → (cost < most) × (cost ≡ v)
label_is most cost v e = elim (cases_lt cost most) as (λ _. (cost < most) × (cost ≡ v)) [
  | inl less ↦ (less, same_some cost v (sym (λ i. if lt-ltb cost most less i then Some cost else None) ∙ e))
  | inr upto ↦ absurd (let both : ◌≡◌ {A = Option ℕ} None (Some v) = sym (λ i. if le-ltb cost most upto i then Some cost else None) ∙ e in cc)
]

pub no_label_is : (most cost : ℕ) → label_for (Below most) cost ≡ None → most ≤ cost
no_label_is most cost e = elim (cases_lt cost most) as (λ _. most ≤ cost) [
  | inl less ↦ absurd (let both : ◌≡◌ {A = Option ℕ} (Some cost) None = sym (λ i. if lt-ltb cost most less i then Some cost else None) ∙ e in cc)
  | inr upto ↦ upto
]

-- a label that is at most what the walk gives
pub known_suffices : (s : Scope) (cost v w : ℕ) → label_for s cost ≡ Some v → w ≤ v → Suffices (claim_of s) (Some w) cost
known_suffices (Below most) cost v w e le = let is = (label_is most cost v e).1 in omega (arith, is, le)
known_suffices Every cost v w e le = refl

-- a walk that gives no label needs none
pub none_suffices : (s : Scope) (o : Option ℕ) (cost : ℕ) → label_for s cost ≡ None → ((w : ℕ) → o ≡ Some w → w < most_of s) → Suffices (claim_of s) o cost
none_suffices (Below most) None cost e small = no_label_is most cost e
none_suffices (Below most) (Some w) cost e small = let upto = no_label_is most cost e in omega (arith, upto, small w refl)
none_suffices Every o cost e small = absurd (let both : ◌≡◌ {A = Option ℕ} (Some 0) None = e in cc)

module _ (floor : Floor) (task : Task) (x : floors.Place) where
  -- the label that a walk gives is reached
  pub label_reached : (s : Scope) (cost v : ℕ) → ComesBy s floor task x cost → label_for s cost ≡ Some v → IsLabelReached floor task (claim_of s) x v
  label_reached (Below most) cost v comes e =
      let is = label_is most cost v e in
      subst (λ n. IsLabelReached floor task (claim_of (Below most)) x n) is.1 (is.0, comes.0, comes.1)
  label_reached Every cost v comes e = (sym (same_some 0 v e), comes.0, comes.1, comes.2)

  -- and a walk comes at what is reached
  pub reached_comes : (s : Scope) (v : ℕ) → IsLabelReached floor task (claim_of s) x v → ComesBy s floor task x v
  reached_comes (Below most) v h = (h.1, h.2)
  reached_comes Every v h = (h.1, h.2, h.3)

  pub reached_below : (s : Scope) (v : ℕ) → IsLabelReached floor task (claim_of s) x v → v < most_of s
  reached_below (Below most) v h = h.0
  reached_below Every v h = omega (arith, h.0)

module _ (p : Problem) (s : Scope) (x : Place) where
  pub reached_by : (cost v : ℕ) → IsComing p s x cost → label_for s cost ≡ Some v → IsReachedAt p s x v
  reached_by cost v coming e = record {
    at = coming.at;
    here = coming.here;
    stage = coming.stage;
    reached = λ floor on. label_reached floor p.task.now (record { stage = x.stage; at = coming.at; heading = x.heading }) s cost v (coming.comes floor on) e;
  }

  pub coming_by : (v : ℕ) → IsReachedAt p s x v → IsComing p s x v
  coming_by v r = record {
    at = r.at;
    here = r.here;
    stage = r.stage;
    comes = λ floor on. reached_comes floor p.task.now (record { stage = x.stage; at = r.at; heading = x.heading }) s v (r.reached floor on);
  }

  pub small_label : IsReady p → (v : ℕ) → IsReachedAt p s x v → v < most_of s
  small_label ready v r = reached_below ready.floor p.task.now (record { stage = x.stage; at = r.at; heading = x.heading }) s v
      (r.reached ready.floor ready.problem)
