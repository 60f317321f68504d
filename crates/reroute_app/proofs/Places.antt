-- The place that follows the bytes that were seen.
use Rattle.std.proofs.Common.{◌≡◌, ℕ, ◌+◌, ◌<◌, ◌≤◌, ◌==◌, true, false, if◌then◌else◌, List, [], ◌∷◌, ◌++◌, length, take, get_or, refl, ap, ◌∙◌, arith}
use Rattle.std.proofs.lemmas.List.{take_more}
use Rattle.report_text.specs.declared.hint.Place.{Place}
use Rattle.reroute_app.specs.Hint.{first_place, next_place, place_after}

after_one : (p : Place) (bytes : List ℕ) (b : ℕ) → place_after p (bytes ++ b ∷ []) ≡ next_place (place_after p bytes) b
after_one p [] b = refl
after_one p (c ∷ bytes) b = after_one (next_place p c) bytes b

-- the place after one more byte
pub place_more : (bytes : List ℕ) (i d : ℕ) → i < length bytes → place_after first_place (take (i + 1) bytes) ≡ next_place (place_after first_place (take i bytes)) (get_or bytes i d)
place_more bytes i d lt = ap (place_after first_place) (take_more bytes i d lt) ∙ after_one first_place (take i bytes) (get_or bytes i d)

-- a byte moves the place on by one line or column at most
pub near_line : (p q : Place) (b i : ℕ) → q ≡ next_place p b → p.line ≤ i + 1 → q.line ≤ i + 1 + 1
near_line p q b i is near = elim (b == 10) as (λ t. q ≡ (if t then record { line = p.line + 1; column = 1 } else record { line = p.line; column = p.column + 1 }) → q.line ≤ i + 1 + 1) [
  | true ↦ (λ e. let same = ap (λ (r : Place). r.line) e in omega (arith, same, near))
  | false ↦ (λ e. let same = ap (λ (r : Place). r.line) e in omega (arith, same, near))
] is

pub near_column : (p q : Place) (b i : ℕ) → q ≡ next_place p b → p.column ≤ i + 1 → q.column ≤ i + 1 + 1
near_column p q b i is near = elim (b == 10) as (λ t. q ≡ (if t then record { line = p.line + 1; column = 1 } else record { line = p.line; column = p.column + 1 }) → q.column ≤ i + 1 + 1) [
  | true ↦ (λ e. let same = ap (λ (r : Place). r.column) e in omega (arith, same, near))
  | false ↦ (λ e. let same = ap (λ (r : Place). r.column) e in omega (arith, same, near))
] is
