-- Fewer words than two, and more.
use Rattle.std.proofs.Common.{◌≡◌, ℕ, ◌<◌, ◌≤◌, List, [], ◌∷◌, length, map, None, refl, arith, Bor}
use Rattle.proof_text.specs.Forms.{point_form}
use Rattle.proof_text.proofs.form.point_form.Goals as goal

few : (args : List (Bor (List ℕ))) → length args < 2 → None ≡ point_form (map (λ w. w.now) args)
few [] h = refl
few (a ∷ []) h = refl
few (a ∷ b ∷ args) h = absurd (omega arith)

many : (args : List (Bor (List ℕ))) → 3 ≤ length args → None ≡ point_form (map (λ w. w.now) args)
many [] h = refl
many (a ∷ []) h = refl
many (a ∷ b ∷ []) h = absurd (omega arith)
many (a ∷ b ∷ c ∷ args) h = refl

pub returns-in_default : goal.returns-in_default
returns-in_default c = few c.args.args.now c.in_default.len_below

pub returns-in_default-2 : goal.returns-in_default-2
returns-in_default-2 c = many c.args.args.now c.in_default.len_at_least
