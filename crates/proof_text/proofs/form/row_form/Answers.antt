-- Fewer words than three.
use Rattle.std.proofs.Common.{◌≡◌, ℕ, ◌<◌, List, [], ◌∷◌, length, map, None, refl, arith, Bor}
use Rattle.proof_text.specs.Forms.{row_form}
use Rattle.proof_text.proofs.form.row_form.Goals as goal

few : (args : List (Bor (List ℕ))) → length args < 3 → None ≡ row_form (map (λ w. w.now) args)
few [] h = refl
few (a ∷ []) h = refl
few (a ∷ b ∷ []) h = refl
few (a ∷ b ∷ c ∷ args) h = absurd (omega arith)

pub returns-in_default : goal.returns-in_default
returns-in_default c = few c.args.args.now c.in_default.len_below
