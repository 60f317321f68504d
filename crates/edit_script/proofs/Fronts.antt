-- Seven words of a line decide its command.
use Rattle.std.proofs.Common.{◌≡◌, ℕ, List, [], ◌∷◌, take, refl}
use Rattle.edit_script.specs.Script.{command_of}

-- no form has more than six words
pub front_decides : (ws : List (List ℕ)) → command_of (take 7 ws) ≡ command_of ws
front_decides [] = refl
front_decides (n ∷ []) = refl
front_decides (n ∷ a ∷ []) = refl
front_decides (n ∷ a ∷ b ∷ []) = refl
front_decides (n ∷ a ∷ b ∷ c ∷ []) = refl
front_decides (n ∷ a ∷ b ∷ c ∷ d ∷ []) = refl
front_decides (n ∷ a ∷ b ∷ c ∷ d ∷ e ∷ []) = refl
front_decides (n ∷ a ∷ b ∷ c ∷ d ∷ e ∷ f ∷ ws) = refl
