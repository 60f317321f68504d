-- Numbers of the program and their bits.
use Rattle.std.proofs.Common.{◌≡◌, ℤ, FitsSigned, ap, sym, ◌∙◌, to_z, of_z, to_z-of_z}
use mir.Syntax.{Width}

-- two numbers that fit are equal where their bits are
pub same_bits : (w : Width) (a b : ℤ) → FitsSigned w a → FitsSigned w b → of_z w a ≡ of_z w b → a ≡ b
same_bits w a b fa fb e = sym (to_z-of_z fa) ∙ ap (to_z w) e ∙ to_z-of_z fb
