-- Two words at a time become corners.
use Rattle.std.proofs.Common.{◌≡◌, ℕ, ◌-◌, ◌<◌, ◌≤◌, ℤ, Bool, false, List, [], ◌∷◌, ◌++◌, length, map, take, drop, get_or, Option, None, Some, refl, sym, ap, ◌∙◌, append_assoc, arith}
use Rattle.std.specs.Prelude.{◌==◌, option_and_then, option_map}
use Rattle.std.proofs.lemmas.List.{take_all}
use Rattle.plane_geom.specs.declared.point.Point.{Point}
use Rattle.live_replies.specs.Forms.{corners_of}
use Rattle.edit_script.specs.Values.{number_of}

-- the corners so far, and those of the words that are left
abbrev pub together : List Point → Option (List Point) → Option (List Point)
together corners rest = option_map (λ ps. corners ++ ps) rest

-- one corner, and then those that are left
pushed : (corners : List Point) (p : Point) (rest : Option (List Point)) → together (corners ++ p ∷ []) rest ≡ together corners (option_and_then (λ ps. Some (p ∷ ps)) rest)
pushed corners p None = refl
pushed corners p (Some ps) = ap Some (append_assoc corners (p ∷ []) ps)

-- a corner of which both numbers are known
known : (a b : List ℕ) (rest : List (List ℕ)) (x y : ℤ) → number_of a ≡ Some x → number_of b ≡ Some y
    → corners_of (a ∷ b ∷ rest) ≡ option_and_then (λ ps. Some (record { x = x; y = y } ∷ ps)) (corners_of rest)
known a b rest x y is_x is_y = rw (is_x, is_y) refl

module _ {A : Type 0} (spell : A → List ℕ) where
  -- two words on
  pub one_more : (left : List A) (d : A) (corners more : List Point) (whole : Option (List Point)) (x y : ℤ) → 2 ≤ length left
      → number_of (spell (get_or left 0 d)) ≡ Some x → number_of (spell (get_or left 1 d)) ≡ Some y → more ≡ corners ++ record { x = x; y = y } ∷ []
      → together corners (corners_of (map spell left)) ≡ whole → together more (corners_of (map spell (take (length left - 2) (drop 2 left)))) ≡ whole
  one_more [] d corners more whole x y two is_x is_y is_more h = absurd (omega (arith, two))
  one_more (a ∷ []) d corners more whole x y two is_x is_y is_more h = absurd (omega (arith, two))
  one_more (a ∷ b ∷ rest) d corners more whole x y two is_x is_y is_more h =
      ap (λ ws. together more (corners_of (map spell ws))) (take_all (length (a ∷ b ∷ rest) - 2) rest (omega arith))
      ∙ ap (λ cs. together cs (corners_of (map spell rest))) is_more
      ∙ pushed corners (record { x = x; y = y }) (corners_of (map spell rest))
      ∙ ap (together corners) (sym (known (spell a) (spell b) (map spell rest) x y is_x is_y))
      ∙ h

  -- one word is no corner
  pub one_word : (left : List A) (corners : List Point) (whole : Option (List Point)) → length left < 2 → (length left == 0) ≡ false
      → together corners (corners_of (map spell left)) ≡ whole → None ≡ whole
  one_word [] corners whole few some h = cc
  one_word (a ∷ []) corners whole few some h = h
  one_word (a ∷ b ∷ rest) corners whole few some h = absurd (omega (arith, few))
