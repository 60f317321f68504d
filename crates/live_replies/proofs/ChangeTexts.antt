-- The text of changes is that of the connectors that are gone, and then that of the lines that changed.
use Rattle.std.proofs.Common.{◌≡◌, ℕ, ◌+◌, ◌<◌, Bool, List, [], ◌∷◌, ◌++◌, length, map, drop, get_or, Result, Ok, Err, inl, inr, refl, sym, ap, ◌∙◌, append_assoc, cond, arith}
use Rattle.std.specs.List.{flat_map}
use Rattle.std.specs.Prelude.{OnOk}
use Rattle.std.proofs.lemmas.Bool.{cases_Bool}
use Rattle.std.proofs.lemmas.Grind.{flat_map-append}
use Rattle.std.proofs.lemmas.List.{append-nil, drop_more}
use Rattle.std.proofs.lemmas.List.Folds.{flat_map-map}
use Rattle.walk_model.specs.declared.route.WrittenRoute.{WrittenRoute}
use Rattle.live_replies.specs.Changes.{Change, gone, drawn, change_text, changes, changes_text, drawn_of}
use Rattle.live_replies.specs.Texts.{drawn_text, gone_text}

module _ (lines : List WrittenRoute) (changed : List Bool) (i : ℕ) (l : WrittenRoute) (e : Bool) (within : i < length lines) (many : length changed ≡ length lines)
    (is_line : l ≡ get_or lines i l) where
  abbrev t : Bool
  t = get_or changed i e

  -- the lines that changed from the next place on
  abbrev later : List Change
  later = drawn_of (drop (i + 1) lines) (drop (i + 1) changed)

  here : drawn_of (drop i lines) (drop i changed) ≡ cond t (drawn l ∷ later) later
  here =
      ap (λ ls. drawn_of ls (drop i changed)) (drop_more lines i l within ∙ ap (λ k. k ∷ drop (i + 1) lines) (sym is_line))
      ∙ ap (λ ts. drawn_of (l ∷ drop (i + 1) lines) ts) (drop_more changed i e (omega (arith, within, many)))

  -- the line, if it changed, and then those from the next place on
  parted : changes_text (cond t (drawn l ∷ later) later) ≡ changes_text (drawn_of (l ∷ []) (t ∷ [])) ++ changes_text later
  parted = elim (cases_Bool t) as (λ _. changes_text (cond t (drawn l ∷ later) later) ≡ changes_text (cond t (drawn l ∷ []) []) ++ changes_text later) [
    | inl is ↦ rw is (ap (λ s. s ++ changes_text later) (sym (append-nil (drawn_text l))))
    | inr is ↦ rw is refl
  ]

  -- one place on
  pub one_on : (whole out new : List ℕ) → out ++ changes_text (drawn_of (drop i lines) (drop i changed)) ≡ whole → new ≡ out ++ changes_text (drawn_of (l ∷ []) (t ∷ [])) → new ++ changes_text later ≡ whole
  one_on whole out new so_far pushed =
      ap (λ s. s ++ changes_text later) pushed ∙ append_assoc out (changes_text (drawn_of (l ∷ []) (t ∷ []))) (changes_text later)
      ∙ ap (λ s. out ++ s) (sym (ap changes_text here ∙ parted)) ∙ so_far

-- what was appended is the text of the changes
pub both : (out first all : List ℕ) (lines : List WrittenRoute) (changed : List Bool) (numbers : List ℕ) → first ≡ out ++ flat_map gone_text numbers
    → all ≡ first ++ changes_text (drawn_of lines changed) → all ≡ out ++ changes_text (changes (record { lines = lines; changed = changed; gone = numbers }))
both out first all lines changed numbers is_first is_all =
    let later = changes_text (drawn_of lines changed) in
    is_all ∙ ap (λ t. t ++ later) is_first ∙ append_assoc out (flat_map gone_text numbers) later
    ∙ ap (λ t. out ++ t) (sym (flat_map-append change_text (map gone numbers) (drawn_of lines changed) ∙ ap (λ t. t ++ later) (flat_map-map change_text gone numbers)))

pub both_ok : {E : Type 0} (r : Result Unit E) (out first all : List ℕ) (lines : List WrittenRoute) (changed : List Bool) (numbers : List ℕ) → first ≡ out ++ flat_map gone_text numbers
    → OnOk r (all ≡ first ++ changes_text (drawn_of lines changed)) → OnOk r (all ≡ out ++ changes_text (changes (record { lines = lines; changed = changed; gone = numbers })))
both_ok (Ok done) out first all lines changed numbers is_first is_all = both out first all lines changed numbers is_first is_all
both_ok (Err e) out first all lines changed numbers is_first is_all = tt
