-- Draws one after another, and what they make in order.
use Rattle.std.proofs.Common.{◌≡◌, ℕ, zero, suc, ◌+◌, [], ◌∷◌, ◌++◌, length, refl, sym, ap, ◌∙◌, add-one, arith, length-append}
use Rattle.form_make.specs.Draws.{next_state, state_after, first, draw, drawn}

pub state_after-zero : (seed : ℕ) → state_after seed 0 ≡ seed
unfolding state_after
state_after-zero seed = refl

pub state_after-more : (seed count : ℕ) → state_after seed (count + 1) ≡ next_state (state_after seed count)
unfolding state_after
state_after-more seed count = rw add-one refl

-- draws after draws are later draws
pub state_after-sum : (seed before count : ℕ) → state_after (state_after seed before) count ≡ state_after seed (before + count)
unfolding state_after
state_after-sum seed before zero = let e : before ≡ before + 0 = omega arith in ap (state_after seed) e
state_after-sum seed before (suc count) =
    let e : suc (before + count) ≡ before + suc count = omega arith in
    ap next_state (state_after-sum seed before count) ∙ ap (state_after seed) e

-- the state after one more draw
pub next_is : (seed place next s t : ℕ) → next ≡ place + 1 → s ≡ state_after seed place → t ≡ next_state s → t ≡ state_after seed next
next_is seed place next s t e was is = is ∙ ap next_state was ∙ sym (state_after-more seed place) ∙ ap (state_after seed) (sym e)

-- what is drawn there
pub draw_is : (seed place most next t drew : ℕ) → next ≡ place + 1 → t ≡ state_after seed next → drew ≡ drawn t most → drew ≡ draw seed place most
draw_is seed place most next t drew e was is = is ∙ ap (λ s. drawn s most) (was ∙ ap (state_after seed) e)

pub first-zero : {X : Type 0} (thing : ℕ → X) → first 0 thing ≡ []
unfolding first
first-zero thing = refl

pub first-more : {X : Type 0} (count : ℕ) (thing : ℕ → X) → first (count + 1) thing ≡ first count thing ++ thing count ∷ []
unfolding first
first-more count thing = rw add-one refl

pub length-first : {X : Type 0} (count : ℕ) (thing : ℕ → X) → length (first count thing) ≡ count
unfolding first
length-first zero thing = refl
length-first (suc count) thing =
    let before = length-first count thing in
    let more = length-append (first count thing) (thing count ∷ []) in
    let one : length (thing count ∷ []) ≡ 1 = refl in
    omega (arith, before, more, one)
