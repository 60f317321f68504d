-- The first entries that differ decide the order of two rays.
use Rattle.std.proofs.Common.{◌≡◌, ◌≢◌, ◌⊎◌, ◌↔◌, Option, None, List, [], ◌∷◌, inl, inr, refl, sym, ap, ◌∙◌}
use Rattle.std.specs.declared.cmp.Ordering.{Ordering}
use Rattle.std.specs.declared.cmp.Ordering.TheVariants.{Less, Equal, Greater}
use Rattle.std.specs.Ordering.{ordering_then}
use Rattle.std.specs.Cmp.Lexicographic.{slice_cmp}
use Rattle.segment_order.specs.declared.ray.Ray.{Ray}
use Rattle.segment_order.specs.declared.ray.Entry.{Entry}
use Rattle.segment_order.specs.declared.ray.Entry.TheVariants.{Near, Stop, Far}
use Rattle.segment_order.specs.Ray.{entries_left, entry_cmp}

-- an order that is not equal stands
stands : (o rest : Ordering) → o ≢ Equal → ordering_then o rest ≡ o
stands Less rest differ = refl
stands Equal rest differ = absurd (differ refl)
stands Greater rest differ = refl

-- where the first entries differ
pub decided : (a b : List Entry) (x y : Entry) (more rest : List Entry) (o : Ordering) → a ≡ x ∷ more → b ≡ y ∷ rest → o ≡ entry_cmp x y → o ≢ Equal → o ≡ slice_cmp entry_cmp a b
decided a b x y more rest o one other order differ =
    sym (ap (λ es. slice_cmp entry_cmp es b) one ∙ ap (λ es. slice_cmp entry_cmp (x ∷ more) es) other
    ∙ ap (λ r. ordering_then r (slice_cmp entry_cmp more rest)) (sym order) ∙ stands o (slice_cmp entry_cmp more rest) differ)

-- where they are equal, the others decide
pub left_over : (a b : List Entry) (x y : Entry) (more rest : List Entry) → a ≡ x ∷ more → b ≡ y ∷ rest → entry_cmp x y ≡ Equal → slice_cmp entry_cmp a b ≡ slice_cmp entry_cmp more rest
left_over a b x y more rest one other tie =
    ap (λ es. slice_cmp entry_cmp es b) one ∙ ap (λ es. slice_cmp entry_cmp (x ∷ more) es) other
    ∙ ap (λ r. ordering_then r (slice_cmp entry_cmp more rest)) tie

-- only a stop ties with a stop
ties_stop : (y : Entry) → entry_cmp Stop y ≡ Equal → y ≡ Stop
ties_stop (Near z) tie = cc
ties_stop Stop tie = refl
ties_stop (Far z) tie = cc

tied_stop : (x : Entry) → entry_cmp x Stop ≡ Equal → x ≡ Stop
tied_stop (Near z) tie = cc
tied_stop Stop tie = refl
tied_stop (Far z) tie = cc

-- where the first entries tie and one ray ends, the other does
pub ended : (a b : List Entry) (x y : Entry) (xs ys : Option Ray) (o : Ordering) → a ≡ x ∷ entries_left xs → b ≡ y ∷ entries_left ys →
    (x ≡ Stop) ↔ (xs ≡ None) → (y ≡ Stop) ↔ (ys ≡ None) → o ≡ entry_cmp x y → o ≡ Equal → (xs ≡ None) ⊎ (ys ≡ None) → o ≡ slice_cmp entry_cmp a b
ended a b x y xs ys o one other x_stop y_stop order tie (inl end) =
    let stop : x ≡ Stop = x_stop.1 end in
    let both : y ≡ Stop = ties_stop y (ap (λ e. entry_cmp e y) (sym stop) ∙ sym order ∙ tie) in
    let rest : ys ≡ None = y_stop.0 both in
    tie ∙ sym (left_over a b x y (entries_left xs) (entries_left ys) one other (sym order ∙ tie)
    ∙ ap (λ n. slice_cmp entry_cmp (entries_left n) (entries_left ys)) end ∙ ap (λ n. slice_cmp entry_cmp [] (entries_left n)) rest)
ended a b x y xs ys o one other x_stop y_stop order tie (inr end) =
    let stop : y ≡ Stop = y_stop.1 end in
    let both : x ≡ Stop = tied_stop x (ap (λ e. entry_cmp x e) (sym stop) ∙ sym order ∙ tie) in
    let rest : xs ≡ None = x_stop.0 both in
    tie ∙ sym (left_over a b x y (entries_left xs) (entries_left ys) one other (sym order ∙ tie)
    ∙ ap (λ n. slice_cmp entry_cmp (entries_left n) (entries_left ys)) rest ∙ ap (λ n. slice_cmp entry_cmp [] (entries_left n)) end)
