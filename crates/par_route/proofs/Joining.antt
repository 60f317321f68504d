-- The answers of all pieces, and how often all searched.
use Rattle.std.proofs.Common.{ℕ, ◌≡◌, List, [], ◌∷◌, refl, length, arith, Result, Ok, Err, All, IsOk, IfOk}
use Rattle.std.specs.List.{AllZip, flat_map, sum_by}
use Rattle.std.proofs.lemmas.Bool.{false≢true}
use Rattle.std.proofs.lemmas.List.{length-append}
use Rattle.std.proofs.lemmas.List.Elements.{All-head, All-tail}
use Rattle.std.proofs.lemmas.List.Sums.{sum_by-cons}
use Rattle.std.specs.declared.alloc.AllocError.{AllocError}
use Rattle.plane_geom.specs.declared.rect.Solid.{Solid}
use Rattle.walk_model.specs.declared.task.Task.{Task}
use Rattle.walk_model.specs.Answers.{IsAnswer}
use Rattle.line_arena.specs.Count.{counted_by}
use Rattle.par_route.specs.declared.pieces.Piece.{Piece}
use Rattle.par_route.specs.declared.pieces.Searched.{Searched}
use Rattle.par_route.specs.Pieces.{IsSearched, all_items, answers_in, searches_in}
use Rattle.par_route.specs.Routes.{AreAnswers}
use Rattle.par_route.proofs.Zips.{zip_append}

-- what a piece gave, where memory sufficed, is right
abbrev pub Fits : List Solid → Piece Task → Result Searched AllocError → Type 0
Fits solids piece r = IfOk r (IsSearched solids piece)

-- a part that was counted up to the last value adds as much
pub counted_part : (a n : ℕ) → counted_by (counted_by a 0) n ≡ counted_by a n
counted_part a n = omega arith

-- the answers of all pieces are those of all tasks
pub joined_answers : (solids : List Solid) (pieces : List (Piece Task)) (results : List (Result Searched AllocError)) → AllZip (Fits solids) pieces results → All (λ r. IsOk r) results →
    AreAnswers solids (all_items pieces) (flat_map answers_in results)
joined_answers solids [] [] fit ok = tt
joined_answers solids [] (r ∷ results) fit ok = absurd fit
joined_answers solids (p ∷ pieces) [] fit ok = absurd fit
joined_answers solids (p ∷ pieces) (Err e ∷ results) fit ok = absurd (false≢true (All-head (λ r. IsOk r) (Err e) results ok))
joined_answers solids (p ∷ pieces) (Ok s ∷ results) fit ok =
    zip_append (IsAnswer solids) p.items.now s.answers.items (all_items pieces) (flat_map answers_in results) fit.0.answers
    (joined_answers solids pieces results fit.1 (All-tail (λ r. IsOk r) (Ok s) results ok))

-- all searches, joined, are as many as all tasks
pub joined_searches : (solids : List Solid) (pieces : List (Piece Task)) (results : List (Result Searched AllocError)) (n : ℕ) → AllZip (Fits solids) pieces results → All (λ r. IsOk r) results →
    counted_by (sum_by searches_in results) n ≡ counted_by (length (all_items pieces)) n
joined_searches solids [] [] n fit ok = refl
joined_searches solids [] (r ∷ results) n fit ok = absurd fit
joined_searches solids (p ∷ pieces) [] n fit ok = absurd fit
joined_searches solids (p ∷ pieces) (Err e ∷ results) n fit ok = absurd (false≢true (All-head (λ r. IsOk r) (Err e) results ok))
joined_searches solids (p ∷ pieces) (Ok s ∷ results) n fit ok =
    let rest = joined_searches solids pieces results n fit.1 (All-tail (λ r. IsOk r) (Ok s) results ok) in
    let here = fit.0.tally in
    rw (sum_by-cons searches_in (Ok s) results, length-append p.items.now (all_items pieces)) (omega (arith, rest, here))

pub Ok-is : (r : Result Searched AllocError) (s : Searched) → r ≡ Ok s → IsOk r
Ok-is r s at = rw at refl

-- two facts of an answer make a third
pub IfOk-both : {X Y : Type 0} (r : Result X Y) (P Q S : X → Type 0) → ((x : X) → P x → Q x → S x) → IfOk r P → IfOk r Q → IfOk r S
IfOk-both (Ok x) P Q S both p q = both x p q
IfOk-both (Err e) P Q S both p q = tt
