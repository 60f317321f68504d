-- A list cut into pieces, one piece after the other.
use Rattle.std.proofs.Common.{ℕ, ◌≡◌, ◌+◌, ◌-◌, ◌*◌, ◌/◌, ◌%◌, ◌<◌, ◌≤◌, List, [], ◌∷◌, ◌++◌, refl, sym, ◌∙◌, length, get_or, arith, ◌⊎◌, inl, inr}
use Rattle.std.specs.List.{All}
use Rattle.std.proofs.lemmas.Bool.{cases_lt}
use Rattle.std.proofs.lemmas.List.{length-append, append_assoc, append-nil, get_or_append_left, get_or-append_right, flat_map_more}
use Rattle.std.proofs.lemmas.List.Elements.{All-cons, All-nil}
use Rattle.par_route.specs.declared.pieces.Piece.{Piece}
use Rattle.par_route.specs.Pieces.{AreCut, all_items, piece_length}
use Rattle.par_route.proofs.Lengths.{empty, left_first, left_more, longer_even, longer_falls, mod_small, none_left}
use Rattle.par_route.proofs.Zips.{All-back, All-front}

-- the piece with this place has its number and its length
pub record IsPieceAt {T : Type 0} (items count place : ℕ) (p : Piece T) : Type 0 where
  pub number : p.number ≡ place + 1
  pub len : length p.items.now ≡ piece_length items count place

-- the first pieces are cut, and the rest is to be cut into the remaining number of pieces
pub record AreCutSoFar {T : Type 0} (all rest : List T) (count done : ℕ) (pieces : List (Piece T)) : Type 0 where
  pub small : length all % count ≤ count
  pub within : done ≤ count
  pub len : length pieces ≡ done
  pub items : all_items pieces ++ rest ≡ all
  pub left : length rest ≡ (count - done) * (length all / count) + (length all % count - done)
  pub each : (i : ℕ) (d : Piece T) → i < done → IsPieceAt (length all) count i (get_or pieces i d)

-- no piece is cut yet
pub start : {T : Type 0} (all : List T) (count : ℕ) → (count ≡ 0 → length all ≡ 0) → AreCutSoFar all all count 0 []
start all count none = record {
  small = mod_small (length all) count none;
  within = omega arith;
  len = refl;
  items = refl;
  left = left_first (length all) count;
  each = λ i d lt. absurd (omega (arith, lt));
}

-- the next piece is within what is left
pub fits : {T : Type 0} (all rest : List T) (count done : ℕ) (pieces : List (Piece T)) → AreCutSoFar all rest count done pieces → done < count → piece_length (length all) count done ≤ length rest
fits all rest count done pieces so_far lt = omega (arith, so_far.left, left_more (length all) count done lt)

-- the pieces so far and one more
each_more : {T : Type 0} (items count done : ℕ) (pieces : List (Piece T)) (p : Piece T) → length pieces ≡ done → ((i : ℕ) (d : Piece T) → i < done → IsPieceAt items count i (get_or pieces i d)) → IsPieceAt items count done p →
    (i : ℕ) (d : Piece T) → i < done + 1 → IsPieceAt items count i (get_or (pieces ++ p ∷ []) i d)
each_more {T = T} items count done pieces p len each last i d lt = by_place (cases_lt i done)
  where
    by_place : (i < done) ⊎ (done ≤ i) → IsPieceAt items count i (get_or (pieces ++ p ∷ []) i d)
    by_place (inl before) = rw (get_or_append_left pieces (p ∷ []) d i (omega (arith, len, before))) (each i d before)
    by_place (inr behind) =
        let same : i ≡ done = omega (arith, lt, behind) in
        let none : i - done ≡ 0 = omega (arith, lt, behind) in
        rw (get_or-append_right pieces (p ∷ []) done i d len behind, none, same) last

-- one more piece is cut
pub step : {T : Type 0} (all rest mine others : List T) (count done : ℕ) (pieces : List (Piece T)) (p : Piece T) → AreCutSoFar all rest count done pieces → done < count →
    rest ≡ mine ++ others → length mine ≡ piece_length (length all) count done → p.items.now ≡ mine → p.number ≡ done + 1 →
    AreCutSoFar all others count (done + 1) (pieces ++ p ∷ [])
step {T = T} all rest mine others count done pieces p so_far lt split len at number =
    let lens : length rest ≡ length mine + length others = rw split (length-append mine others) in
    let last : IsPieceAt (length all) count done p = record { number = number; len = rw at len } in
    record {
      small = so_far.small;
      within = omega (arith, lt);
      len = rw (length-append pieces (p ∷ [])) (omega (arith, so_far.len));
      items = rw (← flat_map_more (λ (q : Piece T). q.items.now) [] pieces p, append_assoc (all_items pieces) p.items.now others, at, ← split) so_far.items;
      left = omega (arith, lens, len, so_far.left, left_more (length all) count done lt);
      each = each_more (length all) count done pieces p so_far.len so_far.each last;
    }

-- all pieces are cut
pub finish : {T : Type 0} (all rest : List T) (count done : ℕ) (pieces : List (Piece T)) → AreCutSoFar all rest count done pieces → count ≤ done → AreCut all count pieces
finish {T = T} all rest count done pieces so_far le =
    let same : done ≡ count = omega (arith, so_far.within, le) in
    let small = so_far.small in
    let nothing : length rest ≡ 0 = so_far.left ∙ (rw same (none_left count (length all / count) (length all % count) small)) in
    let at : (i : ℕ) (d : Piece T) → i < length pieces → IsPieceAt (length all) count i (get_or pieces i d) = (λ i d lt. so_far.each i d (omega (arith, so_far.len, lt))) in
    record {
      count = so_far.len ∙ same;
      items = sym (append-nil (all_items pieces)) ∙ (rw (← empty rest nothing) so_far.items);
      numbers = λ i d lt. (at i d lt).number;
      longer_first = λ i j d lt within. (
          let a = (at i d (omega (arith, lt, within))).len in let b = (at j d within).len in
          omega (arith, a, b, longer_falls i j (length all % count) lt));
      even = λ i j d lt within. (
          let a = (at i d (omega (arith, lt, within))).len in let b = (at j d within).len in
          omega (arith, a, b, longer_even i j (length all % count)));
    }

-- what holds of all items holds of those of each piece
pub All-pieces : {T : Type 0} (P : T → Type 0) (pieces : List (Piece T)) → All P (all_items pieces) → All (λ p. All P p.items.now) pieces
All-pieces {T = T} P [] each = All-nil (λ (p : Piece T). All P p.items.now)
All-pieces {T = T} P (p ∷ pieces) each =
    All-cons (λ (q : Piece T). All P q.items.now) p pieces (All-front P p.items.now (all_items pieces) each) (All-pieces P pieces (All-back P p.items.now (all_items pieces) each))
