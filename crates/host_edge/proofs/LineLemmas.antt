-- A line that is read byte by byte.
use Rattle.std.proofs.Common.{◌≡◌, ℕ, zero, suc, ◌<◌, ◌≤◌, Bool, true, false, List, [], ◌∷◌, ◌++◌, length, take, Option, None, Some, refl, sym, subst, ap, ◌∙◌, arith, length-append, append_assoc}
use Rattle.std.specs.Prelude.{IfSome, if◌then◌else◌}
use Rattle.std.specs.Io.KnownBytes.{Consumes}
use Rattle.std.proofs.lemmas.List.{take-append-le, length-take-le}
use Rattle.host_edge.specs.Lines.{first_line, after_line, IsNextByte}

-- what was seen of the first line of the bytes, what is left of them, what stands in the buffer, and whether more was seen
pub record IsSeen (limit : ℕ) (bytes seen left line : List ℕ) (long : Bool) : Type 0 where
  pub whole : bytes ≡ seen ++ left
  pub first : first_line bytes ≡ seen ++ first_line left
  pub after : after_line bytes ≡ after_line left
  pub front : line ≡ take limit seen
  pub above : long ≡ true → limit < length seen
  pub within : long ≡ false → length seen ≤ limit

pub record IsReading (limit : ℕ) (bytes : List ℕ) (rest : Option (List ℕ)) (line : List ℕ) (long : Bool) : Type 0 where
  pub seen : List ℕ
  pub left : List ℕ
  pub is_left : rest ≡ Some left
  pub so_far : IsSeen limit bytes seen left line long

take_none : (limit : ℕ) → take {A = ℕ} limit [] ≡ []
take_none zero = refl
take_none (suc n) = refl

take_all : (limit : ℕ) (xs : List ℕ) → length xs ≤ limit → take limit xs ≡ xs
take_all zero [] within = refl
take_all zero (x ∷ xs) within = absurd (omega arith)
take_all (suc n) [] within = refl
take_all (suc n) (x ∷ xs) within = ap (λ (l : List ℕ). x ∷ l) (take_all n xs (omega arith))

pub begins : (limit : ℕ) (o : Option (List ℕ)) → IfSome o (λ bytes. IsReading limit bytes o [] false)
begins limit None = tt
begins limit (Some bytes) = record {
  seen = [];
  left = bytes;
  is_left = refl;
  so_far = record { whole = refl; first = refl; after = refl; front = sym (take_none limit); above = λ e. cc; within = λ e. omega arith };
}

first_on : (byte : ℕ) (bytes : List ℕ) → (byte ≡ 10 → ⊥) → first_line (byte ∷ bytes) ≡ byte ∷ first_line bytes
first_on byte bytes other = grind arith

after_on : (byte : ℕ) (bytes : List ℕ) → (byte ≡ 10 → ⊥) → after_line (byte ∷ bytes) ≡ after_line bytes
after_on byte bytes other = grind arith

-- what stands in the buffer after one more byte
front_on : (limit : ℕ) (seen line : List ℕ) (byte : ℕ) (long now : Bool) (more : List ℕ) → line ≡ take limit seen → (long ≡ true → limit < length seen) → (long ≡ false → length seen ≤ limit)
    → more ≡ (if now then line else line ++ byte ∷ []) → (now ≡ true → limit ≤ length line) → (now ≡ false → length line < limit)
    → (more ≡ take limit (seen ++ byte ∷ [])) × (now ≡ true → limit < length (seen ++ byte ∷ [])) × (now ≡ false → length (seen ++ byte ∷ []) ≤ limit)
front_on limit seen line byte true true more front above within is full free =
    let far = above refl in
    let kept = take-append-le limit seen (byte ∷ []) (omega arith) in
    (is ∙ front ∙ sym kept, (λ e. omega (arith, length-append seen (byte ∷ []))), (λ e. cc))
front_on limit seen line byte true false more front above within is full free =
    let far = above refl in
    let near = free refl in
    absurd (omega (arith, ap length front, length-take-le limit seen (omega arith)))
front_on limit seen line byte false true more front above within is full free =
    let near = within refl in
    let all = full refl in
    let whole = take_all limit seen near in
    let enough : limit ≤ length seen = omega (arith, ap length front, ap length whole) in
    (is ∙ front ∙ sym (take-append-le limit seen (byte ∷ []) enough), (λ e. omega (arith, length-append seen (byte ∷ []))), (λ e. cc))
front_on limit seen line byte false false more front above within is full free =
    let near = within refl in
    let room = free refl in
    let whole = take_all limit seen near in
    let few : length (seen ++ byte ∷ []) ≤ limit = omega (arith, ap length front, ap length whole, length-append seen (byte ∷ [])) in
    (is ∙ ap (λ l. l ++ byte ∷ []) (front ∙ whole) ∙ sym (take_all limit (seen ++ byte ∷ []) few), (λ e. cc), (λ e. few))

seen_on : (limit byte : ℕ) (bytes seen left line more : List ℕ) (long now : Bool) → (byte ≡ 10 → ⊥) → IsSeen limit bytes seen (byte ∷ left) line long
    → more ≡ (if now then line else line ++ byte ∷ []) → (now ≡ true → limit ≤ length line) → (now ≡ false → length line < limit) → IsSeen limit bytes (seen ++ byte ∷ []) left more now
seen_on limit byte bytes seen left line more long now other h is full free =
    let buffer = front_on limit seen line byte long now more h.front h.above h.within is full free in
    record {
      whole = h.whole ∙ sym (append_assoc seen (byte ∷ []) left);
      first = h.first ∙ ap (λ l. seen ++ l) (first_on byte left other) ∙ sym (append_assoc seen (byte ∷ []) (first_line left));
      after = h.after ∙ after_on byte left other;
      front = buffer.0;
      above = buffer.1;
      within = buffer.2;
    }

some_same : (xs ys : List ℕ) → Some xs ≡ Some ys → xs ≡ ys
some_same xs ys h = cc

-- one more byte of the line
pub reads_on : (limit byte : ℕ) (o before after : Option (List ℕ)) (line more : List ℕ) (long now : Bool) → (byte ≡ 10 → ⊥) → IfSome o (λ bytes. IsReading limit bytes before line long)
    → IfSome before (λ bytes. IsNextByte bytes after (Some byte)) → more ≡ (if now then line else line ++ byte ∷ []) → (now ≡ true → limit ≤ length line) → (now ≡ false → length line < limit)
    → IfSome o (λ bytes. IsReading limit bytes after more now)
reads_on limit byte None before after line more long now other h next is full free = tt
reads_on limit byte (Some bytes) before after line more long now other h next is full free =
    let step : IsNextByte h.left after (Some byte) = subst (λ o. IfSome o (λ bytes. IsNextByte bytes after (Some byte))) h.is_left next in
    record {
      seen = h.seen ++ byte ∷ [];
      left = step.0;
      is_left = step.2;
      so_far = seen_on limit byte bytes h.seen step.0 line more long now other (subst (λ (l : List ℕ). IsSeen limit bytes h.seen l line long) step.1 h.so_far) is full free;
    }

-- what was seen was taken, and the next byte, if there is one
pub taken_with_next : (limit : ℕ) (o before after : Option (List ℕ)) (line : List ℕ) (long : Bool) (next : Option ℕ) → IfSome o (λ bytes. IsReading limit bytes before line long)
    → IfSome before (λ bytes. IsNextByte bytes after next) → (taken : List ℕ) × Consumes o after taken
taken_with_next limit None before after line long next h is_next = ([], tt)
taken_with_next limit (Some bytes) before after line long None h is_next =
    let step : IsNextByte h.left after None = subst (λ o. IfSome o (λ bytes. IsNextByte bytes after None)) h.is_left is_next in
    (h.seen, subst (λ o. Consumes (Some bytes) o h.seen) (sym step.1) (h.so_far.whole ∙ ap (λ l. h.seen ++ l) step.0))
taken_with_next limit (Some bytes) before after line long (Some byte) h is_next =
    let step : IsNextByte h.left after (Some byte) = subst (λ o. IfSome o (λ bytes. IsNextByte bytes after (Some byte))) h.is_left is_next in
    let taken = h.seen ++ byte ∷ [] in
    (taken, subst (λ o. Consumes (Some bytes) o taken) (sym step.2) (h.so_far.whole ∙ ap (λ l. h.seen ++ l) step.1 ∙ sym (append_assoc h.seen (byte ∷ []) step.0)))
