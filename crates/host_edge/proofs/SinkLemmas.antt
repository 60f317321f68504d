-- Pieces that are appended one after another, and counters.
use Rattle.std.proofs.Common.{◌≡◌, ℕ, ◌+◌, ◌-◌, List, ◌++◌, length, take, drop, Option, None, Some, inl, inr, refl, sym, ap, ◌∙◌, append_assoc, arith}
use Rattle.std.proofs.lemmas.Bool.{cases_lt}
use Rattle.std.proofs.lemmas.Grind.{common_steps}
use Rattle.std.proofs.Math.Seq.{take-add}
use Rattle.std.specs.Io.KnownBytes.{append_known}
use Rattle.host_edge.specs.Count.{NeverFalls, Rose, last_count, next_count}

-- two pieces, of which one follows the other, are appended as one
append_known-take : (known : Option (List ℕ)) (bytes : List ℕ) (written n : ℕ) → append_known (append_known known (take written bytes)) (take n (drop written bytes)) ≡ append_known known (take (written + n) bytes)
append_known-take None bytes written n = refl
append_known-take (Some held) bytes written n =
    ap Some (append_assoc held (take written bytes) _ ∙ ap (λ part. held ++ part) (sym (take-add written n bytes)))

-- what `&bytes[written..]` reads is the rest
take-rest : (bytes : List ℕ) (written : ℕ) → take (length bytes - written) (drop written bytes) ≡ drop written bytes
take-rest bytes written = grind (arith, common_steps)

-- a turn of a loop that appends bytes: some are written, and of the rest n more
pub append_known_more : (known held : Option (List ℕ)) (bytes : List ℕ) (written n : ℕ) → held ≡ append_known known (take written bytes) → append_known held (take n (take (length bytes - written) (drop written bytes))) ≡ append_known known (take (written + n) bytes)
append_known_more known held bytes written n h =
    rw (h, take-rest bytes written) (append_known-take known bytes written n)

-- counts that never fall, one after another
pub NeverFalls-trans : (a b c : ℕ) → NeverFalls a b → NeverFalls b c → NeverFalls a c
NeverFalls-trans a b c first second = (omega (arith, first.0, second.0), λ at_last. second.1 (first.1 at_last))

-- a counter that counts on rises
pub rose_next : (before after : ℕ) → after ≡ next_count before → Rose before after
rose_next before after e = elim (cases_lt before last_count) as (λ _. Rose before after) [ inl more ↦ inl (omega (arith, e, more)) | inr last ↦ inr (omega (arith, e, last)) ]
