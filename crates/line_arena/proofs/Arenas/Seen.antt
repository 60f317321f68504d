-- A slab whose model is a finite map.
use Rattle.std.proofs.Common.{◌≡◌, ◌≢◌, ℕ, zero, suc, ◌+◌, ◌<◌, true, false, cond, List, [], ◌∷◌, map, get_or, Option, Some, None, inl, inr, refl, sym, ap, subst, ◌∙◌, arith}
use Rattle.std.specs.Ordering.{nat_cmp, eq_by_cmp, is_eq}
use Rattle.std.proofs.Common.{Ordering}
use Rattle.std.specs.declared.cmp.Ordering.TheVariants.{Less, Equal, Greater}
use Rattle.std.specs.Option.{option_map}
use Rattle.std.specs.FinMap.{find, insert, remove, get-from_entries, get-insert, get-remove, nat_cmp-IsAntisymmetric, same_map}
use Rattle.std.specs.FinMap as fin
use Rattle.std.proofs.lemmas.Bool.{cases_Bool, cases_eq}
use Rattle.std.proofs.lemmas.Cmp.{eq_by_cmp_equiv, nat_cmp_total}
use Rattle.slab.specs.Slab.{Slab, entries, entries_from, get}
use Rattle.line_arena.specs.Lists.{UpdatesAt}
use Rattle.line_arena.specs.View.{seen}

pub tied : (q k : ℕ) → q ≡ k → eq_by_cmp nat_cmp q k ≡ true
tied q k e = subst (λ x. eq_by_cmp nat_cmp q x ≡ true) e ((eq_by_cmp_equiv nat_cmp_total).refl q)

equal : (r : Ordering) → is_eq r ≡ true → r ≡ Equal
equal Less h = cc
equal Equal h = refl
equal Greater h = cc

pub untied : (q k : ℕ) → q ≢ k → eq_by_cmp nat_cmp q k ≡ false
untied q k ne =
    elim (cases_Bool (eq_by_cmp nat_cmp q k)) [
      | inl t ↦ absurd (ne (nat_cmp-IsAntisymmetric q k (equal (nat_cmp q k) t)))
      | inr f ↦ f
    ]

module _ {T X : Type 0} (see : T → X) where
  abbrev shown : List (ℕ × T) → List (ℕ × X)
  shown es = map (λ e. (e.0, see e.1)) es

  find_below : (q k : ℕ) (slots : List (Option T)) → q < k → find nat_cmp q (shown (entries_from k slots)) ≡ None
  find_below q k [] less = refl
  find_below q k (None ∷ rest) less = find_below q (k + 1) rest (omega arith)
  find_below q k (Some x ∷ rest) less =
      ap (λ b. cond b (Some (see x)) (find nat_cmp q (shown (entries_from (k + 1) rest)))) (untied q k (omega arith)) ∙ find_below q (k + 1) rest (omega arith)

  find_at : (k : ℕ) (slots : List (Option T)) (n : ℕ) → find nat_cmp (k + n) (shown (entries_from k slots)) ≡ option_map see (get_or slots n None)
  find_at k [] n = refl
  find_at k (None ∷ rest) zero = find_below (k + zero) (k + 1) rest (omega arith)
  find_at k (None ∷ rest) (suc n) =
      let e : k + suc n ≡ (k + 1) + n = omega arith in
      ap (λ q. find nat_cmp q (shown (entries_from (k + 1) rest))) e ∙ find_at (k + 1) rest n
  find_at k (Some x ∷ rest) zero =
      ap (λ b. cond b (Some (see x)) (find nat_cmp (k + zero) (shown (entries_from (k + 1) rest)))) (tied (k + zero) k (omega arith))
  find_at k (Some x ∷ rest) (suc n) =
      let e : k + suc n ≡ (k + 1) + n = omega arith in
      ap (λ b. cond b (Some (see x)) (find nat_cmp (k + suc n) (shown (entries_from (k + 1) rest)))) (untied (k + suc n) k (omega arith))
      ∙ ap (λ q. find nat_cmp q (shown (entries_from (k + 1) rest))) e ∙ find_at (k + 1) rest n

  -- at an id the map has the model of the slab's value there
  pub get-seen : (slab : Slab T) (q : ℕ) → fin.get (seen see slab) q ≡ option_map see (get slab q)
  unfolding seen
  get-seen slab q = get-from_entries nat_cmp_total (shown (entries slab)) q
      ∙ ap (λ i. find nat_cmp i (shown (entries slab))) (let e : q ≡ 0 + q = omega arith in e) ∙ find_at 0 slab.slots q

  -- slabs with the same models of values give one map
  pub seen_same : (old new : Slab T) → ((q : ℕ) → option_map see (get new q) ≡ option_map see (get old q)) → seen see new ≡ seen see old
  seen_same old new same = same_map nat_cmp_total nat_cmp-IsAntisymmetric (seen see new) (seen see old) (λ q. get-seen new q ∙ same q ∙ sym (get-seen old q))

  pub seen_insert : (old new : Slab T) (k : ℕ) (x : X) → UpdatesAt (λ q. option_map see (get old q)) (λ q. option_map see (get new q)) k (Some x)
      → seen see new ≡ insert (seen see old) k x
  seen_insert old new k x updates = same_map nat_cmp_total nat_cmp-IsAntisymmetric (seen see new) (insert (seen see old) k x)
      (λ q. get-seen new q ∙ elim (cases_eq q k) [
        | inl e ↦ ap (λ i. option_map see (get new i)) e ∙ updates.changed ∙ sym (get-insert nat_cmp_total (seen see old) k x q ∙ ap (λ b. cond b (Some x) (fin.get (seen see old) q)) (tied q k e))
        | inr ne ↦ updates.others q ne ∙ sym (get-seen old q) ∙ sym (get-insert nat_cmp_total (seen see old) k x q ∙ ap (λ b. cond b (Some x) (fin.get (seen see old) q)) (untied q k ne))
      ])

  pub seen_remove : (old new : Slab T) (k : ℕ) → UpdatesAt (λ q. option_map see (get old q)) (λ q. option_map see (get new q)) k None
      → seen see new ≡ remove (seen see old) k
  seen_remove old new k updates = same_map nat_cmp_total nat_cmp-IsAntisymmetric (seen see new) (remove (seen see old) k)
      (λ q. get-seen new q ∙ elim (cases_eq q k) [
        | inl e ↦ ap (λ i. option_map see (get new i)) e ∙ updates.changed ∙ sym (get-remove nat_cmp_total (seen see old) k q ∙ ap (λ b. cond b None (fin.get (seen see old) q)) (tied q k e))
        | inr ne ↦ updates.others q ne ∙ sym (get-seen old q) ∙ sym (get-remove nat_cmp_total (seen see old) k q ∙ ap (λ b. cond b None (fin.get (seen see old) q)) (untied q k ne))
      ])

  -- of a slab without values the model is empty
  pub seen_empty : (slab : Slab T) → slab.slots ≡ [] → seen see slab ≡ fin.empty
  seen_empty slab none = same_map nat_cmp_total nat_cmp-IsAntisymmetric (seen see slab) fin.empty
      (λ q. get-seen slab q ∙ ap (λ s. option_map see (get_or s q None)) none ∙ sym (fin.get-empty nat_cmp q))

  pub seen_slots : (old new : Slab T) → new.slots ≡ old.slots → seen see new ≡ seen see old
  seen_slots old new same = seen_same old new (λ q. ap (λ s. option_map see (get_or s q None)) same)
