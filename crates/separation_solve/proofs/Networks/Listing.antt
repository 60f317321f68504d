-- Lists of the tight links at each node.
use Rattle.std.proofs.Common.{◌≡◌, ℕ, ◌+◌, ◌<◌, List, [], ◌∷◌, ◌++◌, length, get_or, set, All, ⊎_elim, ap, sym, subst, ◌∙◌, Vec, length-set, get_or-set_other, get_or-set_same, below_more, refl, arith}
use Rattle.std.proofs.lemmas.Bool.{cases_eq}
use Rattle.std.proofs.lemmas.List.{get_or_default}
use Rattle.std.proofs.lemmas.List.Elements.{All-get_or, All-nil, All-push, All-set, All-weaker, Contains-append_left, Contains-push}
use Rattle.std.specs.Prelude.{Contains}
use Rattle.separation_model.specs.Arena.{Arena}
use Rattle.separation_solve.specs.declared.fraction.Fraction.{Fraction}
use Rattle.separation_solve.specs.declared.network.Link.{Link}
use Rattle.separation_solve.specs.Network.{IsListed, IsTight, IsTightAt, link_at}

-- the tight ones of the first links stand at their nodes, and no others
pub record IsListing (places : List Fraction) (links : List Link) (old lists : List (Vec ℕ Arena)) (upto : ℕ) : Type 0 where
  pub count : length lists ≡ length old
  pub listed : (j : ℕ) → j < upto → IsTight places (link_at links j) → IsListed links lists j
  pub no_others : All (λ (w : Vec ℕ Arena). All (IsTightAt places links) w.items) lists

pub listing_none : (places : List Fraction) (links : List Link) (lists : List (Vec ℕ Arena)) → All (λ (w : Vec ℕ Arena). w.items ≡ []) lists → IsListing places links lists lists 0
listing_none places links lists empty = record {
  count = refl;
  listed = λ j h t. absurd (omega arith);
  no_others = All-weaker (λ (w : Vec ℕ Arena). w.items ≡ []) (λ (w : Vec ℕ Arena). All (IsTightAt places links) w.items)
      (λ w e. subst (All (IsTightAt places links)) (sym e) (All-nil (IsTightAt places links))) lists empty;
}

-- the index is at the end of one node's list, and all others are where they were
pub record IsAdded (P : ℕ → Type 0) (a j : ℕ) (old new : List (Vec ℕ Arena)) : Type 0 where
  pub count : length new ≡ length old
  pub keeps : (i k : ℕ) (d : Vec ℕ Arena) → Contains (get_or old i d).items k → Contains (get_or new i d).items k
  pub has : (d : Vec ℕ Arena) → Contains (get_or new a d).items j
  pub no_others : P j → All (λ (w : Vec ℕ Arena). All P w.items) old → All (λ (w : Vec ℕ Arena). All P w.items) new

pub added : (P : ℕ → Type 0) (lists : List (Vec ℕ Arena)) (a j : ℕ) (e now : Vec ℕ Arena) → a < length lists → now.items ≡ (get_or lists a e).items ++ j ∷ [] → IsAdded P a j lists (set lists a now)
added P lists a j e now inside push =
    let was = get_or lists a e in
    let there : (d : Vec ℕ Arena) → get_or (set lists a now) a d ≡ now = λ d. get_or-set_same lists a now d inside in
    record {
      count = length-set lists a now;
      keeps = λ i k d has. ⊎_elim
          (λ (same : i ≡ a).
          let was_is : get_or lists i d ≡ was = ap (λ m. get_or lists m d) same ∙ get_or_default lists a d e inside in
          let new_is : get_or (set lists a now) i d ≡ now = ap (λ m. get_or (set lists a now) m d) same ∙ there d in
          let old_has : Contains was.items k = subst (λ (w : Vec ℕ Arena). Contains w.items k) was_is has in
          subst (λ (w : Vec ℕ Arena). Contains w.items k) (sym new_is) (subst (λ l. Contains l k) (sym push) (Contains-append_left was.items (j ∷ []) k old_has)))
          (λ (other : i ≡ a → ⊥). subst (λ (w : Vec ℕ Arena). Contains w.items k) (sym (get_or-set_other lists a i now d other)) has)
          (cases_eq i a);
      has = λ d. subst (λ (w : Vec ℕ Arena). Contains w.items j) (sym (there d)) (subst (λ l. Contains l j) (sym push) (Contains-push was.items j));
      no_others = λ h all.
          let Q : Vec ℕ Arena → Type 0 = λ w. All P w.items in
          All-set Q lists a now (subst (All P) (sym push) (All-push P was.items j (All-get_or Q lists a e inside all) h)) all;
    }

-- a tight link more
pub listing_more : (places : List Fraction) (links : List Link) (start old mid new : List (Vec ℕ Arena)) (j : ℕ) → IsListing places links start old j → IsTightAt places links j →
    IsAdded (IsTightAt places links) (link_at links j).from j old mid → IsAdded (IsTightAt places links) (link_at links j).to j mid new → IsListing places links start new (j + 1)
listing_more places links start old mid new j listing here first second = record {
  count = second.count ∙ first.count ∙ listing.count;
  listed = below_more (λ k. IsTight places (link_at links k) → IsListed links new k) j
      (λ k m tight. let was = listing.listed k m tight in record {
        at_from = λ d. second.keeps (link_at links k).from k d (first.keeps (link_at links k).from k d (was.at_from d));
        at_to = λ d. second.keeps (link_at links k).to k d (first.keeps (link_at links k).to k d (was.at_to d));
      })
      (λ tight. record {
        at_from = λ d. second.keeps (link_at links j).from j d (first.has d);
        at_to = second.has;
      });
  no_others = second.no_others here (first.no_others here listing.no_others);
}

-- a link more that is not tight
pub listing_kept : (places : List Fraction) (links : List Link) (start lists : List (Vec ℕ Arena)) (j : ℕ) → IsListing places links start lists j → (IsTight places (link_at links j) → ⊥) → IsListing places links start lists (j + 1)
listing_kept places links start lists j listing none = record {
  count = listing.count;
  listed = below_more (λ k. IsTight places (link_at links k) → IsListed links lists k) j listing.listed (λ tight. absurd (none tight));
  no_others = listing.no_others;
}
