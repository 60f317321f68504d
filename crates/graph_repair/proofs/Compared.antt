-- The pass over two lists in order: each step, and its end.
use Rattle.std.proofs.Common.{◌≡◌, ◌≢◌, ◌⊎◌, inl, inr, ℕ, zero, suc, ◌+◌, ◌-◌, ◌<◌, ◌≤◌, Bool, true, false, not, cond, List, [], ◌∷◌, ◌++◌, drop, take, length, get_or, refl, sym, ap, subst, ◌∙◌, arith, rules}
use Rattle.std.specs.Prelude.{IsTrue, filter, ◌↔◌, ◌||◌}
use Rattle.std.proofs.lemmas.List.{append_assoc, drop-map, drop_all, drop_more, get_or-map, get_or_default, length-map, take_rest}
use Rattle.std.proofs.lemmas.List.Elements.{filter_agree}
use Rattle.plane_geom.specs.declared.rect.Rect.{Rect}
use Rattle.plane_geom.specs.declared.floor.Line.{Line}
use Rattle.plane_geom.specs.Order.{AreOrdered, stands_before}
use Rattle.plane_geom.proofs.Order.{before_apart, stands_through}
use Rattle.sweep_lines.specs.Kept.{is_near}
use Rattle.sweep_lines.proofs.Members.{Among, Rising, all_among, rising_of_pairs}
use Rattle.graph_repair.specs.Listed.{goes, is_listed, lines_of, same_line, stays}
use Rattle.graph_repair.proofs.Listing.{among_of_listed, line_of_same, not_true, same_itself}

-- whether the line is not near the rectangle
abbrev is_far : Rect → Line → Bool
is_far near l = not (is_near near l)

-- whether the line is none of those listed
abbrev pub is_alone : List Line → Line → Bool
is_alone others l = not (is_listed others l)

-- what was found, with what the rests of both lists have, is what the lists have
pub record AreFound (near : Rect) (old new olds news stay here there : List Line) : Type 0 where
  pub in_both : stay ++ filter (stays near news) olds ≡ filter (stays near new) old
  pub in_old : here ++ filter (goes near news) olds ≡ filter (goes near new) old
  pub in_new : there ++ filter (is_alone olds) news ≡ filter (is_alone old) new

-- ---- the head of a list

kept_head : (p : Line → Bool) (x : Line) (xs : List Line) → p x ≡ true → filter p (x ∷ xs) ≡ x ∷ filter p xs
kept_head p x xs e = ap (λ b. cond b (x ∷ filter p xs) (filter p xs)) e

left_head : (p : Line → Bool) (x : Line) (xs : List Line) → p x ≡ false → filter p (x ∷ xs) ≡ filter p xs
left_head p x xs e = ap (λ b. cond b (x ∷ filter p xs) (filter p xs)) e

-- a head on which another test agrees, apart from the rest
head_apart : (p q : Line → Bool) (x : Line) (xs : List Line) → p x ≡ q x → filter p (x ∷ xs) ≡ filter q (x ∷ []) ++ filter p xs
head_apart p q x xs e = ap (λ b. cond b (x ∷ filter p xs) (filter p xs)) e ∙ either (q x)
  where
    either : (b : Bool) → cond b (x ∷ filter p xs) (filter p xs) ≡ cond b (x ∷ []) [] ++ filter p xs
    either true = refl
    either false = refl

-- tests that agree on the lines of a list leave the same of it
agree_on : (p q : Line → Bool) (ls : List Line) → ((l : Line) → Among l ls → p l ≡ q l) → filter p ls ≡ filter q ls
agree_on p q [] agree = refl
agree_on p q (x ∷ xs) agree =
    ap (λ b. cond b (x ∷ filter p xs) (filter p xs)) (agree x (inl refl)) ∙ ap (λ (ls : List Line). cond (q x) (x ∷ ls) ls) (agree_on p q xs (λ l a. agree l (inr a)))

-- a line that is not the head is listed where it is listed in the rest
not_head : (l m : Line) (ms : List Line) → l ≢ m → is_listed (m ∷ ms) l ≡ is_listed ms l
not_head l m ms apart = ap (λ b. b || is_listed ms l) (not_true (same_line l m) (λ e. apart (line_of_same l m e)))

is_head : (l m : Line) (ms : List Line) → l ≡ m → is_listed (m ∷ ms) l ≡ true
is_head l m ms e = ap (λ b. b || is_listed ms l) (subst (λ (x : Line). same_line l x ≡ true) e (same_itself l))

never_listed : (l : Line) (ms : List Line) → (Among l ms → ⊥) → is_listed ms l ≡ false
never_listed l ms none = not_true (is_listed ms l) (λ e. none (among_of_listed ms l e))

abbrev AreRising : List Line → Type 0
AreRising = Rising (λ l m. stands_before l m ≡ true)

stay_alike : (near : Rect) (l : Line) (a b : Bool) → a ≡ b → (not (is_near near l) || a) ≡ (not (is_near near l) || b)
stay_alike near l a b e = ap (λ (c : Bool). not (is_near near l) || c) e

-- a line that is not listed stays where it is far
stays_alone : (near : Rect) (l : Line) (news : List Line) → is_listed news l ≡ false → stays near news l ≡ is_far near l
stays_alone near l news e = stay_alike near l (is_listed news l) false e ∙ false_last (is_far near l)
  where
    false_last : (b : Bool) → (b || false) ≡ b
    false_last true = refl
    false_last false = refl

goes_alone : (near : Rect) (l : Line) (news : List Line) → is_listed news l ≡ false → goes near news l ≡ is_near near l
goes_alone near l news e = ap not (stays_alone near l news e) ∙ twice (is_near near l)
  where
    twice : (b : Bool) → not (not b) ≡ b
    twice true = refl
    twice false = refl

stays_listed : (near : Rect) (l : Line) (news : List Line) → is_listed news l ≡ true → stays near news l ≡ true
stays_listed near l news e = stay_alike near l (is_listed news l) true e ∙ true_last (not (is_near near l))
  where
    true_last : (b : Bool) → (b || true) ≡ true
    true_last true = refl
    true_last false = refl

-- ---- a head that the other list has not

module _ (near : Rect) (x : Line) (xs others : List Line) (none : Among x others → ⊥) where
  unlisted : is_listed others x ≡ false
  unlisted = never_listed x others none

  far_stays : filter (stays near others) (x ∷ xs) ≡ filter (is_far near) (x ∷ []) ++ filter (stays near others) xs
  far_stays = head_apart (stays near others) (is_far near) x xs (stays_alone near x others unlisted)

  near_goes : filter (goes near others) (x ∷ xs) ≡ filter (is_near near) (x ∷ []) ++ filter (goes near others) xs
  near_goes = head_apart (goes near others) (is_near near) x xs (goes_alone near x others unlisted)

  one_alone : filter (is_alone others) (x ∷ xs) ≡ x ∷ filter (is_alone others) xs
  one_alone = kept_head (is_alone others) x xs (ap not unlisted)

  other_than : (l : Line) → Among l others → is_listed (x ∷ xs) l ≡ is_listed xs l
  other_than l a = not_head l x xs (λ e. none (subst (λ (m : Line). Among m others) e a))

  same_stays : (l : Line) → Among l others → stays near (x ∷ xs) l ≡ stays near xs l
  same_stays l a = stay_alike near l (is_listed (x ∷ xs) l) (is_listed xs l) (other_than l a)

  same_shared : filter (stays near (x ∷ xs)) others ≡ filter (stays near xs) others
  same_shared = agree_on (stays near (x ∷ xs)) (stays near xs) others same_stays

  same_goes : filter (goes near (x ∷ xs)) others ≡ filter (goes near xs) others
  same_goes = agree_on (goes near (x ∷ xs)) (goes near xs) others (λ l a. ap not (same_stays l a))

  same_alone : filter (is_alone (x ∷ xs)) others ≡ filter (is_alone xs) others
  same_alone = agree_on (is_alone (x ∷ xs)) (is_alone xs) others (λ l a. ap not (other_than l a))

-- ---- a head that both lists have

module _ (near : Rect) (x : Line) (xs ys : List Line) (rising : AreRising (x ∷ xs)) where
  later : (l : Line) → Among l xs → is_listed (x ∷ ys) l ≡ is_listed ys l
  later l a = not_head l x ys (λ e. before_apart x l (all_among (λ m. stands_before x m ≡ true) xs rising.0 l a) (sym e))

  stays_later : (l : Line) → Among l xs → stays near (x ∷ ys) l ≡ stays near ys l
  stays_later l a = stay_alike near l (is_listed (x ∷ ys) l) (is_listed ys l) (later l a)

  head_stays : stays near (x ∷ ys) x ≡ true
  head_stays = stays_listed near x (x ∷ ys) (is_head x x ys refl)

  head_shared : filter (stays near (x ∷ ys)) (x ∷ xs) ≡ x ∷ filter (stays near ys) xs
  head_shared = kept_head (stays near (x ∷ ys)) x xs head_stays ∙ ap (λ (ls : List Line). x ∷ ls) (agree_on (stays near (x ∷ ys)) (stays near ys) xs stays_later)

  head_not_goes : filter (goes near (x ∷ ys)) (x ∷ xs) ≡ filter (goes near ys) xs
  head_not_goes = left_head (goes near (x ∷ ys)) x xs (ap not head_stays) ∙ agree_on (goes near (x ∷ ys)) (goes near ys) xs (λ l a. ap not (stays_later l a))

  head_not_alone : filter (is_alone (x ∷ ys)) (x ∷ xs) ≡ filter (is_alone ys) xs
  head_not_alone = left_head (is_alone (x ∷ ys)) x xs (ap not (is_head x x ys refl)) ∙ agree_on (is_alone (x ∷ ys)) (is_alone ys) xs (λ l a. ap not (later l a))

-- ---- the steps

appended : (found rest all more part : List Line) → found ++ more ≡ all → more ≡ part ++ rest → (found ++ part) ++ rest ≡ all
appended found rest all more part so_far e = append_assoc found part rest ∙ sym (ap (λ (ls : List Line). found ++ ls) e) ∙ so_far

same_rest : (found rest all more : List Line) → found ++ more ≡ all → more ≡ rest → found ++ rest ≡ all
same_rest found rest all more so_far e = sym (ap (λ (ls : List Line). found ++ ls) e) ∙ so_far

module _ (near : Rect) (old new stay here there : List Line) (x y : Line) (xs ys : List Line) (found : AreFound near old new (x ∷ xs) (y ∷ ys) stay here there) (rising : AreRising (x ∷ xs)) (rises : AreRising (y ∷ ys)) where
  both_pass : x ≡ y → AreFound near old new xs ys (stay ++ x ∷ []) here there
  both_pass e =
      let news : AreRising (x ∷ ys) = subst (λ (m : Line). AreRising (m ∷ ys)) (sym e) rises in
      let met = subst (λ (m : Line). AreFound near old new (x ∷ xs) (m ∷ ys) stay here there) (sym e) found in
      record {
        in_both = appended stay (filter (stays near ys) xs) (filter (stays near new) old) (filter (stays near (x ∷ ys)) (x ∷ xs)) (x ∷ []) met.in_both (head_shared near x xs ys rising);
        in_old = same_rest here (filter (goes near ys) xs) (filter (goes near new) old) (filter (goes near (x ∷ ys)) (x ∷ xs)) met.in_old (head_not_goes near x xs ys rising);
        in_new = same_rest there (filter (is_alone xs) ys) (filter (is_alone old) new) (filter (is_alone (x ∷ xs)) (x ∷ ys)) met.in_new (head_not_alone near x ys xs news);
      }

  -- a line that stands before the other list's head is not in that list
  old_apart : stands_before x y ≡ true → Among x (y ∷ ys) → ⊥
  old_apart before (inl e) = before_apart x y before e
  old_apart before (inr a) = before_apart x x (stands_through x y x before (all_among (λ m. stands_before y m ≡ true) ys rises.0 x a)) refl

  old_passes : stands_before x y ≡ true → AreFound near old new xs (y ∷ ys) (stay ++ filter (is_far near) (x ∷ [])) (here ++ filter (is_near near) (x ∷ [])) there
  old_passes before =
      let none = old_apart before in
      record {
        in_both = appended stay (filter (stays near (y ∷ ys)) xs) (filter (stays near new) old) (filter (stays near (y ∷ ys)) (x ∷ xs)) (filter (is_far near) (x ∷ [])) found.in_both (far_stays near x xs (y ∷ ys) none);
        in_old = appended here (filter (goes near (y ∷ ys)) xs) (filter (goes near new) old) (filter (goes near (y ∷ ys)) (x ∷ xs)) (filter (is_near near) (x ∷ [])) found.in_old (near_goes near x xs (y ∷ ys) none);
        in_new = same_rest there (filter (is_alone xs) (y ∷ ys)) (filter (is_alone old) new) (filter (is_alone (x ∷ xs)) (y ∷ ys)) found.in_new (same_alone near x xs (y ∷ ys) none);
      }

  -- nor is one that is not the other list's head and does not stand after it
  new_apart : x ≢ y → stands_before x y ≡ false → Among y (x ∷ xs) → ⊥
  new_apart apart behind (inl e) = apart (sym e)
  new_apart apart behind (inr a) = let before = all_among (λ m. stands_before x m ≡ true) xs rising.0 y a in let both : true ≡ false = sym before ∙ behind in cc

  new_passes : x ≢ y → stands_before x y ≡ false → AreFound near old new (x ∷ xs) ys stay here (there ++ y ∷ [])
  new_passes apart behind =
      let none = new_apart apart behind in
      record {
        in_both = same_rest stay (filter (stays near ys) (x ∷ xs)) (filter (stays near new) old) (filter (stays near (y ∷ ys)) (x ∷ xs)) found.in_both (same_shared near y ys (x ∷ xs) none);
        in_old = same_rest here (filter (goes near ys) (x ∷ xs)) (filter (goes near new) old) (filter (goes near (y ∷ ys)) (x ∷ xs)) found.in_old (same_goes near y ys (x ∷ xs) none);
        in_new = appended there (filter (is_alone (x ∷ xs)) ys) (filter (is_alone old) new) (filter (is_alone (x ∷ xs)) (y ∷ ys)) (y ∷ []) found.in_new (one_alone near y ys (x ∷ xs) none);
      }

-- ---- by places

rising_drop : (n : ℕ) (ls : List Line) → AreRising ls → AreRising (drop n ls)
rising_drop zero ls r = r
rising_drop (suc n) [] r = r
rising_drop (suc n) (x ∷ xs) r = rising_drop n xs r.1

-- these lines were found in the first i of the old lines and the first j of the new ones
abbrev pub AreFoundUpto : Rect → List Line → List Line → ℕ → ℕ → List Line → List Line → List Line → Type 0
AreFoundUpto near old new i j = AreFound near old new (drop i old) (drop j new)

-- nothing was found in none
pub found_first : (near : Rect) (old new stay here there : List Line) → stay ≡ [] → here ≡ [] → there ≡ [] → AreFoundUpto near old new 0 0 stay here there
found_first near old new stay here there e f g = record {
  in_both = ap (λ (ls : List Line). ls ++ filter (stays near new) old) e;
  in_old = ap (λ (ls : List Line). ls ++ filter (goes near new) old) f;
  in_new = ap (λ (ls : List Line). ls ++ filter (is_alone old) new) g;
}

-- the heads of what is left, as they are read
module _ (near : Rect) (pairs : List (Line × ℕ)) (new : List Line) (in_old : AreOrdered (lines_of pairs)) (in_new : AreOrdered new) (i j : ℕ) (e : Line × ℕ) (d : Line) (less : i < length pairs) (below : j < length new) where
  abbrev old : List Line
  old = lines_of pairs

  abbrev x : Line
  x = (get_or pairs i e).0

  abbrev y : Line
  y = get_or new j d

  rest_old : drop i old ≡ x ∷ drop (i + 1) old
  rest_old = drop_more old i x (omega (arith, length-map pairs (λ p. p.0))) ∙ ap (λ (l : Line). l ∷ drop (i + 1) old) (get_or-map (λ p. p.0) pairs i e x less)

  rest_new : drop j new ≡ y ∷ drop (j + 1) new
  rest_new = drop_more new j y below ∙ ap (λ (l : Line). l ∷ drop (j + 1) new) (sym (get_or_default new j d y below))

  rising_old : AreRising (x ∷ drop (i + 1) old)
  rising_old = subst AreRising rest_old (rising_drop i old (rising_of_pairs (λ l m. stands_before l m ≡ true) old in_old))

  rising_new : AreRising (y ∷ drop (j + 1) new)
  rising_new = subst AreRising rest_new (rising_drop j new (rising_of_pairs (λ l m. stands_before l m ≡ true) new in_new))

  module _ (stay here there : List Line) (found : AreFoundUpto near old new i j stay here there) where
    found_heads : AreFound near old new (x ∷ drop (i + 1) old) (y ∷ drop (j + 1) new) stay here there
    found_heads =
        subst (λ (ls : List Line). AreFound near old new ls (y ∷ drop (j + 1) new) stay here there) rest_old
        (subst (λ (ls : List Line). AreFound near old new (drop i old) ls stay here there) rest_new found)

    pub found_both : x ≡ y → AreFoundUpto near old new (i + 1) (j + 1) (stay ++ x ∷ []) here there
    found_both same = both_pass near old new stay here there x y (drop (i + 1) old) (drop (j + 1) new) found_heads rising_old rising_new same

    pub found_old : stands_before x y ≡ true → AreFoundUpto near old new (i + 1) j (stay ++ filter (is_far near) (x ∷ [])) (here ++ filter (is_near near) (x ∷ [])) there
    found_old before =
        subst (λ (ls : List Line). AreFound near old new (drop (i + 1) old) ls (stay ++ filter (is_far near) (x ∷ [])) (here ++ filter (is_near near) (x ∷ [])) there) (sym rest_new)
        (old_passes near old new stay here there x y (drop (i + 1) old) (drop (j + 1) new) found_heads rising_old rising_new before)

    pub found_new : x ≢ y → stands_before x y ≡ false → AreFoundUpto near old new i (j + 1) stay here (there ++ y ∷ [])
    found_new apart behind =
        subst (λ (ls : List Line). AreFound near old new ls (drop (j + 1) new) stay here (there ++ y ∷ [])) (sym rest_old)
        (new_passes near old new stay here there x y (drop (i + 1) old) (drop (j + 1) new) found_heads rising_old rising_new apart behind)

-- ---- what a comparison of two lines answers

pub one_line : (b : Bool) (l m : Line) → (IsTrue b ↔ (l ≡ m)) → b ≡ true → l ≡ m
one_line true l m same e = same.0 (search rules)
one_line false l m same e = absurd (cc)

pub two_lines : (b : Bool) (l m : Line) → (IsTrue b ↔ (l ≡ m)) → b ≡ false → l ≢ m
two_lines true l m same e = absurd (cc)
two_lines false l m same e = λ one. not_so (same.1 one)
  where
    not_so : IsTrue false → ⊥
    not_so h = search rules

-- ---- where one of the lists has ended

all_alone : (ls : List Line) → filter (is_alone []) ls ≡ ls
all_alone [] = refl
all_alone (x ∷ xs) = ap (λ (ls : List Line). x ∷ ls) (all_alone xs)

-- what is left of the lists is alone
record AreLeft (near : Rect) (olds news : List Line) : Type 0 where
  stay : filter (stays near news) olds ≡ filter (is_far near) olds
  here : filter (goes near news) olds ≡ filter (is_near near) olds
  there : filter (is_alone olds) news ≡ news

no_new_left : (near : Rect) (olds : List Line) → AreLeft near olds []
no_new_left near olds = record {
  stay = filter_agree (stays near []) (is_far near) (λ l. stays_alone near l [] refl) olds;
  here = filter_agree (goes near []) (is_near near) (λ l. goes_alone near l [] refl) olds;
  there = refl;
}

no_old_left : (near : Rect) (news : List Line) → AreLeft near [] news
no_old_left near news = record { stay = refl; here = refl; there = all_alone news }

are_left : (near : Rect) (olds news : List Line) → (olds ≡ []) ⊎ (news ≡ []) → AreLeft near olds news
are_left near olds news (inl e) = subst (λ (ls : List Line). AreLeft near ls news) (sym e) (no_old_left near news)
are_left near olds news (inr e) = subst (AreLeft near olds) (sym e) (no_new_left near olds)

module _ (near : Rect) (pairs : List (Line × ℕ)) (new : List Line) (i j : ℕ) (stay here there : List Line) (found : AreFoundUpto near (lines_of pairs) new i j stay here there) (ended : (length pairs ≤ i) ⊎ (length new ≤ j)) where
  left : AreLeft near (drop i (lines_of pairs)) (drop j new)
  left = are_left near (drop i (lines_of pairs)) (drop j new) (elim ended as (λ _. (drop i (lines_of pairs) ≡ []) ⊎ (drop j new ≡ [])) [
    | inl h ↦ inl (drop_all i (lines_of pairs) (omega (arith, length-map pairs (λ p. p.0))))
    | inr h ↦ inr (drop_all j new h)
  ])

  -- what is left is read as slices up to the ends
  rest : lines_of (take (length pairs - i) (drop i pairs)) ≡ drop i (lines_of pairs)
  rest = ap lines_of (take_rest pairs i) ∙ sym (drop-map (λ p. p.0) i pairs)

  pub all_shared : stay ++ filter (is_far near) (lines_of (take (length pairs - i) (drop i pairs))) ≡ filter (stays near new) (lines_of pairs)
  all_shared = ap (λ (ls : List Line). stay ++ ls) (ap (filter (is_far near)) rest ∙ sym left.stay) ∙ found.in_both

  pub all_here : here ++ filter (is_near near) (lines_of (take (length pairs - i) (drop i pairs))) ≡ filter (goes near new) (lines_of pairs)
  all_here = ap (λ (ls : List Line). here ++ ls) (ap (filter (is_near near)) rest ∙ sym left.here) ∙ found.in_old

  pub all_there : there ++ take (length new - j) (drop j new) ≡ filter (is_alone (lines_of pairs)) new
  all_there = ap (λ (ls : List Line). there ++ ls) (take_rest new j ∙ sym left.there) ∙ found.in_new
