-- The number of workers that arguments ask for.
use Rattle.std.proofs.Common.{◌≡◌, ℕ, ◌≤◌, Bool, true, false, List, [], ◌∷◌, Option, Some, None, refl, sym, ap, subst, ◌∙◌, arith}
use Rattle.std.specs.Prelude.{IfSome, codes, bytes_eq, option_and_then, option_map, if◌then◌else◌}
use Rattle.command_words.specs.declared.form.Form.{Form as Read}
use Rattle.command_words.specs.Views.{view}
use Rattle.command_words.specs.Words.{Form, check, route, make, preview, shared, prove, audit, workers_of, seed_of, nothing_said, said_after, file_said, files_said, files_in, workers_said, route_form, preview_form, make_form, form_with, form_after, form_of}

-- there is one worker at least, and there are four at most
pub record IsCrew (workers : ℕ) : Type 0 where
  pub some : 1 ≤ workers
  pub few : workers ≤ 4

-- the workers of a subcommand that has them
abbrev pub HasCrew : Form → Type 0
HasCrew (route diagram script workers count) = IsCrew workers
HasCrew (preview diagram script workers) = IsCrew workers
HasCrew other = Unit {0}

chosen : {A : Type 0} (P : A → Type 0) (b : Bool) (x y : Option A) → IfSome x P → IfSome y P → IfSome (if b then x else y) P
chosen P true x y p q = p
chosen P false x y p q = q

followed : {A B : Type 0} (P : B → Type 0) (o : Option A) (f : A → Option B) → ((a : A) → o ≡ Some a → IfSome (f a) P) → IfSome (option_and_then f o) P
followed P None f h = tt
followed P (Some a) f h = h a refl

one_to_four : (word : List ℕ) → IfSome (workers_of word) IsCrew
one_to_four word =
    chosen IsCrew (bytes_eq word (codes "1")) _ _ (record { some = omega arith; few = omega arith }) (
    chosen IsCrew (bytes_eq word (codes "2")) _ _ (record { some = omega arith; few = omega arith }) (
    chosen IsCrew (bytes_eq word (codes "3")) _ _ (record { some = omega arith; few = omega arith }) (
    chosen IsCrew (bytes_eq word (codes "4")) _ None (record { some = omega arith; few = omega arith }) tt)))

crew_said : (values : List (List ℕ)) → IfSome (workers_said values) IsCrew
crew_said [] = record { some = omega arith; few = omega arith }
crew_said (word ∷ []) = one_to_four word
crew_said (word ∷ other ∷ values) = tt

mapped : {A B : Type 0} (P : B → Type 0) (o : Option A) (f : A → B) → ((a : A) → P (f a)) → IfSome (option_map f o) P
mapped P None f h = tt
mapped P (Some a) f h = h a

route_crew : (plain : List (List ℕ)) (count : Bool) (workers : ℕ) → IsCrew workers → IfSome (route_form plain count workers) HasCrew
route_crew plain count workers crew = mapped HasCrew (files_in plain) _ (λ files. crew)

preview_crew : (plain : List (List ℕ)) (count : Bool) (workers : ℕ) → IsCrew workers → IfSome (preview_form plain count workers) HasCrew
unfolding preview_form
preview_crew plain true workers crew = tt
preview_crew plain false workers crew = mapped HasCrew (files_in plain) _ (λ files. crew)

make_crew : (plain : List (List ℕ)) → IfSome (make_form plain) HasCrew
make_crew [] = tt
make_crew (word ∷ []) = mapped HasCrew (seed_of word) make (λ seed. tt)
make_crew (word ∷ other ∷ plain) = tt

crew_holds : (o : Option ℕ) (workers : ℕ) → o ≡ Some workers → IfSome o IsCrew → IsCrew workers
crew_holds o workers is crew = subst (λ p. IfSome p IsCrew) is crew

with_crew : (form : List (List ℕ) → Bool → ℕ → Option Form) (words : List (List ℕ))
    → ((plain : List (List ℕ)) (count : Bool) (workers : ℕ) → IsCrew workers → IfSome (form plain count workers) HasCrew) → IfSome (form_with form words) HasCrew
with_crew form words each =
    followed HasCrew (said_after true nothing_said words) _ (λ said a.
    followed HasCrew (workers_said said.workers) _ (λ workers b. each said.plain said.count workers (crew_holds (workers_said said.workers) workers b (crew_said said.workers))))

words_crew : (command : List ℕ) (words : List (List ℕ)) → IfSome (form_after command words) HasCrew
words_crew command words =
    chosen HasCrew (bytes_eq command (codes "check")) _ _ (mapped HasCrew (file_said words) check (λ file. tt)) (
    chosen HasCrew (bytes_eq command (codes "route")) _ _ (with_crew route_form words route_crew) (
    chosen HasCrew (bytes_eq command (codes "make")) _ _ (followed HasCrew (said_after false nothing_said words) _ (λ said a. make_crew said.plain)) (
    chosen HasCrew (bytes_eq command (codes "preview")) _ _ (with_crew preview_form words preview_crew) (
    chosen HasCrew (bytes_eq command (codes "shared")) _ _ (mapped HasCrew (file_said words) shared (λ file. tt)) (
    chosen HasCrew (bytes_eq command (codes "prove")) _ _ (mapped HasCrew (file_said words) prove (λ file. tt)) (
    chosen HasCrew (bytes_eq command (codes "audit")) _ None (mapped HasCrew (files_said words) (λ files. audit files.0 files.1) (λ files. tt)) tt))))))

form_crew : (words : List (List ℕ)) → IfSome (form_of words) HasCrew
form_crew [] = tt
form_crew (command ∷ words) = words_crew command words

-- the arguments of a subcommand with workers ask for one to four
pub crew_of : (words : List (List ℕ)) (form : Form) → Some form ≡ form_of words → HasCrew form
crew_of words form is = subst (λ o. IfSome o HasCrew) (sym is) (form_crew words)

-- what was read is the subcommand of the arguments
pub same_form : (words : List (List ℕ)) (o : Option Read) (f form : Read) → o ≡ Some f → f ≡ form → option_map view o ≡ form_of words → Some (view form) ≡ form_of words
same_form words o f form is same formed = ap (option_map view) (sym (is ∙ ap (λ (r : Read). Some r) same)) ∙ formed
