-- Documents: how the bytes of a text spell a tree.
use Rattle.std.specs.Prelude.{◌≡◌, ℕ, ◌<◌, ◌⊎◌, false, not, ◌==◌, IsTrue, List, [], ◌∷◌, ◌++◌, length, codes}
use Rattle.std.specs.List.{AllByRecursion, concat, list_all}
use Rattle.fixed_milli.specs.Number.{IsNumber}
use Rattle.gml_text.specs.Bytes.{line_feed, quote, is_space, begins_key, is_key_byte, is_word_byte}
use Rattle.gml_text.specs.Tree.{Content, number, text, list, Pairs, no_pairs, pair}

-- the byte is not among the bytes
abbrev pub Lacks : ℕ → List ℕ → Type 0
Lacks byte bytes = IsTrue (list_all (λ b. not (b == byte)) bytes)

-- a byte of white space, or a comment with the line feed that ends it
abbrev pub IsBlank : List ℕ → Type 0
IsBlank bytes =
    ((b : ℕ) × (bytes ≡ b ∷ []) × IsTrue (is_space b))
    ⊎ ((line : List ℕ) × (bytes ≡ codes "#" ++ (line ++ codes "\n")) × Lacks line_feed line)

-- white space: any number of blanks
abbrev pub IsWhiteSpace : List ℕ → Type 0
IsWhiteSpace bytes = (blanks : List (List ℕ)) × (bytes ≡ concat blanks) × AllByRecursion IsBlank blanks

-- a letter or `_`, then letters, digits and `_`
abbrev pub IsKey : List ℕ → Type 0
IsKey [] = ⊥
IsKey (b ∷ bs) = IsTrue (begins_key b) × IsTrue (list_all is_key_byte bs)

-- the first byte, if there is one, is not part of a word
abbrev pub EndsWord : List ℕ → Type 0
EndsWord [] = Unit {0}
EndsWord (b ∷ bs) = is_word_byte b ≡ false

-- a number is a word, a longest run of its bytes: white space must stand between it and its key, and no byte of a word follows it
abbrev pub StandsApart : Content → List ℕ → List ℕ → Type 0
StandsApart (number digits) space following = (0 < length space) × EndsWord following
StandsApart (text inner) space following = Unit {0}
StandsApart (list inner) space following = Unit {0}

abbrev mutual
  -- the bytes spell the pairs: a key, its value and white space before, between and after them
  pub SpellsPairs : Pairs → List ℕ → Type 0
  SpellsPairs no_pairs bytes = IsWhiteSpace bytes
  SpellsPairs (pair key value rest) bytes =
      (gap : List ℕ) × (space : List ℕ) × (written : List ℕ) × (following : List ℕ)
      × (bytes ≡ gap ++ (key ++ (space ++ (written ++ following))))
      × IsWhiteSpace gap × IsKey key × IsWhiteSpace space × SpellsValue value written
      × StandsApart value space following × SpellsPairs rest following

  -- the bytes spell the value: a number, bytes between quotes, or pairs between brackets
  pub SpellsValue : Content → List ℕ → Type 0
  SpellsValue (number digits) bytes = (bytes ≡ digits) × IsNumber digits
  SpellsValue (text inner) bytes = (bytes ≡ codes "\"" ++ (inner ++ codes "\"")) × Lacks quote inner
  SpellsValue (list inner) bytes = (body : List ℕ) × (bytes ≡ codes "[" ++ (body ++ codes "]")) × SpellsPairs inner body

-- the empty text, or a comment that ends at the end of the document
abbrev pub IsEnding : List ℕ → Type 0
IsEnding bytes = (bytes ≡ []) ⊎ ((line : List ℕ) × (bytes ≡ codes "#" ++ line) × Lacks line_feed line)

-- the bytes are valid GML, and spell its pairs
pub record SpellsDocument (tree : Pairs) (bytes : List ℕ) : Type 0 where
  pub body : List ℕ
  pub ending : List ℕ
  pub spelled : bytes ≡ body ++ ending
  pub pairs : SpellsPairs tree body
  pub is_ending : IsEnding ending
