-- Kinds of bytes that the grammar distinguishes.
use Rattle.std.specs.Prelude.{ℕ, Bool, ◌==◌, ◌||◌}
use Rattle.std.specs.Char.{is_ascii_alphabetic, is_ascii_alphanumeric}
use Rattle.fixed_milli.specs.Bytes.{plus, minus, point}

abbrev pub line_feed : ℕ
line_feed = 10

-- the byte that begins a comment
abbrev pub hash : ℕ
hash = 35

-- the byte on both sides of a string
abbrev pub quote : ℕ
quote = 34

-- the byte that opens a list
abbrev pub opening : ℕ
opening = 91

-- the byte that closes a list
abbrev pub closing : ℕ
closing = 93

abbrev pub underscore : ℕ
underscore = 95

-- space, tab, line feed and carriage return
abbrev pub is_space : ℕ → Bool
is_space b = b == 32 || b == 9 || b == line_feed || b == 13

-- the bytes that begin a key: a letter or `_`
abbrev pub begins_key : ℕ → Bool
begins_key b = is_ascii_alphabetic b || b == underscore

-- the bytes with which a key continues: a letter, a digit or `_`
abbrev pub is_key_byte : ℕ → Bool
is_key_byte b = is_ascii_alphanumeric b || b == underscore

-- the bytes of a word: those of keys, `+`, `-` and `.`
abbrev pub is_word_byte : ℕ → Bool
is_word_byte b = is_key_byte b || b == plus || b == minus || b == point
