-- The bytes of a text: classes, words, and where a literal begins.
use Rattle.std.specs.Prelude.{ℕ, suc, ◌+◌, ◌-◌, ◌==◌, ◌||◌, ◌&&◌, Bool, false, nat_le, nat_lt, if◌then◌else◌, List, [], ◌∷◌, take, drop, slice_index}
use Rattle.q_text.specs.declared.words.Class.{Class}
use Rattle.q_text.specs.declared.words.Class.TheVariants as c

abbrev pub is_letter : ℕ → Bool
is_letter b = (nat_le 65 b && nat_le b 90) || (nat_le 97 b && nat_le b 122)

abbrev pub is_digit : ℕ → Bool
is_digit b = nat_le 48 b && nat_le b 57

abbrev pub is_hex : ℕ → Bool
is_hex b = is_digit b || ((nat_le 65 b && nat_le b 70) || (nat_le 97 b && nat_le b 102))

-- space, tab, newline and carriage return
abbrev pub is_blank : ℕ → Bool
is_blank b = (b == 32 || b == 9) || (b == 10 || b == 13)

-- the bytes of a word after its first: letters, digits, "." and ":"
abbrev pub is_word : ℕ → Bool
is_word b = is_letter b || (is_digit b || (b == 46 || b == 58))

-- the bytes of a symbol after its backtick: the same and "_"
abbrev pub is_symbol : ℕ → Bool
is_symbol b = is_word b || (b == 95)

abbrev pub is_of : Class → ℕ → Bool
is_of c.Blank b = is_blank b
is_of c.Digit b = is_digit b
is_of c.Hex b = is_hex b
is_of c.Bit b = (b == 48) || (b == 49)
is_of c.Word b = is_word b
is_of c.Symbol b = is_symbol b
is_of c.Symbols b = (b == 96) || is_symbol b

-- how many bytes at the front are of the class
abbrev pub span : Class → List ℕ → ℕ
span class [] = 0
span class (b ∷ bs) = if is_of class b then suc (span class bs) else 0

-- the offset just past the bytes of the class that begin at an offset
abbrev pub span_end : Class → List ℕ → ℕ → ℕ
span_end class text at = at + span class (drop at text)

-- the bytes from one offset up to another
abbrev pub piece : List ℕ → ℕ → ℕ → List ℕ
piece text from to = take (to - from) (drop from text)

-- whether the last of the bytes belongs to a symbol literal: a backtick begins one, and it takes what is_symbol says
abbrev pub in_symbol : Bool → List ℕ → Bool
in_symbol inside [] = inside
in_symbol inside (b ∷ bs) = in_symbol ((b == 96) || (inside && is_symbol b)) bs

-- a byte after which "-" is a verb: a letter, a digit, "_", ")", "]" or a quote
abbrev pub ends_operand : ℕ → Bool
ends_operand b = (is_letter b || is_digit b) || ((b == 95 || b == 41) || (b == 93 || b == 34))

-- whether the byte before the offset ends an operand, so that "-" there is a verb
abbrev pub follows_operand : List ℕ → ℕ → Bool
follows_operand text at = nat_lt 0 at && (ends_operand (slice_index text (at - 1)) || in_symbol false (take at text))

-- a digit, or "-" directly before a digit
abbrev pub begins_word : List ℕ → ℕ → Bool
begins_word text at = is_digit (slice_index text at) || ((slice_index text at == 45) && is_digit (slice_index text (at + 1)))

-- the offset just past the word that begins here: its first byte, and all word bytes that follow
abbrev pub word_end : List ℕ → ℕ → ℕ
word_end text at = if slice_index text at == 45 then span_end c.Word text (at + 1) else span_end c.Word text at

abbrev pub word_at : List ℕ → ℕ → List ℕ
word_at text at = piece text at (word_end text at)
