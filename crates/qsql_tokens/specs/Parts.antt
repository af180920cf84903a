-- The parts of a token.
use Rattle.std.specs.Prelude.{ℕ, ℤ, ◌==◌, Bool, false, List, Option, Some, None}
use Rattle.q_verbs.specs.declared.verb.Verb.{Verb}
use Rattle.qsql_tokens.specs.Tokens.{Token, number, name, sign, dyad, word, mark}
use Rattle.qsql_tokens.specs.declared.token.Word.{Word}
use Rattle.qsql_tokens.specs.declared.token.Mark.{Mark}
use Rattle.qsql_tokens.specs.declared.token.Mark.TheVariants as m

abbrev pub name_of : Token → Option (List ℕ)
name_of (name n) = Some n
name_of _ = None

abbrev pub number_of : Token → Option ℤ
number_of (number n) = Some n
number_of _ = None

-- the verb of a token that takes two sides
abbrev pub verb_of : Token → Option Verb
verb_of (sign v) = Some v
verb_of (dyad v) = Some v
verb_of _ = None

abbrev pub word_of : Token → Option Word
word_of (word own) = Some own
word_of _ = None

-- the byte of a mark
abbrev pub mark_number : Mark → ℕ
mark_number m.Left = 40
mark_number m.Right = 41
mark_number m.Open = 91
mark_number m.Close = 93
mark_number m.Semicolon = 59
mark_number m.Comma = 44
mark_number m.Colon = 58

abbrev pub is_mark : Mark → Token → Bool
is_mark which (mark own) = mark_number own == mark_number which
is_mark which _ = false
