-- The tokens of a text with their offsets, or the offset of the first fault (KX, Reference card).
use Rattle.std.specs.Prelude.{◌≡◌, ◌<◌, ◌≤◌, ℕ, ℤ, suc, ◌+◌, ◌-◌, ◌==◌, ◌||◌, ◌&&◌, Bool, not, if◌then◌else◌, List, [], ◌∷◌, length, take}
use Rattle.std.specs.Prelude.{drop, map, codes, Option, Some, None, slice_index}
use Rattle.std.specs.Str.{bytes_eq}
use Rattle.q_values.specs.Tree.{Tree, atom}
use Rattle.q_values.specs.declared.atom.Atom.{Atom}
use Rattle.q_values.specs.declared.atom.Atom.TheVariants as a
use Rattle.q_text.specs.Words.{is_blank, is_digit, is_letter}
use Rattle.q_text.specs.Literal.{starts_literal, Literal, literal_at}
use Rattle.q_words.specs.Words.{reserved_word}
use Rattle.q_words.specs.declared.word.ReservedWord.{ReservedWord}
use Rattle.q_words.specs.declared.word.ReservedWord.TheVariants as rw
use Rattle.q_verbs.specs.declared.verb.Verb.{Verb}
use Rattle.q_verbs.specs.declared.verb.Verb.TheVariants as v
use Rattle.q_verbs.specs.declared.verb.Verb1.{Verb1}
use Rattle.q_verbs.specs.declared.verb.Verb1.TheVariants as u
use Rattle.qsql_tokens.specs.declared.token.Word.{Word}
use Rattle.qsql_tokens.specs.declared.token.Word.TheVariants as w
use Rattle.qsql_tokens.specs.declared.token.Mark.{Mark}
use Rattle.qsql_tokens.specs.declared.token.Mark.TheVariants as m

pub data Token : Type 0 where
  -- a long atom without suffix
  number : ℤ → Token
  -- any other literal
  literal : Tree → Token
  name : List ℕ → Token
  -- a verb with one side; one between two sides as a sign, and as a word
  monad : Verb1 → Token
  sign : Verb → Token
  dyad : Verb → Token
  word : Word → Token
  mark : Mark → Token

-- a token, and the offset of its first byte
pub record Placed : Type 0 where
  pub token : Token
  pub place : ℕ

abbrev pub placed_at : Token → ℕ → Placed
placed_at token offset = record { token = token; place = offset }

-- a token, and the offset just past it
pub record Read : Type 0 where
  pub token : Token
  pub end : ℕ

-- a byte of a name: a letter, a digit or "_"
abbrev pub is_name_byte : ℕ → Bool
is_name_byte b = is_letter b || (is_digit b || b == 95)

-- the number of bytes at the start for which p holds
abbrev pub front : (ℕ → Bool) → List ℕ → ℕ
front p [] = 0
front p (b ∷ bs) = if p b then suc (front p bs) else 0

-- the offset of the next byte that is no blank
abbrev pub past_blanks : List ℕ → ℕ → ℕ
past_blanks text at = at + front is_blank (drop at text)

-- the letters, digits and `_` from an offset on
abbrev pub name_at : List ℕ → ℕ → List ℕ
name_at text at = take (front is_name_byte (drop at text)) (drop at text)

abbrev pub or_else : {X : Type 0} → Option X → Option X → Option X
or_else (Some x) other = Some x
or_else None other = other

-- the token of a reserved word; `and` is `&`, `or` is `|`
abbrev pub reserved_token : ReservedWord → Token
reserved_token rw.Select = word w.Select
reserved_token rw.Exec = word w.Exec
reserved_token rw.By = word w.By
reserved_token rw.From = word w.From
reserved_token rw.Where = word w.Where
reserved_token rw.Aj = word w.Aj
reserved_token rw.Div = dyad v.Div
reserved_token rw.Mod = dyad v.Mod
reserved_token rw.Xbar = dyad v.Xbar
reserved_token rw.Within = dyad v.Within
reserved_token rw.In = dyad v.In
reserved_token rw.Like = dyad v.Like
reserved_token rw.And = dyad v.Lesser
reserved_token rw.Or = dyad v.Greater
reserved_token rw.Not = monad u.Not
reserved_token rw.Neg = monad u.Neg
reserved_token rw.Count = monad u.Count
reserved_token rw.Sum = monad u.Sum
reserved_token rw.Min = monad u.Min
reserved_token rw.Max = monad u.Max
reserved_token rw.First = monad u.First
reserved_token rw.Last = monad u.Last
reserved_token rw.Distinct = monad u.Distinct

abbrev pub reserved_or_name : Option ReservedWord → List ℕ → Token
reserved_or_name (Some reserved) text = reserved_token reserved
reserved_or_name None text = name text

-- a reserved word, or else a name
abbrev pub named : List ℕ → Token
named text = reserved_or_name (reserved_word text) text

abbrev pub token_or : {X : Type 0} → (X → Token) → Option X → Token → Token
token_or f None other = other
token_or f (Some x) other = f x

-- the calls that follow `.u.`
abbrev pub plant_word : List ℕ → Option Word
plant_word text =
    if bytes_eq text (codes "i") then Some w.Count
    else (if bytes_eq text (codes "d") then Some w.Day
    else (if bytes_eq text (codes "sub") then Some w.Sub
    else None))

-- signs of two bytes, which come before those of one
abbrev pub long_sign : ℕ → ℕ → Option Verb
long_sign b next =
    if b == 60 && next == 62 then Some v.Ne
    else (if b == 60 && next == 61 then Some v.Le
    else (if b == 62 && next == 61 then Some v.Ge
    else None))

abbrev pub short_sign : ℕ → Option Verb
short_sign b =
    if b == 43 then Some v.Add
    else (if b == 45 then Some v.Sub
    else (if b == 42 then Some v.Mul
    else (if b == 61 then Some v.Eq
    else (if b == 60 then Some v.Lt
    else (if b == 62 then Some v.Gt
    else (if b == 38 then Some v.Lesser
    else (if b == 124 then Some v.Greater
    else None)))))))

abbrev pub mark_of : ℕ → Option Mark
mark_of b =
    if b == 40 then Some m.Left
    else (if b == 41 then Some m.Right
    else (if b == 91 then Some m.Open
    else (if b == 93 then Some m.Close
    else (if b == 59 then Some m.Semicolon
    else (if b == 44 then Some m.Comma
    else (if b == 58 then Some m.Colon
    else None))))))

-- a token, and its length
abbrev pub taken : {X : Type 0} → (X → Token) → ℕ → Option X → Option (Token × ℕ)
taken f length None = None
taken f length (Some x) = Some (f x, length)

abbrev pub sign_at : ℕ → ℕ → Option (Token × ℕ)
sign_at b next = or_else (taken sign 2 (long_sign b next)) (or_else (taken sign 1 (short_sign b)) (taken mark 1 (mark_of b)))

-- whether the text has `.u.` at an offset
abbrev pub is_dotted : List ℕ → ℕ → Bool
is_dotted text at = slice_index text at == 46 && (slice_index text (at + 1) == 117 && slice_index text (at + 2) == 46)

-- a call, which begins with a dot, and its length
abbrev pub dotted : List ℕ → ℕ → Option (Token × ℕ)
dotted text at =
    if is_dotted text at
    then taken word (3 + length (name_at text (at + 3))) (plant_word (name_at text (at + 3)))
    else None

abbrev pub read_at : ℕ → Option (Token × ℕ) → Option Read
read_at at None = None
read_at at (Some found) = Some (record { token = found.0; end = at + found.1 })

-- whether a literal that ends at an offset has no suffix of a long
abbrev pub is_plain : List ℕ → ℕ → Bool
is_plain text end = not (slice_index text (end - 1) == 106)

abbrev pub long_in : Atom → Option ℤ
long_in (a.Long n) = Some n
long_in _ = None

abbrev pub atom_token : Atom → Bool → Token
atom_token x plain = if plain then token_or number (long_in x) (literal (atom x)) else literal (atom x)

abbrev pub literal_token : Tree → Bool → Token
literal_token (atom x) plain = atom_token x plain
literal_token tree plain = literal tree

abbrev pub literal_read : List ℕ → Option Literal → Option Read
literal_read text None = None
literal_read text (Some l) = Some (record { token = literal_token l.value (is_plain text l.end); end = l.end })

abbrev pub sign_or_dotted : List ℕ → ℕ → Option (Token × ℕ)
sign_or_dotted text at = or_else (dotted text at) (sign_at (slice_index text at) (slice_index text (at + 1)))

-- the token that begins at an offset
abbrev pub token_at : List ℕ → ℕ → Option Read
token_at text at =
    if starts_literal text at then literal_read text (literal_at text at)
    else (if is_letter (slice_index text at) then Some (record { token = named (name_at text at); end = at + length (name_at text at) })
    else read_at at (sign_or_dotted text at))

-- the next byte from an offset on that is no blank begins this token, or none
abbrev pub IsNext : List ℕ → ℕ → Option Read → Type 0
IsNext text at found = (past_blanks text at < length text) × (token_at text (past_blanks text at) ≡ found)

-- the tokens from an offset on, in order, with nothing but blanks between them and after the last
pub data AreTokens : List ℕ → ℕ → List Placed → Type 0 where
  no_more : {text : List ℕ} {at : ℕ} → length text ≤ past_blanks text at → AreTokens text at []
  one_more : {text : List ℕ} {at : ℕ} {read : Read} {placed : List Placed} → IsNext text at (Some read) → AreTokens text read.end placed
      → AreTokens text at (record { token = read.token; place = past_blanks text at } ∷ placed)

-- the first offset from another on where a token should begin and none does
pub data IsTokenFault : List ℕ → ℕ → ℕ → Type 0 where
  none_begins : {text : List ℕ} {at : ℕ} → IsNext text at None → IsTokenFault text at (past_blanks text at)
  after_one : {text : List ℕ} {at fault : ℕ} {read : Read} → IsNext text at (Some read) → IsTokenFault text read.end fault → IsTokenFault text at fault

abbrev pub only_tokens : List Placed → List Token
only_tokens placed = map (λ p. p.token) placed
