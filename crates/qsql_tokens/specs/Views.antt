-- The types of tokens as contracts see them.
use Rattle.std.specs.Prelude.{◌≡◌, ◌≤◌, ◌<◌, ℕ, List, length, Option, Some, None, Result, Ok, Err}
use Rattle.q_values.specs.Tree.{tree}
use Rattle.qsql_tokens.specs.Tokens.{Token, number, literal, name, monad, sign, dyad, word, mark, Placed, Read, IsTokenFault}
use Rattle.qsql_tokens.specs.Parts.{name_of}
use Rattle.qsql_tokens.specs.declared.token.Token.{Token as Own}
use Rattle.qsql_tokens.specs.declared.token.Token.TheVariants as t
use Rattle.qsql_tokens.specs.declared.token.Placed.{Placed as Lexed}
use Rattle.qsql_tokens.specs.declared.refusal.TokenRefusal.{TokenRefusal}
use Rattle.qsql_tokens.specs.declared.refusal.TokenRefusal.TheVariants as r

abbrev pub token_of : Own → Token
token_of (t.Number n) = number n
token_of (t.Literal v) = literal (tree v)
token_of (t.Name n) = name n
token_of (t.Monad v) = monad v
token_of (t.Sign v) = sign v
token_of (t.Dyad v) = dyad v
token_of (t.Word w) = word w
token_of (t.Mark m) = mark m

abbrev pub placed_of : Lexed → Placed
placed_of p = record { token = token_of p.token; place = p.place }

-- the name of a token, or else the token as it was
abbrev pub NameOr : Result (List ℕ) Own → Token → Type 0
NameOr (Ok n) t = t ≡ name n
NameOr (Err other) t = (token_of other ≡ t) × (name_of t ≡ None)

-- a token that was found, and its length
abbrev pub SignRead : Option (Own × ℕ) → Option (Token × ℕ) → Type 0
SignRead None found = found ≡ None
SignRead (Some read) found = found ≡ Some (token_of read.0, read.1)

-- a token that was read, and the offset just past it
abbrev pub TokenRead : Option (Own × ℕ) → Option Read → Type 0
TokenRead None found = found ≡ None
TokenRead (Some read) found = found ≡ Some (record { token = token_of read.0; end = read.1 })

-- each refusal has its cause; running out of memory needs none
abbrev pub RefusesTokens : List ℕ → TokenRefusal → Type 0
RefusesTokens text r.TooLong = 65536 < length text
RefusesTokens text (r.NoToken offset) = (length text ≤ 65536) × IsTokenFault text 0 offset
RefusesTokens text r.NoMemory = Unit {0}
