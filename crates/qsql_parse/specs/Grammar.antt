-- The grammar of requests, with one constructor for each production. IsX ts rest x says: the tokens ts begin with an X
-- that means x, followed by the tokens rest.
use Rattle.std.specs.Prelude.{◌≡◌, ℕ, ℤ, ◌==◌, length, Bool, true, false, List, [], ◌∷◌, ◌++◌, map, Option, Some, None}
use Rattle.q_values.specs.Tree.{Tree, atom, vector}
use Rattle.q_values.specs.declared.atom.Atom.{Atom}
use Rattle.q_values.specs.declared.atom.Atom.TheVariants as a
use Rattle.q_values.specs.declared.kind.Kind.TheVariants as k
use Rattle.q_verbs.specs.declared.verb.Verb.{Verb}
use Rattle.q_verbs.specs.declared.verb.Verb1.{Verb1}
use Rattle.qsql_tokens.specs.declared.token.Word.TheVariants as w
use Rattle.qsql_tokens.specs.declared.token.Mark.TheVariants as m
use Rattle.qsql_request.specs.Forms.{Form, constant, column, one, two, ColumnForm, QueryForm, SourceForm, all_of, rows_of, RequestForm, query_form}
use Rattle.qsql_request.specs.Forms.{aj_form, count_form, day_form, sub_form}
use Rattle.qsql_tokens.specs.Tokens.{Token, number, literal, name, monad, sign, dyad, word, mark, Placed, only_tokens}

-- a verb between two sides, as a sign or as a word
pub data IsDyad : Token → Verb → Type 0 where
  by_sign : {v : Verb} → IsDyad (sign v) v
  by_word : {v : Verb} → IsDyad (dyad v) v

mutual
  -- expr = term | term dyad expr | monad expr
  pub data IsExpr : List Token → List Token → Form → Type 0 where
    of_term : {ts rest : List Token} {e : Form} → IsTerm ts rest e → IsExpr ts rest e
    dyadic : {ts mid rest : List Token} {t : Token} {v : Verb} {l r : Form} → IsTerm ts (t ∷ mid) l → IsDyad t v → IsExpr mid rest r
        → IsExpr ts rest (two v l r)
    monadic : {ts rest : List Token} {u : Verb1} {e : Form} → IsExpr ts rest e → IsExpr (monad u ∷ ts) rest (one u e)

  -- term = literal | name | "(" expr ")" | monad "[" expr "]" | dyadword "[" expr ";" expr "]"
  pub data IsTerm : List Token → List Token → Form → Type 0 where
    of_number : {rest : List Token} {n : ℤ} → IsTerm (number n ∷ rest) rest (constant (atom (a.Long n)))
    of_literal : {rest : List Token} {v : Tree} → IsTerm (literal v ∷ rest) rest (constant v)
    of_name : {rest : List Token} {n : List ℕ} → IsTerm (name n ∷ rest) rest (column n)
    in_parentheses : {ts rest : List Token} {e : Form} → IsExpr ts (mark m.Right ∷ rest) e → IsTerm (mark m.Left ∷ ts) rest e
    one_in_brackets : {ts rest : List Token} {u : Verb1} {e : Form} → IsExpr ts (mark m.Close ∷ rest) e → IsTerm (monad u ∷ mark m.Open ∷ ts) rest (one u e)
    two_in_brackets : {ts mid rest : List Token} {v : Verb} {l r : Form} → IsExpr ts (mark m.Semicolon ∷ mid) l → IsExpr mid (mark m.Close ∷ rest) r
        → IsTerm (dyad v ∷ mark m.Open ∷ ts) rest (two v l r)

-- column = [ name ":" ] expr
pub data IsColumn : List Token → List Token → ColumnForm → Type 0 where
  with_name : {ts rest : List Token} {n : List ℕ} {e : Form} → IsExpr ts rest e
      → IsColumn (name n ∷ mark m.Colon ∷ ts) rest (record { name = Some n; expr = e })
  without_name : {ts rest : List Token} {e : Form} → IsExpr ts rest e → IsColumn ts rest (record { name = None; expr = e })

-- columns = column { "," column }
pub data IsColumns : List Token → List Token → List ColumnForm → Type 0 where
  last_column : {ts rest : List Token} {c : ColumnForm} → IsColumn ts rest c → IsColumns ts rest (c ∷ [])
  more_columns : {ts mid rest : List Token} {c : ColumnForm} {cs : List ColumnForm} → IsColumn ts (mark m.Comma ∷ mid) c → IsColumns mid rest cs
      → IsColumns ts rest (c ∷ cs)

-- phrases = expr { "," expr }
pub data IsPhrases : List Token → List Token → List Form → Type 0 where
  last_phrase : {ts rest : List Token} {e : Form} → IsExpr ts rest e → IsPhrases ts rest (e ∷ [])
  more_phrases : {ts mid rest : List Token} {e : Form} {es : List Form} → IsExpr ts (mark m.Comma ∷ mid) e → IsPhrases mid rest es
      → IsPhrases ts rest (e ∷ es)

-- "select" | "exec"
pub data IsVerb : Token → Bool → Type 0 where
  of_select : IsVerb (word w.Select) false
  of_exec : IsVerb (word w.Exec) true

-- [ "[" number "]" ]
pub data IsFirst : List Token → List Token → Option ℤ → Type 0 where
  no_first : {ts : List Token} → IsFirst ts ts None
  some_first : {rest : List Token} {n : ℤ} → IsFirst (mark m.Open ∷ number n ∷ mark m.Close ∷ rest) rest (Some n)

-- [ columns ]
pub data IsSelected : List Token → List Token → List ColumnForm → Type 0 where
  no_selected : {ts : List Token} → IsSelected ts ts []
  some_selected : {ts rest : List Token} {cs : List ColumnForm} → IsColumns ts rest cs → IsSelected ts rest cs

-- [ "by" columns ]
pub data IsBy : List Token → List Token → List ColumnForm → Type 0 where
  no_by : {ts : List Token} → IsBy ts ts []
  some_by : {ts rest : List Token} {cs : List ColumnForm} → IsColumns ts rest cs → IsBy (word w.By ∷ ts) rest cs

-- [ "where" phrases ]
pub data IsWhere : List Token → List Token → List Form → Type 0 where
  no_where : {ts : List Token} → IsWhere ts ts []
  some_where : {ts rest : List Token} {es : List Form} → IsPhrases ts rest es → IsWhere (word w.Where ∷ ts) rest es

-- query = ("select" | "exec") [ "[" number "]" ] [ columns ] [ "by" columns ] "from" name [ "where" phrases ]
pub data IsQuery : List Token → List Token → QueryForm → Type 0 where
  of_parts : {t : Token} {exec : Bool} {ts selected grouped wheres rest : List Token}
      {first : Option ℤ} {columns by : List ColumnForm} {table : List ℕ} {phrases : List Form}
      → IsVerb t exec → IsFirst ts selected first → IsSelected selected grouped columns → IsBy grouped (word w.From ∷ name table ∷ wheres) by
      → IsWhere wheres rest phrases
      → IsQuery (t ∷ ts) rest (record { exec = exec; first = first; columns = columns; by = by; table = table; phrases = phrases })

-- the names of a symbol literal
abbrev pub symbol_of : Atom → List ℕ
symbol_of (a.Symbol s) = s
symbol_of _ = []

pub data IsSymbols : Token → List (List ℕ) → Type 0 where
  of_symbol : {s : List ℕ} → IsSymbols (literal (atom (a.Symbol s))) (s ∷ [])
  of_vector : {atoms : List Atom} → IsSymbols (literal (vector (record { kind = k.Symbol; atoms = atoms }))) (map symbol_of atoms)

-- source = name | query | "(" query ")"
pub data IsSource : List Token → List Token → SourceForm → Type 0 where
  of_table : {rest : List Token} {n : List ℕ} → IsSource (name n ∷ rest) rest (all_of n)
  of_query : {ts rest : List Token} {q : QueryForm} → IsQuery ts rest q → IsSource ts rest (rows_of q)
  query_in_parentheses : {ts rest : List Token} {q : QueryForm} → IsQuery ts (mark m.Right ∷ rest) q → IsSource (mark m.Left ∷ ts) rest (rows_of q)

abbrev pub is_null_atom : Atom → Bool
is_null_atom (a.Symbol s) = length s == 0
is_null_atom _ = false

abbrev pub is_null_tree : Tree → Bool
is_null_tree (atom x) = is_null_atom x
is_null_tree _ = false

-- whether a symbol literal is the null symbol, as an atom
abbrev pub is_null_symbol : Token → Bool
is_null_symbol (literal v) = is_null_tree v
is_null_symbol _ = false

-- request = query | asof | ".u.i" | ".u.d" | ".u.sub" "[" symbols ";" symbols "]"
-- asof = "aj" "[" symbols ";" source ";" source "]"
pub data IsRequest : List Token → RequestForm → Type 0 where
  query : {ts : List Token} {q : QueryForm} → IsQuery ts [] q → IsRequest ts (query_form q)
  asof : {t : Token} {ts mid : List Token} {keys : List (List ℕ)} {left right : SourceForm} → IsSymbols t keys
      → IsSource ts (mark m.Semicolon ∷ mid) left → IsSource mid (mark m.Close ∷ []) right
      → IsRequest (word w.Aj ∷ mark m.Open ∷ t ∷ mark m.Semicolon ∷ ts) (aj_form (record { keys = keys; left = left; right = right }))
  count : IsRequest (word w.Count ∷ []) count_form
  day : IsRequest (word w.Day ∷ []) day_form
  subscription : {t u : Token} {tables names : List (List ℕ)} → IsSymbols t tables → IsSymbols u names
      → IsRequest (word w.Sub ∷ mark m.Open ∷ t ∷ mark m.Semicolon ∷ u ∷ mark m.Close ∷ [])
      (sub_form (record { tables = tables; all = is_null_symbol u; names = names }))

-- some request begins with these tokens
abbrev pub GoesOn : List Token → Type 0
GoesOn tokens = (rest : List Token) × (request : RequestForm) × IsRequest (tokens ++ rest) request

-- the offset of the first token, or of the end where there is none
abbrev pub offset_of : List Placed → ℕ → ℕ
offset_of [] end = end
offset_of (p ∷ placed) end = p.place

-- no request begins with these tokens and the next one; or there is no next one, and they are no request themselves
abbrev pub IsStuck : List Token → List Token → Type 0
IsStuck before [] = (request : RequestForm) → IsRequest before request → ⊥
IsStuck before (t ∷ _) = GoesOn (before ++ t ∷ []) → ⊥

-- the offset of the first token with which no request continues, or the text's length
abbrev pub IsFault : List Placed → ℕ → ℕ → Type 0
IsFault placed end offset =
    (before : List Placed) × (left : List Placed) × (placed ≡ before ++ left) × (offset ≡ offset_of left end) × GoesOn (only_tokens before)
    × IsStuck (only_tokens before) (only_tokens left)
