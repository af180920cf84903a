-- Each state goes on to some request.
use Rattle.std.proofs.Common.{◌≡◌, pos, true, false, List, [], ◌∷◌, Some, None, refl, ◌∙◌}
use Rattle.q_values.specs.Tree.{atom}
use Rattle.q_values.specs.declared.atom.Atom.TheVariants as a
use Rattle.qsql_tokens.specs.declared.token.Word.TheVariants as w
use Rattle.qsql_tokens.specs.declared.token.Mark.TheVariants as m
use Rattle.qsql_request.specs.Forms.{Form, column, one, two, QueryForm, SourceForm, all_of, rows_of, RequestForm, query_form, aj_form, count_form, sub_form}
use Rattle.qsql_tokens.specs.Tokens.{Token, number, literal, name, word, mark}
use Rattle.qsql_parse.specs.Machine.{SideForm, to_left, to_right, OuterForm, alone, bare, bracketed, of_column, of_phrase, StackForm, base, right_of, under, in_brackets, applied, first_of_two, second_of_two, StateForm, start, verb_read, number_wanted, number_read, columns_wanted, column_wanted, name_read, wanted, monad_read, dyad_read, got, table_wanted, table_read, aj_read, keys_wanted, keys_read, source_wanted, query_wanted, source_read, sub_read, tables_wanted, tables_read, names_wanted, names_read, done, grown, with_table, with_phrase, fresh, run}
use Rattle.qsql_parse.proofs.Complete.{Ends, close-right, close-under}

abbrev pub Live : StateForm → Type 0
Live s = (ts : List Token) × (r : RequestForm) × (run s ts ≡ Some r)

-- the same, by tokens that end an expression
abbrev LiveEnd : StateForm → Type 0
LiveEnd s = (ts : List Token) × (r : RequestForm) × Ends ts × (run s ts ≡ Some r)

-- a table of no name, and the null symbol
abbrev blank : Token
blank = name []

abbrev null : Token
null = literal (atom (a.Symbol []))

abbrev side_tail : SideForm → List Token
side_tail (to_left keys) = mark m.Semicolon ∷ blank ∷ mark m.Close ∷ []
side_tail (to_right keys l) = mark m.Close ∷ []

abbrev side_request : SideForm → SourceForm → RequestForm
side_request (to_left keys) s = aj_form (record { keys = keys; left = s; right = all_of [] })
side_request (to_right keys l) s = aj_form (record { keys = keys; left = l; right = s })

abbrev tail_of : OuterForm → List Token
tail_of alone = []
tail_of (bare side) = side_tail side
tail_of (bracketed side) = mark m.Right ∷ side_tail side

abbrev request_with : OuterForm → QueryForm → RequestForm
request_with alone q = query_form q
request_with (bare side) q = side_request side (rows_of q)
request_with (bracketed side) q = side_request side (rows_of q)

tail-ends : (o : OuterForm) → Ends (tail_of o)
tail-ends alone = tt
tail-ends (bare (to_left keys)) = refl
tail-ends (bare (to_right keys l)) = refl
tail-ends (bracketed side) = refl

source-live : (side : SideForm) (s : SourceForm) → run (source_read side s) (side_tail side) ≡ Some (side_request side s)
source-live (to_left keys) s = refl
source-live (to_right keys l) s = refl

table-live : (o : OuterForm) (q : QueryForm) → run (table_read o q) (tail_of o) ≡ Some (request_with o q)
table-live alone q = refl
table-live (bare (to_left keys)) q = refl
table-live (bare (to_right keys l)) q = refl
table-live (bracketed (to_left keys)) q = refl
table-live (bracketed (to_right keys l)) q = refl

phrase-live : (o : OuterForm) (q : QueryForm) (e : Form) → run (got e (base (of_phrase o q))) (tail_of o) ≡ Some (request_with o (with_phrase q e))
phrase-live alone q e = refl
phrase-live (bare (to_left keys)) q e = refl
phrase-live (bare (to_right keys l)) q e = refl
phrase-live (bracketed (to_left keys)) q e = refl
phrase-live (bracketed (to_right keys l)) q e = refl

abbrev from_tail : OuterForm → List Token
from_tail o = word w.From ∷ blank ∷ tail_of o

got-live : (k : StackForm) (e : Form) → LiveEnd (got e k)
got-live (base (of_column o d g n)) e = (from_tail o, request_with o (with_table (grown d g n e) []), refl, table-live o (with_table (grown d g n e) []))
got-live (base (of_phrase o q)) e = (tail_of o, request_with o (with_phrase q e), tail-ends o, phrase-live o q e)
got-live (right_of v l k) e = closed (got-live k (two v l e))
  where
    closed : LiveEnd (got (two v l e) k) → LiveEnd (got e (right_of v l k))
    closed (ts, r, ends, h) = (ts, r, ends, close-right v l k e ts ends ∙ h)
got-live (under u k) e = closed (got-live k (one u e))
  where
    closed : LiveEnd (got (one u e) k) → LiveEnd (got e (under u k))
    closed (ts, r, ends, h) = (ts, r, ends, close-under u k e ts ends ∙ h)
got-live (in_brackets k) e = closed (got-live k e)
  where
    closed : LiveEnd (got e k) → LiveEnd (got e (in_brackets k))
    closed (ts, r, ends, h) = (mark m.Right ∷ ts, r, refl, h)
got-live (applied u k) e = closed (got-live k (one u e))
  where
    closed : LiveEnd (got (one u e) k) → LiveEnd (got e (applied u k))
    closed (ts, r, ends, h) = (mark m.Close ∷ ts, r, refl, h)
got-live (first_of_two v k) e = closed (got-live k (two v e (column [])))
  where
    closed : LiveEnd (got (two v e (column [])) k) → LiveEnd (got e (first_of_two v k))
    closed (ts, r, ends, h) = (mark m.Semicolon ∷ blank ∷ mark m.Close ∷ ts, r, refl, h)
got-live (second_of_two v l k) e = closed (got-live k (two v l e))
  where
    closed : LiveEnd (got (two v l e) k) → LiveEnd (got e (second_of_two v l k))
    closed (ts, r, ends, h) = (mark m.Close ∷ ts, r, refl, h)

wanted-live : (k : StackForm) → Live (wanted k)
wanted-live k = begun (got-live k (column []))
  where
    begun : LiveEnd (got (column []) k) → Live (wanted k)
    begun (ts, r, ends, h) = (blank ∷ ts, r, h)

-- each state goes on
pub live : (s : StateForm) → Live s
live start = (word w.Count ∷ [], count_form, refl)
live (verb_read o x) = (from_tail o, request_with o (with_table (fresh x None) []), table-live o (with_table (fresh x None) []))
live (number_wanted o x) = (number (pos 0) ∷ mark m.Close ∷ from_tail o, request_with o (with_table (fresh x (Some (pos 0))) []), table-live o (with_table (fresh x (Some (pos 0))) []))
live (number_read o x n) = (mark m.Close ∷ from_tail o, request_with o (with_table (fresh x (Some n)) []), table-live o (with_table (fresh x (Some n)) []))
live (columns_wanted o d) = (from_tail o, request_with o (with_table d []), table-live o (with_table d []))
live (column_wanted o d g) = (blank ∷ from_tail o, request_with o (with_table (grown d g None (column [])) []), table-live o (with_table (grown d g None (column [])) []))
live (name_read o d g n) = (from_tail o, request_with o (with_table (grown d g None (column n)) []), table-live o (with_table (grown d g None (column n)) []))
live (wanted k) = wanted-live k
live (monad_read u k) = begun (got-live (under u k) (column []))
  where
    begun : LiveEnd (got (column []) (under u k)) → Live (monad_read u k)
    begun (ts, r, ends, h) = (blank ∷ ts, r, h)
live (dyad_read v k) = begun (got-live (first_of_two v k) (column []))
  where
    begun : LiveEnd (got (column []) (first_of_two v k)) → Live (dyad_read v k)
    begun (ts, r, ends, h) = (mark m.Open ∷ blank ∷ ts, r, h)
live (got e k) = begun (got-live k e)
  where
    begun : LiveEnd (got e k) → Live (got e k)
    begun (ts, r, ends, h) = (ts, r, h)
live (table_wanted o d) = (blank ∷ tail_of o, request_with o (with_table d []), table-live o (with_table d []))
live (table_read o q) = (tail_of o, request_with o q, table-live o q)
live aj_read = (mark m.Open ∷ null ∷ mark m.Semicolon ∷ blank ∷ mark m.Semicolon ∷ blank ∷ mark m.Close ∷ [], aj_form (record { keys = [] ∷ []; left = all_of []; right = all_of [] }), refl)
live keys_wanted = (null ∷ mark m.Semicolon ∷ blank ∷ mark m.Semicolon ∷ blank ∷ mark m.Close ∷ [], aj_form (record { keys = [] ∷ []; left = all_of []; right = all_of [] }), refl)
live (keys_read keys) = (mark m.Semicolon ∷ blank ∷ mark m.Semicolon ∷ blank ∷ mark m.Close ∷ [], aj_form (record { keys = keys; left = all_of []; right = all_of [] }), refl)
live (source_wanted side) = (blank ∷ side_tail side, side_request side (all_of []), source-live side (all_of []))
live (query_wanted side) = (word w.Select ∷ from_tail (bracketed side), request_with (bracketed side) (with_table (fresh false None) []), table-live (bracketed side) (with_table (fresh false None) []))
live (source_read side s) = (side_tail side, side_request side s, source-live side s)
live sub_read = (mark m.Open ∷ null ∷ mark m.Semicolon ∷ null ∷ mark m.Close ∷ [], sub_form (record { tables = [] ∷ []; all = true; names = [] ∷ [] }), refl)
live tables_wanted = (null ∷ mark m.Semicolon ∷ null ∷ mark m.Close ∷ [], sub_form (record { tables = [] ∷ []; all = true; names = [] ∷ [] }), refl)
live (tables_read tables) = (mark m.Semicolon ∷ null ∷ mark m.Close ∷ [], sub_form (record { tables = tables; all = true; names = [] ∷ [] }), refl)
live (names_wanted tables) = (null ∷ mark m.Close ∷ [], sub_form (record { tables = tables; all = true; names = [] ∷ [] }), refl)
live (names_read s) = (mark m.Close ∷ [], sub_form s, refl)
live (done r) = ([], r, refl)
