-- The states of the reader as contracts see them.
use Rattle.std.specs.Prelude.{◌≡◌, List, [], ◌∷◌, Option, Some, None, Result, Ok, Err, map}
use Rattle.qsql_request.specs.Views.{form, column_form, query_of, source_of, sub_of, request_of}
use Rattle.qsql_parse.specs.Machine.{DraftForm, SideForm, to_left, to_right, OuterForm, alone, bare, bracketed, BaseForm, of_column, of_phrase}
use Rattle.qsql_parse.specs.Machine.{StackForm, base, right_of, under, in_brackets, applied, first_of_two, second_of_two, StateForm, start}
use Rattle.qsql_parse.specs.Machine.{verb_read, number_wanted, number_read, columns_wanted, column_wanted, name_read, wanted, monad_read, dyad_read}
use Rattle.qsql_parse.specs.Machine.{got, table_wanted, table_read, aj_read, keys_wanted, keys_read, source_wanted, query_wanted, source_read}
use Rattle.qsql_parse.specs.Machine.{sub_read, tables_wanted, tables_read, names_wanted, names_read, done, whole}
use Rattle.qsql_request.specs.declared.request.Expr.{Expr}
use Rattle.qsql_parse.specs.declared.state.Draft.{Draft}
use Rattle.qsql_parse.specs.declared.state.Side.{Side}
use Rattle.qsql_parse.specs.declared.state.Side.TheVariants as d
use Rattle.qsql_parse.specs.declared.state.Outer.{Outer}
use Rattle.qsql_parse.specs.declared.state.Outer.TheVariants as o
use Rattle.qsql_parse.specs.declared.state.Base.{Base}
use Rattle.qsql_parse.specs.declared.state.Base.TheVariants as b
use Rattle.qsql_parse.specs.declared.state.Frame.{Frame}
use Rattle.qsql_parse.specs.declared.state.Frame.TheVariants as f
use Rattle.qsql_parse.specs.declared.state.Stack.{Stack}
use Rattle.qsql_parse.specs.declared.state.QueryState.{QueryState}
use Rattle.qsql_parse.specs.declared.state.QueryState.TheVariants as q
use Rattle.qsql_parse.specs.declared.state.ExpressionState.{ExpressionState}
use Rattle.qsql_parse.specs.declared.state.ExpressionState.TheVariants as x
use Rattle.qsql_parse.specs.declared.state.JoinState.{JoinState}
use Rattle.qsql_parse.specs.declared.state.JoinState.TheVariants as j
use Rattle.qsql_parse.specs.declared.state.SubState.{SubState}
use Rattle.qsql_parse.specs.declared.state.SubState.TheVariants as u
use Rattle.qsql_parse.specs.declared.state.State.{State}
use Rattle.qsql_parse.specs.declared.state.State.TheVariants as s
use Rattle.qsql_parse.specs.declared.refusal.Stop.{Stop}
use Rattle.qsql_parse.specs.declared.refusal.Stop.TheVariants as e

abbrev pub draft_of : Draft → DraftForm
draft_of d = record { exec = d.exec; first = d.first; columns = map column_form d.columns; by = map column_form d.by }

abbrev pub side_of : Side → SideForm
side_of (d.ToLeft keys) = to_left keys
side_of (d.ToRight keys left) = to_right keys (source_of left)

abbrev pub outer_of : Outer → OuterForm
outer_of o.Alone = alone
outer_of (o.Bare side) = bare (side_of side)
outer_of (o.Bracketed side) = bracketed (side_of side)

abbrev pub base_of : Base → BaseForm
base_of (b.Column o d g n) = of_column (outer_of o) (draft_of d) g n
base_of (b.Phrase o q) = of_phrase (outer_of o) (query_of q)

-- what a frame makes of the stack that it is within
abbrev pub around : Frame → StackForm → StackForm
around (f.RightOf v l) k = right_of v (form l) k
around (f.Under u) k = under u k
around f.InBrackets k = in_brackets k
around (f.Applied u) k = applied u k
around (f.FirstOfTwo v) k = first_of_two v k
around (f.SecondOfTwo v l) k = second_of_two v (form l) k

abbrev pub stack_on : BaseForm → List Frame → StackForm
stack_on b [] = base b
stack_on b (frame ∷ outer) = around frame (stack_on b outer)

abbrev pub stack_of : Stack → StackForm
stack_of s = stack_on (base_of s.base) s.frames.items

abbrev pub query_state_of : OuterForm → QueryState → StateForm
query_state_of o (q.VerbRead x) = verb_read o x
query_state_of o (q.NumberWanted x) = number_wanted o x
query_state_of o (q.NumberRead x n) = number_read o x n
query_state_of o (q.ColumnsWanted d) = columns_wanted o (draft_of d)
query_state_of o (q.ColumnWanted d g) = column_wanted o (draft_of d) g
query_state_of o (q.NameRead d g n) = name_read o (draft_of d) g n
query_state_of o (q.TableWanted d) = table_wanted o (draft_of d)
query_state_of o (q.TableRead query) = table_read o (query_of query)

abbrev pub expression_state_of : StackForm → ExpressionState → StateForm
expression_state_of k x.Wanted = wanted k
expression_state_of k (x.MonadRead u) = monad_read u k
expression_state_of k (x.DyadRead v) = dyad_read v k
expression_state_of k (x.Got expr) = got (form expr) k

-- the expression that a state has read, if it has read one
abbrev pub IsFinished : Option Expr → ExpressionState → Type 0
IsFinished (Some expr) state = state ≡ x.Got expr
IsFinished None state = (k : StackForm) → whole (expression_state_of k state) ≡ None

abbrev pub join_state_of : JoinState → StateForm
join_state_of j.Begun = aj_read
join_state_of j.KeysWanted = keys_wanted
join_state_of (j.KeysRead keys) = keys_read keys
join_state_of (j.SourceWanted side) = source_wanted (side_of side)
join_state_of (j.QueryWanted side) = query_wanted (side_of side)
join_state_of (j.SourceRead side source) = source_read (side_of side) (source_of source)

abbrev pub sub_state_of : SubState → StateForm
sub_state_of u.Begun = sub_read
sub_state_of u.TablesWanted = tables_wanted
sub_state_of (u.TablesRead tables) = tables_read tables
sub_state_of (u.NamesWanted tables) = names_wanted tables
sub_state_of (u.NamesRead sub) = names_read (sub_of sub)

abbrev pub state_of : State → StateForm
state_of s.Start = start
state_of (s.InQuery outer state) = query_state_of (outer_of outer) state
state_of (s.InExpression stack state) = expression_state_of (stack_of stack) state
state_of (s.InJoin state) = join_state_of state
state_of (s.InSub state) = sub_state_of state
state_of (s.Done request) = done (request_of request)

-- what a function returned, seen by view, is what the definition gives, unless memory ran out
abbrev pub Stops : {Y : Type 0} → Stop → Option Y → Type 0
Stops e.Here found = found ≡ None
Stops e.NoMemory found = Unit {0}

abbrev pub Finds : {X Y : Type 0} → (X → Y) → Result X Stop → Option Y → Type 0
Finds view (Ok x) found = found ≡ Some (view x)
Finds view (Err stop) found = Stops stop found

abbrev pub Steps : Result State Stop → Option StateForm → Type 0
Steps result found = Finds state_of result found
