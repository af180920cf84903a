-- The types of requests as contracts see them.
use Rattle.std.specs.Prelude.{map}
use Rattle.q_values.specs.Tree.{tree}
use Rattle.qsql_request.specs.Forms.{Form, constant, column, one, two, ColumnForm, QueryForm, SourceForm, all_of, rows_of, AjForm, SubForm}
use Rattle.qsql_request.specs.Forms.{RequestForm, query_form, aj_form, count_form, day_form, sub_form}
use Rattle.qsql_request.specs.declared.request.Expr.{Expr}
use Rattle.qsql_request.specs.declared.request.Expr.TheOpen.{Expr-F}
use Rattle.qsql_request.specs.declared.request.Expr.TheFolds.{fold-Expr}
use Rattle.qsql_request.specs.declared.request.Col.{Col}
use Rattle.qsql_request.specs.declared.request.Query.{Query}
use Rattle.qsql_request.specs.declared.request.Source.{Source}
use Rattle.qsql_request.specs.declared.request.Source.TheVariants as s
use Rattle.qsql_request.specs.declared.request.AjQuery.{AjQuery}
use Rattle.qsql_request.specs.declared.request.SubRequest.{SubRequest}
use Rattle.qsql_request.specs.declared.request.Request.{Request}
use Rattle.qsql_request.specs.declared.request.Request.TheVariants as r

-- one level of an expression, given the forms of its sides
abbrev pub form_step : Expr-F Form → Form
form_step (Expr-F.Literal value) = constant (tree value)
form_step (Expr-F.Name name) = column name
form_step (Expr-F.One verb side) = one verb side.value
form_step (Expr-F.Two verb left right) = two verb left.value right.value

abbrev pub form : Expr → Form
form = fold-Expr Form form_step

abbrev pub column_form : Col → ColumnForm
column_form c = record { name = c.name; expr = form c.expr }

abbrev pub query_of : Query → QueryForm
query_of q =
    record { exec = q.exec; first = q.first; columns = map column_form q.columns; by = map column_form q.by; table = q.table; phrases = map form q.phrases }

abbrev pub source_of : Source → SourceForm
source_of (s.All name) = all_of name
source_of (s.Of query) = rows_of (query_of query.value)

abbrev pub aj_of : AjQuery → AjForm
aj_of q = record { keys = q.keys; left = source_of q.left; right = source_of q.right }

abbrev pub sub_of : SubRequest → SubForm
sub_of q = record { tables = q.tables; all = q.all; names = q.names }

-- what a request asks for
abbrev pub request_of : Request → RequestForm
request_of (r.Query q) = query_form (query_of q)
request_of (r.Aj q) = aj_form (aj_of q)
request_of r.Count = count_form
request_of r.Day = day_form
request_of (r.Sub q) = sub_form (sub_of q)
