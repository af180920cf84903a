-- As-of joins and tables as contracts see them, and when a join is refused.
use Rattle.std.specs.Prelude.{◌≡◌}
use Rattle.q_values.specs.Tree.{Grid}
use Rattle.q_values.specs.declared.value.TableValue.{TableValue}
use Rattle.day_rows.specs.declared.schema.Shape.{Shape}
use Rattle.qsql_request.specs.Forms.{AjForm}
use Rattle.asof_join.specs.Judged.{AjJudgement, unknown, clash, mistyped, joins, judged_over}
use Rattle.asof_join.specs.declared.refusal.AjRefusal.{AjRefusal}
use Rattle.asof_join.specs.declared.refusal.AjRefusal.TheVariants.{NoName, Nyi, WrongType, NoMemory}

-- a table's names and columns
abbrev pub grid_in : TableValue → Grid
grid_in t = record { names = t.names; columns = t.columns }

-- nothing is wrong with a join over these tables
abbrev pub IsAjFit : AjForm → Shape → Shape → Type 0
IsAjFit q left right = judged_over q left right ≡ joins left right

-- when `check_aj` refuses a join of which this was found
abbrev pub RefusesJoin : AjJudgement → AjRefusal → Type 0
RefusesJoin found (NoName name) = found ≡ unknown name
RefusesJoin found Nyi = found ≡ clash
RefusesJoin found WrongType = found ≡ mistyped
RefusesJoin found NoMemory = Unit {0}
