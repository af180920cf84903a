-- A side of an as-of join, as the code keeps it.
use Rattle.std.specs.Prelude.{◌≡◌, ℕ, Bool, false, List, length, Some, None}
use Rattle.day_rows.specs.declared.schema.Shape.{Shape}
use Rattle.qsql_request.specs.Forms.{QueryForm}
use Rattle.qsql_request.specs.declared.request.Query.{Query}
use Rattle.asof_join.specs.Judged.{Found, lacks, has, found_in}
use Rattle.asof_join.specs.Sources.{is_typed_source}
use Rattle.asof_join.specs.declared.refusal.AjRefusal.{AjRefusal}
use Rattle.asof_join.specs.declared.refusal.AjRefusal.TheVariants.{NoName, Nyi, WrongType, NoMemory}

-- `select` of all of the table with this name
pub record IsSelectOf (name : List ℕ) (q : Query) : Type 0 where
  pub exec : q.exec ≡ false
  pub first : q.first ≡ None
  pub columns : length q.columns ≡ 0
  pub by : length q.by ≡ 0
  pub table : q.table ≡ name
  pub phrases : length q.phrases ≡ 0

-- a query's names are all there, and it is known whether it is typed
pub record IsJudged (table : Shape) (q : QueryForm) (typed : Bool) : Type 0 where
  pub names : found_in q (Some table) ≡ has table
  pub typed_is : typed ≡ is_typed_source table q

-- when a side is refused of which this was found
abbrev pub RefusesSide : Found → AjRefusal → Type 0
RefusesSide found (NoName name) = found ≡ lacks name
RefusesSide found Nyi = ⊥
RefusesSide found WrongType = ⊥
RefusesSide found NoMemory = Unit {0}

-- the name is refused, or memory ran out
abbrev pub NamesOrMemory : List ℕ → AjRefusal → Type 0
NamesOrMemory name (NoName other) = other ≡ name
NamesOrMemory name Nyi = ⊥
NamesOrMemory name WrongType = ⊥
NamesOrMemory name NoMemory = Unit {0}
