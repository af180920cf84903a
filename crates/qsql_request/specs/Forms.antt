-- Expressions, queries and requests as contracts see them, apart from where they lie in memory.
use Rattle.std.specs.Prelude.{ℕ, ℤ, Bool, List, Option}
use Rattle.q_values.specs.Tree.{Tree}
use Rattle.q_verbs.specs.declared.verb.Verb.{Verb}
use Rattle.q_verbs.specs.declared.verb.Verb1.{Verb1}

-- an expression: a literal, a column's name, a verb on one side, a verb between two
pub data Form : Type 0 where
  constant : Tree → Form
  column : List ℕ → Form
  one : Verb1 → Form → Form
  two : Verb → Form → Form → Form

pub record ColumnForm : Type 0 where
  pub name : Option (List ℕ)
  pub expr : Form

pub record QueryForm : Type 0 where
  pub exec : Bool
  pub first : Option ℤ
  pub columns : List ColumnForm
  pub by : List ColumnForm
  pub table : List ℕ
  pub phrases : List Form

-- a side of an as-of join
pub data SourceForm : Type 0 where
  all_of : List ℕ → SourceForm
  rows_of : QueryForm → SourceForm

pub record AjForm : Type 0 where
  pub keys : List (List ℕ)
  pub left : SourceForm
  pub right : SourceForm

pub record SubForm : Type 0 where
  pub tables : List (List ℕ)
  pub all : Bool
  pub names : List (List ℕ)

pub data RequestForm : Type 0 where
  query_form : QueryForm → RequestForm
  aj_form : AjForm → RequestForm
  count_form : RequestForm
  day_form : RequestForm
  sub_form : SubForm → RequestForm
