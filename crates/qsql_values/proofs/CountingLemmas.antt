-- `count` of a column is the number of rows.
use Rattle.std.proofs.Common.{◌≡◌, ℕ, true, false, List, length, Option, Some, None, refl, sym, ap}
use Rattle.std.specs.Prelude.{is_some, option_and_then}
use Rattle.std.proofs.lemmas.List.{length-map}
use Rattle.q_values.specs.Tree.{atom}
use Rattle.q_values.specs.declared.kind.Kind.{Kind}
use Rattle.q_values.specs.declared.kind.Kind.TheVariants as k
use Rattle.q_verbs.specs.Kinds.{result_kind1_of}
use Rattle.q_verbs.specs.declared.verb.Verb1.TheVariants as u
use Rattle.qsql_request.specs.Forms.{Form, column, one}
use Rattle.qsql_values.specs.Counting.{is_row_count, count_atom}
use Rattle.qsql_values.specs.Frames.{Frame, field_in}
use Rattle.qsql_values.specs.Kinds.{kind_in}
use Rattle.qsql_values.specs.Operands.{kind_of_tree}
use Rattle.qsql_values.specs.Values.{val}

no : {P : Type 0} → false ≡ true → P
no e = absurd cc

pub count_value : (frame : Frame) (e : Form) → is_row_count e ≡ true → atom (count_atom (length frame.rows)) ≡ val frame e
count_value frame (one u.Count (column name)) h = ap (λ (n : ℕ). atom (count_atom n)) (sym (length-map frame.rows (field_in frame.names name)))
count_value frame (one verb side) h = no h
count_value frame e h = no h

kind_of_count : (o : Option Kind) → is_some (option_and_then (result_kind1_of u.Count) o) ≡ true → option_and_then (result_kind1_of u.Count) o ≡ Some k.Long
kind_of_count None h = no h
kind_of_count (Some kind) h = refl

pub count_kind : (columns : List ℕ → Option Kind) (e : Form) (n : ℕ) → is_row_count e ≡ true → is_some (kind_in columns e) ≡ true → kind_in columns e ≡ Some (kind_of_tree (atom (count_atom n)))
count_kind columns (one u.Count (column name)) n h some = kind_of_count (columns name) some
count_kind columns (one verb side) n h some = no h
count_kind columns e n h some = no h
