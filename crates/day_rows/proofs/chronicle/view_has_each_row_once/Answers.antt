use Rattle.day_rows.specs.Chronicle.{documented_cmp, date_of, ended_cmp}
use Rattle.day_rows.specs.Day.{arrived}
use Rattle.day_rows.specs.Rows.{rows}
use Rattle.day_rows.proofs.ViewLemmas.{moved-in_order, settled-ascends}
use Rattle.day_rows.proofs.chronicle.view_has_each_row_once.Goals as goal

pub returns : goal.returns
returns c = record {
  view = λ first table entries. moved-in_order (documented_cmp (date_of first entries)) (rows first entries table);
  ended = λ day table. moved-in_order ended_cmp (arrived day table);
  ascends = settled-ascends;
}
