use Rattle.std.proofs.Common.{sym}
use Rattle.qsql_values.proofs.FrameLemmas.{column-lent}
use Rattle.qsql_eval.proofs.laws.columns_are_read.Goals as goal

pub returns : goal.returns
returns c names columns name column are found = sym (column-lent names columns name column are found)
