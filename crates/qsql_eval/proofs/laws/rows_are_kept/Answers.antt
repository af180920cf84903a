use Rattle.std.proofs.Common.{ap}
use Rattle.qsql_values.specs.Frames.{Frame}
use Rattle.qsql_values.proofs.PlacesLemmas.{frame-selected}
use Rattle.qsql_eval.proofs.laws.rows_are_kept.Goals as goal

pub returns : goal.returns
returns c names columns flags are size = ap (λ (f : Frame). f.rows) (frame-selected names columns flags are size)
