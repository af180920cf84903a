use Rattle.std.proofs.Common.{◌≡◌, length, take, min, All}
use Rattle.std.specs.List.{sum_by}
use Rattle.q_values.specs.Bytes.{HasNoNul}
use Rattle.q_values.proofs.short.bytes_in.Given as goal

abbrev pub invariant-loop-symbol : goal.invariant-loop-symbol
invariant-loop-symbol l = record {
  total : l.total ≡ min (sum_by length (take l.symbol-index l.symbols)) 18446744073709551615;
  no_nul : All HasNoNul (take l.symbol-index l.symbols);
}
