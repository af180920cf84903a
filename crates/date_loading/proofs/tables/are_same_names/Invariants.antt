use Rattle.std.proofs.Common.{◌≡◌, take}
use Rattle.date_loading.proofs.tables.are_same_names.Given as goal

abbrev pub invariant-loop-i : goal.invariant-loop-i
invariant-loop-i l = take l.i l.some ≡ take l.i l.other
