use Rattle.std.proofs.Common.{◌≡◌, take}
use Rattle.date_loading.specs.Manifests.{tables_of}
use Rattle.date_loading.proofs.tables.common_tables.Given as goal

abbrev pub invariant-loop-i : goal.invariant-loop-i
invariant-loop-i l = take l.i (tables_of l.records) ≡ take l.i l.schema
