use Rattle.std.proofs.Common.{◌≡◌, take}
use Rattle.partition_set.specs.Records.{payloads_of, IsManifest}
use Rattle.partition_set.proofs.reading.read_records.Given as goal

abbrev pub invariant-loop-i : goal.invariant-loop-i
invariant-loop-i l = (payloads_of l.records.items ≡ take l.i l.payloads) × IsManifest l.records.items
