use Rattle.std.proofs.Common.{◌≡◌, take, true}
use Rattle.std.specs.List.{AllByRecursion}
use Rattle.day_rows.specs.Schema.{is_word}
use Rattle.partition_set.proofs.shapes.are_word_bytes.Given as goal

abbrev pub invariant-loop-byte : goal.invariant-loop-byte
invariant-loop-byte l = AllByRecursion (λ b. is_word b ≡ true) (take l.byte-index l.bytes)
