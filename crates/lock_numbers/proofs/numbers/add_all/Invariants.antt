use Rattle.std.proofs.Common.{◌≡◌, ◌+◌, length, IsTrue}
use mathlib.Core.List.{IsPrefix}
use Rattle.lock_numbers.proofs.numbers.add_all.Given as goal

abbrev pub invariant-loop-number : goal.invariant-loop-number
invariant-loop-number g l =
    (l.pass.lock ≡ l.initial.pass.lock) × (l.pass.number ≡ l.initial.pass.number) × IsPrefix l.initial.pass.seen l.pass.seen × (IsTrue l.all → length l.pass.mine ≡ length l.initial.pass.mine + l.number)
