use Rattle.std.proofs.Common.{◌≡◌, ℕ, ◌≤◌, ◌&&◌, Bool, false, length, take, get_or}
use Rattle.std.specs.Simd.Lanes.{zip2}
use Rattle.qsql_values.proofs.joining.keep_both.Given as goal

abbrev pub invariant-loop-i : goal.invariant-loop-i
invariant-loop-i l = record {
  len : length l.flags ≡ length l.others;
  done : take l.i l.flags ≡ zip2 (λ (x y : Bool). x && y) (take l.i l.initial.flags) (take l.i l.others);
  rest : (k : ℕ) → l.i ≤ k → get_or l.flags k false ≡ get_or l.initial.flags k false;
}
