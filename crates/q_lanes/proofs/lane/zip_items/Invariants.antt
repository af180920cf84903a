use Rattle.std.proofs.Common.{◌≡◌, ◌+◌, ◌-◌, ◌≤◌, take, vec_len, vec_capacity}
use Rattle.std.specs.Simd.Lanes.{zip2}
use Rattle.q_lanes.proofs.lane.zip_items.Given as goal

abbrev pub invariant-loop-results : goal.invariant-loop-results
invariant-loop-results g l = record {
  items : l.values.items ≡ take l.done (zip2 g.S.Step.value (g.L.Items.list l.left) (g.R.Items.list l.right));
  count : vec_len l.values ≡ l.done;
  within : l.done ≤ l.count;
  room : l.count ≤ vec_capacity l.values;
}

abbrev pub decreases-loop-results : goal.decreases-loop-results
decreases-loop-results g l = l.count - l.done

abbrev pub invariant-loop-k : goal.invariant-loop-k
invariant-loop-k g l = record {
  items : l.values.items ≡ take (l.done + l.k) (zip2 g.S.Step.value (g.L.Items.list l.left) (g.R.Items.list l.right));
  count : vec_len l.values ≡ l.done + l.k;
  within : l.done + 16 ≤ l.count;
  room : l.count ≤ vec_capacity l.values;
}

abbrev pub invariant-loop-i : goal.invariant-loop-i
invariant-loop-i g l = record {
  items : l.values.items ≡ take l.i (zip2 g.S.Step.value (g.L.Items.list l.left) (g.R.Items.list l.right));
  count : vec_len l.values ≡ l.i;
  room : l.count ≤ vec_capacity l.values;
}
