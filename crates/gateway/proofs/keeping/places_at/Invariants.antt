use Rattle.std.proofs.Common.{◌≡◌, ◌≤◌, length, take, vec_len, vec_capacity}
use Rattle.q_values.specs.Lists.{gathered}
use Rattle.gateway.proofs.keeping.places_at.Given as goal

abbrev pub invariant-loop-index : goal.invariant-loop-index
invariant-loop-index l = record {
  items : l.found.items ≡ gathered l.places (take l.index-index l.inner);
  count : vec_len l.found ≡ l.index-index;
  room : length l.inner ≤ vec_capacity l.found;
}
