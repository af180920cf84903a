use Rattle.std.proofs.Common.{◌≡◌, ◌≤◌, length, map, take, vec_len, vec_capacity}
use Rattle.std.specs.List.{list_any}
use Rattle.std.specs.Str.{bytes_eq}
use Rattle.pubsub.proofs.rows.long_marks.Given as goal

abbrev pub invariant-loop-i : goal.invariant-loop-i
invariant-loop-i l = record {
  items : l.marks.items ≡ map (λ name. list_any (bytes_eq name) l.set) (take l.i l.names);
  count : vec_len l.marks ≡ l.i;
  room : length l.names ≤ vec_capacity l.marks;
}
