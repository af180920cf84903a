use Rattle.std.proofs.Common.{◌≡◌, ◌≤◌, length, map, take, vec_len, vec_capacity}
use Rattle.std.specs.List.{list_any}
use Rattle.std.specs.Str.{bytes_eq}
use Rattle.pubsub.proofs.rows.short_marks.Given as goal

abbrev pub invariant-loop-name : goal.invariant-loop-name
invariant-loop-name l = record {
  items : l.marks.items ≡ map (λ name. list_any (bytes_eq name) l.set) (take l.name-index l.names);
  count : vec_len l.marks ≡ l.name-index;
  room : length l.names ≤ vec_capacity l.marks;
}
