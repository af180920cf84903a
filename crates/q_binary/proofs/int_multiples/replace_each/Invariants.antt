use Rattle.std.proofs.Common.{◌≡◌, pos, length, take, drop, map}
use Rattle.q_binary.specs.Computed.{int_multiple}
use Rattle.q_binary.proofs.int_multiples.replace_each.Given as goal

abbrev pub invariant-loop-item : goal.invariant-loop-item
invariant-loop-item l = record {
  done : take l.item-index l.items ≡ map (int_multiple (pos l.rule.width)) (take l.item-index l.fn.items);
  left : drop l.item-index l.items ≡ drop l.item-index l.fn.items;
  same : length l.items ≡ length l.fn.items;
}
