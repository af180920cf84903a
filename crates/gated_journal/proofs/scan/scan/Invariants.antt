use Rattle.std.proofs.Common.{◌≡◌, ◌<◌, ◌-◌, ◌++◌, length, drop}
use Rattle.std.specs.List.{AllByRecursion}
use Rattle.gated_journal.specs.Format.{before_gate, IsPayload}
use Rattle.gated_journal.specs.Records.{payloads_in, AreInside, FollowOn, gate_after}
use Rattle.gated_journal.proofs.scan.scan.Given as goal

abbrev pub invariant-loop-at : goal.invariant-loop-at
invariant-loop-at l = record {
  within : l.at < length l.bytes;
  split : l.bytes ≡ before_gate (payloads_in l.bytes l.spans.items) ++ drop l.at l.bytes;
  place : l.at ≡ length (before_gate (payloads_in l.bytes l.spans.items));
  sized : AllByRecursion IsPayload (payloads_in l.bytes l.spans.items);
  inside : AreInside (length l.bytes) l.spans.items;
  follow : FollowOn 8 l.spans.items;
  after : l.at ≡ gate_after 8 l.spans.items;
}

abbrev pub decreases-loop-at : goal.decreases-loop-at
decreases-loop-at l = length l.bytes - l.at
