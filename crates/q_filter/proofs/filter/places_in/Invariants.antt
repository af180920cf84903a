use Rattle.std.proofs.Common.{◌≡◌, ◌+◌, length, take}
use Rattle.q_filter.specs.Places.{count_of, places_from}
use Rattle.q_filter.proofs.filter.places_in.Given as goal

abbrev pub invariant-loop-i : goal.invariant-loop-i
invariant-loop-i l = record {
  kept : l.kept ≡ count_of (take l.i l.bits);
  places : take l.kept l.places.items ≡ places_from 0 (take l.i l.bits);
  size : length l.places.items ≡ count_of l.bits + 1;
}
