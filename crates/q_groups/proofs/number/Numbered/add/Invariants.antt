use Rattle.std.proofs.Common.{◌≡◌, ◌+◌, ◌-◌, ◌≤◌, ◌++◌, List, length, take, vec_len, vec_capacity}
use Rattle.indexmap.specs.IndexSet.{IsUnique}
use Rattle.q_groups.specs.Groups.{IsNumbered}
use Rattle.q_groups.proofs.number.Numbered.add.Given as goal

abbrev pub invariant-loop-item : goal.invariant-loop-item
invariant-loop-item g l = record {
  unique : IsUnique g.T.PartialEq.eq l.self.values;
  room : vec_len l.self.codes + (length l.items - l.item-index) ≤ vec_capacity l.self.codes;
  numbered : (xs : List g.row.T.Denot) → IsNumbered g.T.PartialEq.eq xs l.fn.self.values.keys l.fn.self.codes.items l.fn.self.firsts.items
      → IsNumbered g.T.PartialEq.eq (xs ++ take l.item-index l.items) l.self.values.keys l.self.codes.items l.self.firsts.items;
}
