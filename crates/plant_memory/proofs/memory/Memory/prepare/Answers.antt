use Rattle.std.proofs.Common.{rules, ap}
use Rattle.plant_memory.specs.Memory.{PreparedView}
use Rattle.plant_memory.proofs.memory.Memory.prepare.Goals as goal

pub returns-clause-ok : goal.returns-clause-ok
returns-clause-ok c = record {
  accepted = search rules;
  frame = ap (λ (p : PreparedView). p.frame) c.in_ok-make_room.ensures.ok;
  entries = ap (λ (p : PreparedView). p.entries) c.in_ok-make_room.ensures.ok;
  own = ap (λ (p : PreparedView). p.by) c.in_ok-make_room.ensures.ok;
  early = search rules;
  after = search rules;
}
