use Rattle.std.proofs.Common.{ap, rules}
use Rattle.plant_memory.specs.Memory.{MemoryView}
use Rattle.plant_memory.proofs.MemoryLemmas.{follows-rolled}
use Rattle.gateway_cases.proofs.plants.log_prepared.Goals as goal

pub commit-place-requires-2-clause-follows : goal.commit-place-requires-2-clause-follows
commit-place-requires-2-clause-follows g c =
    follows-rolled c.args.update c.prepare_roll.new.self.entries c.commit_roll-rolled.new.self.entries c.expect-roll.result.by c.expect-roll.result.date (search rules) (search rules)
    (ap (λ (m : MemoryView). m.entries) c.commit_roll-rolled.ensures.after) (search rules) (search rules)
