use Rattle.std.proofs.Common.{◌≡◌, rules, pos, w32, to_z, of_z}
use Rattle.std.specs.Prelude.{◌+ℤ◌}
use Rattle.plant_core.proofs.PlantLemmas.{next-last}
use Rattle.plant_core.proofs.plant.next_date.Goals as goal

pub returns-clause-last : goal.returns-clause-last
returns-clause-last c =
    let same : to_z w32 (of_z w32 (to_z w32 (of_z w32 c.args.date) +ℤ pos 1)) ≡ c.args.date +ℤ pos 1 = search rules in
    rw same (next-last c.args.date c.requires)
