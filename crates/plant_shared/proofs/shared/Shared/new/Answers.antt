use Rattle.std.proofs.Common.{refl}
use Rattle.plant_shared.proofs.PassLemmas.{latest_fresh}
use Rattle.plant_shared.proofs.shared.Shared.new.Goals as goal

pub invariant_of-result : goal.invariant_of-result
invariant_of-result g c = (
  record {
    told = c.args.pass;
    kept = refl;
    pass_is = record { of_lock = c.requires.lock; few = c.requires.few; own_is = c.requires.own };
    latest_is = latest_fresh c.args.pass c.requires.own c.requires.fresh;
    schema_is = c.requires.schema;
  },
  c.number.ensures.number,
)
