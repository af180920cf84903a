use Rattle.plant_laws.proofs.CauseLemmas.{no-cause, one-cause}
use Rattle.plant_laws.proofs.a_load_ends_in_one_way.Goals as goal

pub returns-clause-none : goal.returns-clause-none
returns-clause-none c =
    no-cause c.files_restart_once.ensures c.a_load_goes_in_one_way.ensures.manifest c.a_load_goes_in_one_way.ensures.difference c.a_load_goes_in_one_way.ensures.none c.a_load_goes_in_one_way.ensures.log c.manifest_is_not_damaged.ensures

pub returns-clause-one : goal.returns-clause-one
returns-clause-one c =
    one-cause c.files_restart_once.ensures c.a_load_goes_in_one_way.ensures.manifest c.a_load_goes_in_one_way.ensures.difference c.a_load_goes_in_one_way.ensures.none c.a_load_goes_in_one_way.ensures.log c.manifest_is_not_damaged.ensures
