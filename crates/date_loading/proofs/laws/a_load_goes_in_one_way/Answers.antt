use Rattle.date_loading.proofs.LawLemmas.{one-manifest, one-difference, no-difference, never-damaged}
use Rattle.date_loading.proofs.laws.a_load_goes_in_one_way.Goals as goal

pub returns-clause-manifest : goal.returns-clause-manifest
returns-clause-manifest c = one-manifest c.written_spells.ensures c.reads_in_one_way.ensures.once

pub returns-clause-difference : goal.returns-clause-difference
returns-clause-difference c = one-difference

pub returns-clause-none : goal.returns-clause-none
returns-clause-none c = no-difference

pub returns-clause-log : goal.returns-clause-log
returns-clause-log c = never-damaged c.reads_in_one_way.ensures.once c.reads_in_one_way.ensures.not_both c.a_log_is_read_in_one_way.ensures.not_both
