use Rattle.partition_set.proofs.LawLemmas.{never-both}
use Rattle.partition_set.proofs.laws.manifest_is_not_damaged.Goals as goal

pub returns : goal.returns
returns c = never-both c.written_spells.ensures c.reads_in_one_way.ensures.once c.reads_in_one_way.ensures.not_both
