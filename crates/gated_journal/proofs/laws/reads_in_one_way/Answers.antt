use Rattle.gated_journal.proofs.Unique.{once, not_both, corrupt_once}
use Rattle.gated_journal.proofs.laws.reads_in_one_way.Goals as goal

pub returns-clause-once : goal.returns-clause-once
returns-clause-once c = once

pub returns-clause-not_both : goal.returns-clause-not_both
returns-clause-not_both c = not_both

pub returns-clause-corrupt_once : goal.returns-clause-corrupt_once
returns-clause-corrupt_once c = corrupt_once
