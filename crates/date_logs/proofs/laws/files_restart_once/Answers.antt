use Rattle.date_logs.proofs.Once.{restarts-once}
use Rattle.date_logs.proofs.laws.files_restart_once.Goals as goal

pub returns : goal.returns
returns c = restarts-once c.reads_in_one_way.ensures.once c.a_log_is_read_in_one_way.ensures.replay
