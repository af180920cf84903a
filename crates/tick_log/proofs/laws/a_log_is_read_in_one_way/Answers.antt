use Rattle.tick_log.proofs.Replays.{one_entry, one_replay, never_both}
use Rattle.tick_log.proofs.laws.a_log_is_read_in_one_way.Goals as goal

pub returns : goal.returns
returns c = record { entry = one_entry; replay = one_replay; not_both = never_both }
