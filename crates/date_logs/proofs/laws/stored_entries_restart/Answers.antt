use Rattle.date_logs.proofs.Storing.{restarts-from}
use Rattle.date_logs.proofs.laws.stored_entries_restart.Goals as goal

pub returns : goal.returns
returns c = λ disk logs schema first entries late tells stores. restarts-from disk.now logs schema first entries late (stores tells)
