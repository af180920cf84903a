use Rattle.plant_memory.proofs.JudgeLemmas.{over_limit}
use Rattle.plant_memory.proofs.judge.is_long_record.Goals as goal

pub returns : goal.returns
returns c = over_limit _ _ _ c.requires.chunk (c.chunk_length.ensures.value 0)
