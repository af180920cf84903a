use Rattle.q_values.specs.declared.kind.Kind.TheVariants as k
use Rattle.day_bench.proofs.TradeLemmas.{has_prices}
use Rattle.day_bench.proofs.timed.ended_timed.Goals as goal

pub ended_column-requires : goal.ended_column-requires
ended_column-requires g c = (k.Long, has_prices c.args.ended.now c.requires)
