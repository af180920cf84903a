use Rattle.q_values.specs.declared.kind.Kind.TheVariants as k
use Rattle.day_bench.proofs.TradeLemmas.{has_prices}
use Rattle.day_bench.proofs.timed.read_timed.Goals as goal

pub column-requires : goal.column-requires
column-requires g c = (k.Long, has_prices c.args.day.now.day c.requires)
