use Rattle.q_values.specs.declared.kind.Kind.TheVariants as k
use Rattle.day_bench.proofs.TradeLemmas.{has_symbols}
use Rattle.day_bench.proofs.timed.sort_timed.Goals as goal

pub column-requires : goal.column-requires
column-requires g c = (k.Symbol, has_symbols c.args.day.now.day c.requires)
