-- The columns of `trade`.
use Rattle.std.proofs.Common.{[], ◌∷◌, ap, refl, slice_get}
use Rattle.q_values.specs.declared.kind.Kind.TheVariants as k
use Rattle.day_rows.specs.Day.{Day, HasColumn}
use Rattle.day_bench.specs.Trades.{HasTrades}

pub has_symbols : (day : Day) → HasTrades day → HasColumn day 1 1 k.Symbol
has_symbols day has = (k.Timespan ∷ k.Symbol ∷ k.Long ∷ k.Long ∷ [], ap (λ kinds. slice_get kinds 1) has, refl)

pub has_prices : (day : Day) → HasTrades day → HasColumn day 1 2 k.Long
has_prices day has = (k.Timespan ∷ k.Symbol ∷ k.Long ∷ k.Long ∷ [], ap (λ kinds. slice_get kinds 1) has, refl)
