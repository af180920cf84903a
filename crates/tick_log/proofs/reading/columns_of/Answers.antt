use Rattle.std.proofs.Common.{◌≡◌, true, subst, sym}
use Rattle.tick_log.specs.Chunk.{AreLoggable}
use Rattle.tick_log.proofs.Steps.{not_loggable}
use Rattle.tick_log.proofs.reading.columns_of.Goals as goal

pub returns-then-not-are_loggable-clause-none : goal.returns-then-not-are_loggable-clause-none
returns-then-not-are_loggable-clause-none c =
    not_loggable c.args.kinds.now c.args.bytes.now c.in-Some.rest.now c.in_ok-columns.columns c.in-Some.ensures.some c.in_ok-columns.ensures.found
    (λ all. let yes : c.are_loggable.result ≡ true = c.are_loggable.ensures.1 (subst (AreLoggable c.args.kinds.now) (sym c.as_slice.ensures) all) in absurd cc)
