use Rattle.std.proofs.Common.{rules, ◌≡◌, arith, ap, ◌∙◌, ◌-◌, ℕ, w32, to_z, of_z}
use Rattle.plant_memory.specs.Chronicle.{date_at}
use Rattle.gateway.proofs.ColumnLemmas.{some_dates, open_date}
use Rattle.gateway.proofs.answering.open_date.Goals as goal

pub overflow_sub-last : goal.overflow_sub-last
overflow_sub-last c = omega (arith, c.dates-last.ensures.count, some_dates c.args.snapshot.now.frame.first c.args.snapshot.now.entries)

pub date_at-requires : goal.date_at-requires
date_at-requires c = omega (arith, c.dates-last.ensures.count, some_dates c.args.snapshot.now.frame.first c.args.snapshot.now.entries)

pub returns : goal.returns
returns c =
    let first = c.args.snapshot.now.frame.first in
    let entries = c.args.snapshot.now.entries in
    let date : to_z w32 (of_z w32 c.date_at.result) ≡ c.date_at.result = search rules in
    date ∙ c.date_at.ensures ∙ ap (λ (n : ℕ). date_at first entries (n - 1)) c.dates-last.ensures.count ∙ open_date first entries
