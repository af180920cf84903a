use Rattle.std.proofs.Common.{rules, ◌≡◌, ◌<◌, arith, ◌∙◌, length, w32, to_z, of_z}
use Rattle.plant_memory.specs.Chronicle.{dates_of}
use Rattle.qsql_request.specs.Views.{query_of}
use Rattle.gateway.proofs.KeptLemmas.{kept_next, kept_all, within_next}
use Rattle.gateway.proofs.dates.kept_dates.Goals as goal

pub loop-k-preserved : goal.loop-k-preserved
loop-k-preserved c =
    let first = c.args.snapshot.now.frame.first in
    let entries = c.args.snapshot.now.entries in
    let phrases = (query_of c.args.typed.now.query.now).phrases in
    let date : to_z w32 (of_z w32 c.date_at-date.result) ≡ c.date_at-date.result = search rules in
    let here : c.loop-k.k < length (dates_of first entries) = omega (arith, c.loop-k-test.true, c.dates-k-end.ensures.count) in
    record {
      kept = kept_next phrases first entries c.loop-k.k c.date_at-date.result c.loop-k.dates.items c.push_date.new.dates.items c.in_ok-is_kept.is_kept c.loop-k.invariant.kept c.date_at-date.ensures (rw date at c.in_ok-is_kept.ensures) c.in_ok-push_date.ensures;
      within = within_next (length (dates_of first entries)) c.loop-k.k c.loop-k.dates.items c.push_date.new.dates.items c.in_ok-is_kept.is_kept c.loop-k.invariant.within here c.in_ok-push_date.ensures;
    }

pub returns-clause-dates : goal.returns-clause-dates
returns-clause-dates c =
    let first = c.args.snapshot.now.frame.first in
    let entries = c.args.snapshot.now.entries in
    let all : c.loop-k.k ≡ length (dates_of first entries) = omega (arith, c.loop-k-test.false, c.loop-k.auto.k-end, c.dates-k-end.ensures.count) in
    c.loop-k.invariant.kept ∙ kept_all (query_of c.args.typed.now.query.now).phrases first entries c.loop-k.k all
