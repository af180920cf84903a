use Rattle.std.proofs.Common.{ℤ, map, ap, ◌∙◌, w32, to_z, of_z, rules, ◌≡◌}
use Rattle.std.proofs.lemmas.Int.{to_z-of_z}
use Rattle.pubsub.specs.Told.{publication, told_each}
use Rattle.pubsub.proofs.TellLemmas.{told_more, told_all}
use Rattle.pubsub.proofs.telling.tell_each.Goals as goal

pub loop-entry-preserved : goal.loop-entry-preserved
loop-entry-preserved c =
    let same : to_z w32 (of_z w32 c.in_ok-open.open) ≡ c.in_ok-open.open = search rules in
    told_more c.args.subscription.now (to_z w32 (of_z w32 c.args.date)) (to_z w32 c.loop-entry.open-bits) (to_z w32 (of_z w32 c.in_ok-open.open)) c.args.entries.now c.loop-entry.entry-index c.entry-item.result
    (map publication c.loop-entry.messages.items) (map publication c.tell_one.new.messages.items) c.loop-entry-test.true c.entry-item.is c.loop-entry.invariant c.in_ok-open.ensures.told (same ∙ c.in_ok-open.ensures.date)

pub returns : goal.returns
returns c =
    told_all c.args.subscription.now (to_z w32 (of_z w32 c.args.date)) (to_z w32 c.loop-entry.open-bits) c.args.entries.now c.loop-entry.entry-index (map publication c.loop-entry.messages.items) c.loop-entry-test.false c.loop-entry.invariant
    ∙ ap (λ (d : ℤ). told_each c.args.subscription.now d c.args.entries.now) (to_z-of_z w32 c.args.date c.ranges.date)
