use Rattle.std.proofs.Common.{rules, ◌≡◌, ◌-◌, ◌++◌, List, length, map, drop, take, arith, subst, ap, ◌∙◌, w32, to_z, of_z}
use Rattle.std.proofs.lemmas.List.{take_all, length-drop}
use Rattle.day_rows.specs.declared.entry.Entry.{Entry}
use Rattle.pubsub.specs.Steps.{IsBatch}
use Rattle.pubsub.specs.Told.{publication, batch_told}
use Rattle.pubsub.proofs.BatchLemmas.{batch_more, roll_more}
use Rattle.pubsub.proofs.batches.tell_batches.Goals as goal

pub loop-from-preserved-then-is_roll : goal.loop-from-preserved-then-is_roll
loop-from-preserved-then-is_roll c =
    let same : to_z w32 (of_z w32 c.in_ok-day.day) ≡ c.in_ok-day.day = search rules in
    record {
      so_far = roll_more c.args.subscription.now (to_z w32 (of_z w32 c.args.date)) (to_z w32 c.loop-from.day-bits) (to_z w32 (of_z w32 c.in_ok-day.day)) c.args.entries.now c.loop-from.from c.index-entries-from.result
          (map publication c.loop-from.messages.items) (map publication c.tell_one.new.messages.items) c.loop-from-test.true c.index-entries-from.is c.if-is_roll.ensures.roll
          c.loop-from.invariant.so_far c.in_ok-day.ensures.told (same ∙ c.in_ok-day.ensures.date);
      within = omega (arith, c.loop-from-test.true);
    }

pub loop-from-preserved : goal.loop-from-preserved
loop-from-preserved c =
    let entries = c.args.entries.now in
    let from = c.loop-from.from in
    let rest : take (length entries - from) (drop from entries) ≡ drop from entries = take_all (length entries - from) (drop from entries) (omega (arith, length-drop from entries)) in
    let n = c.batch_len-n.result in
    record {
      so_far = batch_more c.args.subscription.now (to_z w32 (of_z w32 c.args.date)) (to_z w32 c.loop-from.day-bits) entries from n
          (map publication c.loop-from.messages.items) (map publication c.tell_batch.new.messages.items)
          (subst (λ (es : List Entry). IsBatch es n) rest c.batch_len-n.ensures.batch) c.loop-from.invariant.so_far
          (c.in_ok-tell_batch.ensures ∙ ap (λ (es : List Entry). map publication c.loop-from.messages.items ++ batch_told c.args.subscription.now (take n es)) rest);
      within = omega (arith, c.loop-from-test.true, c.batch_len-n.ensures.within, ap length rest, length-drop from entries);
    }
