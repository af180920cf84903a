use Rattle.std.proofs.Common.{◌≡◌, ◌∙◌, ◌+◌, ◌<◌, ◌++◌, ap, sym, arith, List, length, take, drop, get_or}
use Rattle.std.specs.List.{flat_map}
use Rattle.std.proofs.lemmas.List.{get_or_default}
use Rattle.std.proofs.Math.Seq.{take-length}
use Rattle.plant_memory.specs.Chronicle.{today}
use Rattle.plant_memory.specs.Faults.{woven}
use Rattle.plant_memory.specs.History.{HistoryView, Past, entries_of}
use Rattle.plant_memory.proofs.HistoryLemmas.{after_roll-chronicle, length-chronicle, today-chronicle}
use Rattle.plant_memory.proofs.TailLemmas.{chronicle-dropped, dated-more, length-dated, length-ended}
use Rattle.plant_memory.proofs.history.History.entries_from.Goals as goal

pub date_with-first-requires : goal.date_with-first-requires
date_with-first-requires c =
    c.self.invariant.opened_is ∙ after_roll-chronicle _ _ _ _ c.self.inside.faults.marks c.self.invariant.follow ∙ length-ended c.self.inside.ended.items
    ∙ ap (λ (l : List Past). length (flat_map entries_of l)) (sym c.deref.ensures.value)

pub loop-date-preserved : goal.loop-date-preserved
loop-date-preserved c =
    let pasts = c.self.inside.ended.items in
    let i = c.loop-date.date in
    let past = c.index.result.now in
    let now = c.loop-date.invariant in
    let i_in : i < length pasts = omega (arith, c.loop-date-test.true, c.len-date-end.ensures, c.self.inside.ended.ok) in
    record {
      so_far = c.in_ok-add_entries.ensures ∙ (λ j. now.so_far j ++ drop (now.skip j) (entries_of past)) ∙ sym (dated-more pasts i c.args.from past i_in c.index.ensures);
      skip = omega (arith, now.within i_in);
      within = λ more. omega (arith, now.within i_in, length-dated pasts (i + 1) (get_or pasts (i + 1) past) more (get_or_default pasts (i + 1) past (get_or pasts (i + 1) past) more));
    }

pub add_today-requires : goal.add_today-requires
add_today-requires c =
    let pasts = c.self.inside.ended.items in
    let current = woven c.self.inside.faults.marks c.self.inside.current.day.updates in
    let own : today c.args.self.now.entries ≡ current = rw (← c.self.view_is) (today-chronicle _ _ _ _ c.self.inside.faults.marks c.self.invariant.follow) in
    let size = ap (λ (h : HistoryView). length h.entries) c.self.view_is in
    let done : c.loop-date.date ≡ length pasts = omega (arith, c.loop-date-test.false, c.loop-date.auto.date-end, c.len-date-end.ensures, c.self.inside.ended.ok, c.date_with-first.ensures.date, ap length c.deref.ensures.value) in
    let all : length (flat_map entries_of (take c.loop-date.date pasts)) ≡ length (flat_map entries_of pasts) = ap (λ n. length (flat_map entries_of (take n pasts))) done ∙ ap (λ (l : List Past). length (flat_map entries_of l)) (take-length pasts) in
    omega (arith, c.loop-date.invariant.skip, all, length-ended pasts, length-chronicle pasts current, size, ap length own, c.requires)

pub returns : goal.returns
returns c =
    let pasts = c.self.inside.ended.items in
    let current = woven c.self.inside.faults.marks c.self.inside.current.day.updates in
    let own : today c.args.self.now.entries ≡ current = rw (← c.self.view_is) (today-chronicle _ _ _ _ c.self.inside.faults.marks c.self.invariant.follow) in
    let now = c.loop-date.invariant in
    let done : c.loop-date.date ≡ length pasts = omega (arith, c.loop-date-test.false, c.loop-date.auto.date-end, c.len-date-end.ensures, c.self.inside.ended.ok, c.date_with-first.ensures.date, ap length c.deref.ensures.value) in
    c.in_ok-found.ensures ∙ c.in_ok-add_today.ensures ∙ (λ j. now.so_far j ++ drop (now.skip j) (own j)) ∙ sym (chronicle-dropped pasts current c.loop-date.date c.args.from done) ∙ ap (λ (h : HistoryView). drop c.args.from h.entries) c.self.view_is
