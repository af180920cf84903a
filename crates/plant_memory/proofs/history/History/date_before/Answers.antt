use Rattle.std.proofs.Common.{◌≡◌, ◌∙◌, ◌+◌, ◌<◌, ◌≤◌, List, ap, sym, arith, subst, length, take, get_or, w32, to_z, of_z, rules}
use Rattle.std.specs.List.{flat_map}
use Rattle.plant_memory.specs.History.{Past, entries_of}
use Rattle.plant_memory.proofs.HistoryLemmas.{after_roll-chronicle, dates_of-chronicle}
use Rattle.plant_memory.proofs.ShownLemmas.{length-dates}
use Rattle.plant_memory.proofs.TailLemmas.{length-ended, date_of-before}
use Rattle.plant_memory.proofs.history.History.date_before.Goals as goal

pub date_with-date-requires : goal.date_with-date-requires
date_with-date-requires c =
    c.self.invariant.opened_is ∙ after_roll-chronicle _ _ _ _ c.self.inside.faults.marks c.self.invariant.follow ∙ length-ended c.self.inside.ended.items
    ∙ ap (λ (l : List Past). length (flat_map entries_of l)) (sym c.deref.ensures.value)

pub date_at-requires : goal.date_at-requires
date_at-requires c =
    let size = length-dates _ _ _ _ c.self.inside.faults.marks c.self.invariant.follow in
    rw (← c.self.view_is) (omega (arith, size, c.date_with-date.ensures.date, ap length c.deref.ensures.value))

pub returns : goal.returns
returns c =
    let same : to_z w32 (of_z w32 c.date_at.result) ≡ c.date_at.result = search rules in
    let first = c.self.inside.first in
    let pasts = c.self.inside.ended.items in
    let current = c.self.inside.current.day in
    let marks = c.self.inside.faults.marks in
    let k = c.date_with-date.result.0 in
    let own = c.date_with-date.ensures in
    let date : k ≤ length pasts = omega (arith, own.date, ap length c.deref.ensures.value) in
    let after : length (flat_map entries_of (take k pasts)) ≤ c.args.from = omega (arith, own.after, own.start, ap (λ (l : List Past). length (flat_map entries_of (take k l))) c.deref.ensures.value) in
    let within : k < length pasts → c.args.from < length (flat_map entries_of (take (k + 1) pasts)) = subst (λ (l : List Past). k < length l → c.args.from < length (flat_map entries_of (take (k + 1) l))) c.deref.ensures.value own.within in
    rw (← c.self.view_is) (
    same ∙ (rw (← c.self.view_is) at c.date_at.ensures) ∙ ap (λ ds. get_or ds k first) (dates_of-chronicle _ _ _ _ marks c.self.invariant.follow)
    ∙ sym (date_of-before current.kinds first first pasts current marks k c.args.from c.self.invariant.follow date after within)
    )
