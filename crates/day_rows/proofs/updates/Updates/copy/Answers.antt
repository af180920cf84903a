use Rattle.std.proofs.Common.{arith, refl, ap, sym, subst, ◌≡◌, ◌+◌, ◌-◌, take, get_or, List, flat_map}
use Rattle.std.specs.List.{AllByRecursion}
use Rattle.std.proofs.lemmas.List.Sums.{sum_by-append}
use Rattle.day_rows.specs.Blocks.{Kept, updates_in}
use Rattle.day_rows.specs.Day.{IsUpdate, entry_rows, total_rows}
use Rattle.day_rows.specs.declared.entry.Entry.{Entry}
use Rattle.day_rows.proofs.BlockLemmas.{all-right}
use Rattle.day_rows.proofs.KeptLemmas.{first-all, first-whole, kept-first, take-twice}
use Rattle.day_rows.proofs.updates.Updates.copy.Goals as goal

pub first-requires-clause-updates : goal.first-requires-clause-updates
first-requires-clause-updates c =
    let blocks = c.self.inside.store.blocks in
    let last = c.self.inside.store.last in
    let held = c.self.inside.store.held in
    let shown = c.self.inside.shown in
    let room = c.self.inside.room in
    let sealed = c.self.inside.sealed in
    let before = c.self.inside.before in
    let loose = c.self.inside.loose in
    let counts = c.self.inside.counts.items in
    let rows = c.self.inside.rows in
    let mine = subst (λ (k : Kept). AllByRecursion (IsUpdate c.args.kinds.now) k.updates) (sym c.self.view_is) c.requires.updates in
    all-right (IsUpdate c.args.kinds.now) (flat_map (λ (b : List Entry). b) (take sealed blocks)) (take (shown - before) (get_or blocks sealed last)) (first-all (IsUpdate c.args.kinds.now) blocks last held shown room sealed before loose counts rows c.self.invariant mine)

pub first-requires-clause-bounded : goal.first-requires-clause-bounded
first-requires-clause-bounded c =
    let blocks = c.self.inside.store.blocks in
    let last = c.self.inside.store.last in
    let held = c.self.inside.store.held in
    let shown = c.self.inside.shown in
    let room = c.self.inside.room in
    let sealed = c.self.inside.sealed in
    let before = c.self.inside.before in
    let loose = c.self.inside.loose in
    let counts = c.self.inside.counts.items in
    let rows = c.self.inside.rows in
    let some = take (shown - before) (get_or blocks sealed last) in
    let whole = ap total_rows (first-whole blocks last held shown room sealed before loose counts rows c.self.invariant) in
    let mine = ap (λ (k : Kept). total_rows k.updates) c.self.view_is in
    omega (arith, whole, mine, c.requires.bounded, sum_by-append entry_rows (flat_map (λ (b : List Entry). b) (take sealed blocks)) some)

pub invariant_of-result : goal.invariant_of-result
invariant_of-result c =
    let blocks = c.self.inside.store.blocks in
    let last = c.self.inside.store.last in
    let held = c.self.inside.store.held in
    let shown = c.self.inside.shown in
    let room = c.self.inside.room in
    let sealed = c.self.inside.sealed in
    let before = c.self.inside.before in
    let loose = c.self.inside.loose in
    let counts = c.self.inside.counts.items in
    let rows = c.self.inside.rows in
    let size : before + (shown - before) ≡ shown = omega (arith, c.self.invariant.place.before_within) in
    rw (c.in_ok-store.ensures.blocks, c.in_ok-store.ensures.last, c.in_ok-store.ensures.held, size, c.in_ok-counts.ensures.items, c.deref.ensures.value) (kept-first blocks last held shown room sealed before loose counts rows c.self.invariant)

pub returns : goal.returns
returns c =
    let blocks = c.self.inside.store.blocks in
    let last = c.self.inside.store.last in
    let held = c.self.inside.store.held in
    let shown = c.self.inside.shown in
    let room = c.self.inside.room in
    let sealed = c.self.inside.sealed in
    let before = c.self.inside.before in
    let loose = c.self.inside.loose in
    let counts = c.self.inside.counts.items in
    let rows = c.self.inside.rows in
    let own = first-whole blocks last held shown room sealed before loose counts rows c.self.invariant in
    rw (c.in_ok-store.ensures.blocks, c.in_ok-store.ensures.last, c.in_ok-counts.ensures.items, c.deref.ensures.value, own, take-twice shown (updates_in blocks last), ← c.self.view_is) refl
