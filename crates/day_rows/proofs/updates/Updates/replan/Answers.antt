use Rattle.std.proofs.Common.{arith, refl, ap, ap₂, sym, ◌++◌, subst, ◌∙◌, ◌-◌, length, take, get_or, List, flat_map}
use Rattle.std.specs.List.{AllByRecursion}
use Rattle.std.proofs.lemmas.List.Sums.{sum_by-append}
use Rattle.day_rows.specs.Blocks.{Kept, updates_in}
use Rattle.day_rows.specs.Day.{IsUpdate, entry_rows, total_rows}
use Rattle.day_rows.specs.declared.entry.Entry.{Entry}
use Rattle.day_rows.proofs.BlockLemmas.{all-right}
use Rattle.day_rows.proofs.KeptLemmas.{loose-fits, first-all, first-whole, kept-first, kept-grown, length-shown, shown-planned, room-planned, enough-planned}
use Rattle.day_rows.proofs.updates.Updates.replan.Goals as goal

pub first-requires-clause-updates : goal.first-requires-clause-updates
first-requires-clause-updates c =
    let blocks = c.self.inside.store.blocks in
    let last = c.self.inside.store.last in
    let held = c.self.inside.store.held in
    let shown = c.self.inside.shown in
    let room = c.self.inside.room in
    let sealed = c.self.inside.sealed in
    let before = c.self.inside.before in
    let loose = c.self.inside.loose in
    let counts = c.self.inside.counts.items in
    let rows = c.self.inside.rows in
    let mine = subst (λ (k : Kept). AllByRecursion (IsUpdate c.args.kinds.now) k.updates) (sym c.self.view_is) c.requires.updates in
    all-right (IsUpdate c.args.kinds.now) (flat_map (λ (b : List Entry). b) (take sealed blocks)) (take (shown - before) (get_or blocks sealed last)) (first-all (IsUpdate c.args.kinds.now) blocks last held shown room sealed before loose counts rows c.self.invariant mine)

pub first-requires-clause-bounded : goal.first-requires-clause-bounded
first-requires-clause-bounded c =
    let blocks = c.self.inside.store.blocks in
    let last = c.self.inside.store.last in
    let held = c.self.inside.store.held in
    let shown = c.self.inside.shown in
    let room = c.self.inside.room in
    let sealed = c.self.inside.sealed in
    let before = c.self.inside.before in
    let loose = c.self.inside.loose in
    let counts = c.self.inside.counts.items in
    let rows = c.self.inside.rows in
    let some = take (shown - before) (get_or blocks sealed last) in
    let whole = ap total_rows (first-whole blocks last held shown room sealed before loose counts rows c.self.invariant) in
    let mine = ap (λ (k : Kept). total_rows k.updates) c.self.view_is in
    omega (arith, whole, mine, c.requires.bounded, sum_by-append entry_rows (flat_map (λ (b : List Entry). b) (take sealed blocks)) some)

pub extend-requires-clause-grows : goal.extend-requires-clause-grows
extend-requires-clause-grows c =
    let blocks = c.self.inside.store.blocks in
    let last = c.self.inside.store.last in
    let held = c.self.inside.store.held in
    let shown = c.self.inside.shown in
    let room = c.self.inside.room in
    let sealed = c.self.inside.sealed in
    let before = c.self.inside.before in
    let loose = c.self.inside.loose in
    let counts = c.self.inside.counts.items in
    let rows = c.self.inside.rows in
    omega (arith, ap total_rows c.in_ok-fresh.ensures.last, c.self.invariant.loose_is, loose-fits blocks last held shown room sealed before loose counts rows c.self.invariant)

pub invariant_of-self : goal.invariant_of-self
invariant_of-self c =
    let blocks = c.self.inside.store.blocks in
    let last = c.self.inside.store.last in
    let held = c.self.inside.store.held in
    let shown = c.self.inside.shown in
    let room = c.self.inside.room in
    let sealed = c.self.inside.sealed in
    let before = c.self.inside.before in
    let loose = c.self.inside.loose in
    let counts = c.self.inside.counts.items in
    let rows = c.self.inside.rows in
    let first = kept-first blocks last held shown room sealed before loose counts rows c.self.invariant in
    let own = take (shown - before) (get_or blocks sealed last) in
    let is = c.in_ok-extend.ensures.ok ∙ ap (λ l. l ++ c.args.entries.now) (ap₂ updates_in c.in_ok-fresh.ensures.blocks c.in_ok-fresh.ensures.last ∙ first-whole blocks last held shown room sealed before loose counts rows c.self.invariant) in
    let grew = rw (c.in_ok-fresh.ensures.blocks, c.in_ok-fresh.ensures.last) at c.extend.ensures.grew in
    let enough = enough-planned shown c.extend.new.self.held c.extend.new.self.blocks c.extend.new.self.last (take shown (updates_in blocks last)) c.args.entries.now is (length-shown blocks last held shown room sealed before loose counts rows c.self.invariant) c.extend.ensures.store in
    rw (c.replace.ensures.blocks, c.replace.ensures.last, c.replace.ensures.held) (kept-grown (take sealed blocks) own shown shown 0 sealed before loose counts rows c.extend.new.self.blocks c.extend.new.self.last c.extend.new.self.held (length c.args.entries.now) first refl grew c.extend.ensures.store enough (λ some. c.in_ok-extend.ensures.grows))

pub returns-clause-ok : goal.returns-clause-ok
returns-clause-ok c =
    let blocks = c.self.inside.store.blocks in
    let last = c.self.inside.store.last in
    let held = c.self.inside.store.held in
    let shown = c.self.inside.shown in
    let room = c.self.inside.room in
    let sealed = c.self.inside.sealed in
    let before = c.self.inside.before in
    let loose = c.self.inside.loose in
    let counts = c.self.inside.counts.items in
    let rows = c.self.inside.rows in
    let is = c.in_ok-extend.ensures.ok ∙ ap (λ l. l ++ c.args.entries.now) (ap₂ updates_in c.in_ok-fresh.ensures.blocks c.in_ok-fresh.ensures.last ∙ first-whole blocks last held shown room sealed before loose counts rows c.self.invariant) in
    let was = take shown (updates_in blocks last) in
    let whole = updates_in c.extend.new.self.blocks c.extend.new.self.last in
    rw (c.replace.ensures.blocks, c.replace.ensures.last, ← c.self.view_is, shown-planned shown whole was c.args.entries.now is (length-shown blocks last held shown room sealed before loose counts rows c.self.invariant), room-planned shown whole was c.args.entries.now is (length-shown blocks last held shown room sealed before loose counts rows c.self.invariant)) refl
