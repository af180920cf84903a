use Rattle.std.proofs.Common.{arith, ap, sym, subst, ◌∙◌, drop}
use Rattle.std.specs.List.{AllByRecursion}
use Rattle.day_rows.specs.Blocks.{Kept}
use Rattle.day_rows.specs.Day.{IsUpdate, total_rows}
use Rattle.day_rows.proofs.KeptLemmas.{first-all, first-whole}
use Rattle.day_rows.proofs.updates.Updates.entries.Goals as goal

pub entries-requires-clause-updates : goal.entries-requires-clause-updates
entries-requires-clause-updates c =
    let blocks = c.self.inside.store.blocks in
    let last = c.self.inside.store.last in
    let held = c.self.inside.store.held in
    let shown = c.self.inside.shown in
    let room = c.self.inside.room in
    let sealed = c.self.inside.sealed in
    let before = c.self.inside.before in
    let loose = c.self.inside.loose in
    let counts = c.self.inside.counts.items in
    let rows = c.self.inside.rows in
    let mine = subst (λ (k : Kept). AllByRecursion (IsUpdate c.args.kinds.now) k.updates) (sym c.self.view_is) c.requires.updates in
    first-all (IsUpdate c.args.kinds.now) blocks last held shown room sealed before loose counts rows c.self.invariant mine

pub entries-requires-clause-bounded : goal.entries-requires-clause-bounded
entries-requires-clause-bounded c =
    let blocks = c.self.inside.store.blocks in
    let last = c.self.inside.store.last in
    let held = c.self.inside.store.held in
    let shown = c.self.inside.shown in
    let room = c.self.inside.room in
    let sealed = c.self.inside.sealed in
    let before = c.self.inside.before in
    let loose = c.self.inside.loose in
    let counts = c.self.inside.counts.items in
    let rows = c.self.inside.rows in
    omega (arith, ap total_rows (first-whole blocks last held shown room sealed before loose counts rows c.self.invariant), ap (λ (k : Kept). total_rows k.updates) c.self.view_is, c.requires.bounded)

pub returns : goal.returns
returns c =
    let blocks = c.self.inside.store.blocks in
    let last = c.self.inside.store.last in
    let held = c.self.inside.store.held in
    let shown = c.self.inside.shown in
    let room = c.self.inside.room in
    let sealed = c.self.inside.sealed in
    let before = c.self.inside.before in
    let loose = c.self.inside.loose in
    let counts = c.self.inside.counts.items in
    let rows = c.self.inside.rows in
    c.in_ok-found.ensures ∙ ap (drop c.args.from) (first-whole blocks last held shown room sealed before loose counts rows c.self.invariant ∙ ap (λ (k : Kept). k.updates) c.self.view_is)
