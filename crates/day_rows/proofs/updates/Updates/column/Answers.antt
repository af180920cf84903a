use Rattle.std.proofs.Common.{ap, ◌∙◌, take, drop}
use Rattle.day_rows.specs.Blocks.{Kept, updates_in}
use Rattle.day_rows.specs.Joined.{joined}
use Rattle.day_rows.proofs.PartLemmas.{part-shown}
use Rattle.day_rows.proofs.updates.Updates.column.Goals as goal

pub returns : goal.returns
returns c =
    let whole = updates_in c.self.inside.store.blocks c.self.inside.store.last in
    let within = rw (← c.self.view_is) at c.requires in
    c.in_ok-found.ensures
    ∙ ap (λ a. record { kind = c.args.kind; atoms = a }) (part-shown c.args.table c.args.column c.args.n c.args.from c.self.inside.shown whole within)
    ∙ ap (λ (k : Kept). record { kind = c.args.kind; atoms = take c.args.n (drop c.args.from (joined c.args.table c.args.column k.updates)) }) c.self.view_is
