use Rattle.std.proofs.Common.{ap, ◌∙◌, List, take, drop}
use Rattle.std.specs.List.{flat_map}
use Rattle.day_rows.specs.Joined.{joined}
use Rattle.day_rows.specs.declared.entry.Entry.{Entry}
use Rattle.day_rows.proofs.store.Store.column.Goals as goal

pub returns : goal.returns
returns c =
    let same = ap (flat_map (λ block. block.now)) c.deref.ensures.value ∙ c.in_ok-blocks.ensures in
    c.in_ok-found.ensures ∙ ap (λ (l : List Entry). record { kind = c.args.kind; atoms = take c.args.n (drop c.args.from (joined c.args.table c.args.column l)) }) same
