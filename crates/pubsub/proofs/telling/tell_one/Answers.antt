use Rattle.std.proofs.Common.{List, subst, sym}
use Rattle.q_values.specs.Contents.{Contents}
use Rattle.pubsub.specs.Steps.{AreOfTable}
use Rattle.plant_memory.specs.Memory.{IsOfSchema}
use Rattle.pubsub.proofs.TellLemmas.{of_table}
use Rattle.pubsub.proofs.telling.tell_one.Goals as goal

pub tell_update-requires-clause-columns : goal.tell_update-requires-clause-columns
tell_update-requires-clause-columns c =
    let schema = c.args.schema.now in
    subst (λ (columns : List Contents). AreOfTable schema c.in-Upd.table columns) (sym c.as_slice-columns.ensures)
    (of_table schema c.in-Upd.by c.in-Upd.table c.in-Upd.columns (subst (IsOfSchema schema) c.in-Upd.is c.requires.update))
