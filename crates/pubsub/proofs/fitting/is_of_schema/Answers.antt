use Rattle.std.proofs.Common.{List, subst, sym}
use Rattle.q_values.specs.Contents.{Contents}
use Rattle.pubsub.specs.Steps.{AreOfTable}
use Rattle.plant_memory.specs.Memory.{IsOfSchema}
use Rattle.pubsub.proofs.TellLemmas.{of_table, from_table}
use Rattle.pubsub.proofs.fitting.is_of_schema.Goals as goal

pub returns-in-Upd : goal.returns-in-Upd
returns-in-Upd c =
    let schema = c.args.schema.now in
    let P : List Contents → Type 0 = λ columns. AreOfTable schema c.in-Upd.table columns in (
      λ h. subst (IsOfSchema schema) (sym c.in-Upd.is) (from_table schema c.in-Upd.by c.in-Upd.table c.in-Upd.columns (subst P c.as_slice.ensures (c.are_of_table.ensures.0 h))),
      λ is. c.are_of_table.ensures.1 (subst P (sym c.as_slice.ensures) (of_table schema c.in-Upd.by c.in-Upd.table c.in-Upd.columns (subst (IsOfSchema schema) c.in-Upd.is is))),
    )
