use Rattle.schema_text.proofs.Shapes.{growing-push}
use Rattle.schema_text.proofs.columns.read_column.Goals as goal

pub returns-clause-lawful : goal.returns-clause-lawful
returns-clause-lawful c =
    rw (c.in_ok-push.ensures.ok, c.in_ok-push-2.ensures.ok)
    (growing-push c.args.shape c.in_ok-name.name c.in_ok-kind.kind c.requires.growing c.in_ok-name.ensures.lawful (rw c.as_slice.ensures at c.in_ok-name.ensures.fresh) (rw c.as_slice.ensures at c.in_ok-name.ensures.few) c.in_ok-kind.ensures.lawful)
