use Rattle.std.proofs.Common.{◌∙◌, ap}
use Rattle.std.specs.List.{flat_map}
use Rattle.q_values.specs.declared.kind.Kind.{Kind}
use Rattle.std.proofs.Common.{List}
use Rattle.pubsub.specs.Parts.{part_lines}
use Rattle.pubsub.specs.Told.{columns_from}
use Rattle.pubsub.proofs.LineLemmas.{rows_table}
use Rattle.pubsub.proofs.parts.table_of.Goals as goal

pub invariant_of-result : goal.invariant_of-result
invariant_of-result c =
    let lines = flat_map part_lines c.args.parts.now in
    record {
      in_shape = rows_table c.args.shape.now lines c.in_ok-names.names c.in_ok-columns.columns c.requires.shape c.in_ok-names.ensures
          (c.in_ok-columns.ensures ∙ ap (λ (kinds : List Kind). columns_from 0 kinds lines) c.as_slice.ensures);
    }
