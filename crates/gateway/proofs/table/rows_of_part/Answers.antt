use Rattle.std.specs.Prelude.{option_copied}
use Rattle.gateway.proofs.PartLemmas.{part_made}
use Rattle.gateway.proofs.table.rows_of_part.Goals as goal

pub invariant_of-result : goal.invariant_of-result
invariant_of-result c = record {
  even = part_made c.args.part.now.dates.now c.args.snapshot.now.frame.first c.args.snapshot.now.entries c.args.part.now.index c.args.table.now c.args.wanted.now (option_copied c.args.part.now.places) c.in_ok-names.names c.in_ok-columns.columns
      c.requires.named c.requires.places c.in_ok-names.ensures c.in_ok-columns.ensures;
}
